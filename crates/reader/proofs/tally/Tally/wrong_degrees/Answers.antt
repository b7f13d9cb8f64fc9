use Rattle.std.proofs.Common.{ℕ, ◌∙◌, arith, rules}
use Rattle.std.proofs.lemmas.Iterator.{YieldsList-from_map, YieldsList-from_range}
use Rattle.std.proofs.lemmas.Iterator.Consumers.{fits_from_yields_list, sum_from_yields_List}
use Rattle.plan.specs.Accounts.{charge}
use Rattle.plan.specs.Held.{scheme}
use Rattle.plan.specs.Schemes.{positions}
use Rattle.plan.proofs.Tallies.{wrong_most}
use Rattle.reader.proofs.Tallied.{sum_over}
use Rattle.reader.proofs.tally.Tally.wrong_degrees.Goals as goal

pub sum-requires-clause-fits : goal.sum-requires-clause-fits
sum-requires-clause-fits g c =
    let p = c.args.self.now.plan.now in
    let s = scheme p in
    let account = g.R.Residues.account c.args.self.now.source.now in
    let amount = λ (i : ℕ). charge s c.args.message.now i (account i) in
    fits_from_yields_list c.map.result _
    (YieldsList-from_map _ amount (YieldsList-from_range 0 (positions s) (positions s) (cc) (omega arith)) c.map.ensures.closure (λ x r q k. search rules))
    (omega (arith, sum_over amount (positions s), wrong_most s account c.args.message.now, p.lawful.short))

pub returns : goal.returns
returns g c =
    let s = scheme c.args.self.now.plan.now in
    let account = g.R.Residues.account c.args.self.now.source.now in
    let amount = λ (i : ℕ). charge s c.args.message.now i (account i) in
    sum_from_yields_List c.map.result _ c.sum.ensures.ran
    (YieldsList-from_map _ amount (YieldsList-from_range 0 (positions s) (positions s) (cc) (omega arith)) c.map.ensures.closure (λ x r q k. search rules))
    ∙ sum_over amount (positions s)
