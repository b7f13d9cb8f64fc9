use Rattle.std.proofs.Common.{◌≡◌, Some, sym, ap, ◌∙◌}
use Rattle.std.specs.Option.{option_copied}
use Rattle.algebra.specs.Polynomial.{coefficients}
use Rattle.plan.specs.Held.{scheme}
use Rattle.plan.specs.Schemes.{modulus}
use Rattle.reader.specs.Arrivals.{account_of}
use Rattle.reader.specs.Gathering.{usable}
use Rattle.reader.specs.States.{IsPair}
use Rattle.reader.proofs.Gathers.{pair_here, usable_parts}
use Rattle.reader.proofs.arrived.Arrived.congruence.Given as given
use Rattle.reader.proofs.arrived.Arrived.congruence.Goals as goal
use Rattle.reader.proofs.arrived.Arrived.congruence.Goals.{After-divisor}

-- The residue is what is used, and with its modulus it makes a pair to join.
paired : (g : given.Over) (c : After-divisor g)
    → (usable (scheme c.args.self.now.plan.now) c.args.i (account_of c.args.self.now.residues.now c.args.i) ≡ Some c.in_ok-residue.residue.now)
    × (coefficients c.divisor.result.now ≡ coefficients (modulus (scheme c.args.self.now.plan.now) c.args.i))
    × IsPair g.F.Field.arithmetic c.divisor.result.now c.in_ok-residue.residue.now
paired g c =
    let f = g.F.Field.arithmetic in
    let p = c.args.self.now.plan.now in
    let account = account_of c.args.self.now.residues.now in
    let i = c.args.i in
    let y = c.in_ok-residue.residue.now in
    let used : usable (scheme p) i (account i) ≡ Some y = sym c.usable_residue.ensures ∙ ap option_copied c.in_ok-residue.was in
    let parts = usable_parts p g.met.F.Field.lawful account i (account i) y used in
    let pair =
    pair_here f (modulus (scheme p) i) c.divisor.result.now y (p.lawful.moduli_lawful i c.requires) c.divisor.ensures.value c.divisor.ensures.short
    parts.1 parts.2 in
    (used, pair.0, pair.1)

pub invariant_of-result : goal.invariant_of-result
invariant_of-result g c = record { pair = (paired g (goal.at.invariant_of-result g c).After-divisor).2 }

pub returns : goal.returns
returns g c = let all = paired g (goal.at.returns g c).After-divisor in (all.0, all.1)
