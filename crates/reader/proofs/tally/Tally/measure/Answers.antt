use Rattle.std.proofs.Common.{arith}
use Rattle.plan.specs.Held.{scheme}
use Rattle.plan.proofs.Tallies.{wrong_most}
use Rattle.reader.proofs.tally.Tally.measure.Goals as goal

pub margin_of-requires-clause-erasures : goal.margin_of-requires-clause-erasures
margin_of-requires-clause-erasures g c =
    let p = c.args.self.now.plan.now in
    omega (
      arith,
      wrong_most (scheme p) (g.R.Residues.account c.args.self.now.source.now) c.args.message.now,
      p.lawful.short,
      c.missing_degrees.ensures,
    )

pub margin_of-requires-clause-errors : goal.margin_of-requires-clause-errors
margin_of-requires-clause-errors g c =
    let p = c.args.self.now.plan.now in
    omega (
      arith,
      wrong_most (scheme p) (g.R.Residues.account c.args.self.now.source.now) c.args.message.now,
      p.lawful.short,
      c.wrong_degrees.ensures,
    )
