use Rattle.std.proofs.Common.{ℕ, sym, subst, arith}
use native.Mathlib.Decide.{ℕ_discrete}
use Rattle.small_field.specs.Stages.{TripleHolds}
use Rattle.small_field.proofs.tables.Tables.at_triples_from.Goals as goal

pub loop-b-preserved : goal.loop-b-preserved
loop-b-preserved c = λ x y h k. elim (ℕ_discrete x c.loop-b.b) [
  | yes same ↦ subst (λ (z : ℕ). TripleHolds c.args.self.now c.args.a z y) (sym same) (c.in_ok-at_triples_of.ensures y k)
  | no other ↦ c.loop-b.invariant x y (omega arith) k
]
