use Rattle.std.proofs.Common.{ℕ, sym, subst, arith}
use native.Mathlib.Decide.{ℕ_discrete}
use Rattle.small_field.specs.Stages.{TripleHolds}
use Rattle.small_field.proofs.tables.Tables.at_triples.Goals as goal

pub loop-a-preserved : goal.loop-a-preserved
loop-a-preserved c = λ x y z h k l. elim (ℕ_discrete x c.loop-a.a) [
  | yes same ↦ subst (λ (w : ℕ). TripleHolds c.args.self.now w y z) (sym same) (c.in_ok-at_triples_from.ensures y z k l)
  | no other ↦ c.loop-a.invariant x y z (omega arith) k l
]
