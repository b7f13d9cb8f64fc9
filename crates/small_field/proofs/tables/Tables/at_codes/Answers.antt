use Rattle.std.proofs.Common.{ℕ, sym, subst, arith}
use native.Mathlib.Decide.{ℕ_discrete}
use Rattle.small_field.specs.Stages.{CodeHolds}
use Rattle.small_field.proofs.tables.Tables.at_codes.Goals as goal

pub loop-a-preserved : goal.loop-a-preserved
loop-a-preserved c = λ a h. elim (ℕ_discrete a c.loop-a.a) [
  | yes same ↦ subst (λ (x : ℕ). CodeHolds c.args.self.now x) (sym same) c.in_ok-at_code.ensures
  | no other ↦ c.loop-a.invariant a (omega arith)
]
