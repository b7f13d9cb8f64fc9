use Rattle.std.proofs.Common.{◌≡◌, ℕ, ◌<◌}
use Rattle.small_field.specs.Candidates.{times}
use Rattle.small_field.proofs.tables.Tables.has_inverse.Given as goal

abbrev pub invariant-loop-b : goal.invariant-loop-b
invariant-loop-b l = (b : ℕ) → b < l.b → ¬ (times l.self l.fn.a b ≡ 1)
