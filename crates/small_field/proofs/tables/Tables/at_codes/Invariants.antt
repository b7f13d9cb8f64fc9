use Rattle.std.proofs.Common.{ℕ, ◌<◌}
use Rattle.small_field.specs.Stages.{CodeHolds}
use Rattle.small_field.proofs.tables.Tables.at_codes.Given as goal

abbrev pub invariant-loop-a : goal.invariant-loop-a
invariant-loop-a l = (a : ℕ) → a < l.a → CodeHolds l.self a
