use Rattle.std.proofs.Common.{ℕ, ◌<◌}
use Rattle.small_field.specs.Stages.{PairHolds}
use Rattle.small_field.proofs.tables.Tables.at_pairs.Given as goal

abbrev pub invariant-loop-a : goal.invariant-loop-a
invariant-loop-a l = (a b : ℕ) → a < l.a → b < l.self.order → PairHolds l.self a b
