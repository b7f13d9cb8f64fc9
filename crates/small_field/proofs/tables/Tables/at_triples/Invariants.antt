use Rattle.std.proofs.Common.{ℕ, ◌<◌}
use Rattle.small_field.specs.Stages.{TripleHolds}
use Rattle.small_field.proofs.tables.Tables.at_triples.Given as goal

abbrev pub invariant-loop-a : goal.invariant-loop-a
invariant-loop-a l = (a b c : ℕ) → a < l.a → b < l.self.order → c < l.self.order → TripleHolds l.self a b c
