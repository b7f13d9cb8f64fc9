use Rattle.std.proofs.Common.{ℕ, ◌<◌}
use Rattle.small_field.specs.Stages.{TripleHolds}
use Rattle.small_field.proofs.tables.Tables.at_triples_from.Given as goal

abbrev pub invariant-loop-b : goal.invariant-loop-b
invariant-loop-b l = (b c : ℕ) → b < l.b → c < l.self.order → TripleHolds l.self l.fn.a b c
