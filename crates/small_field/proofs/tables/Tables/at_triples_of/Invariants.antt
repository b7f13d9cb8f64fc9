use Rattle.std.proofs.Common.{ℕ, ◌<◌}
use Rattle.small_field.specs.Stages.{TripleHolds}
use Rattle.small_field.proofs.tables.Tables.at_triples_of.Given as goal

abbrev pub invariant-loop-c : goal.invariant-loop-c
invariant-loop-c l = (c : ℕ) → c < l.c → TripleHolds l.self l.fn.a l.fn.b c
