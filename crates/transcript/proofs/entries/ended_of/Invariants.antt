use Rattle.std.proofs.Common.{◌≡◌, ◌+◌, ◌≤◌, All, map, vec_capacity, vec_items, vec_len}
use Rattle.std.specs.Vec.Iter.{into_iter_items, into_iter_len}
use Rattle.transcript.specs.Endings.{IsOver, entry_of}
use Rattle.transcript.proofs.entries.ended_of.Given as goal

-- The calls so far have their outcomes, and there is room for those to come.
abbrev pub invariant-loop-entry : goal.invariant-loop-entry
invariant-loop-entry l = record {
  listed : map entry_of (vec_items l.room) ≡ l.yielded;
  over : All IsOver (into_iter_items l.entry-iterator);
  fits : vec_len l.room + into_iter_len l.entry-iterator ≤ vec_capacity l.room;
}
