use Rattle.std.proofs.Common.{◌≡◌, ◌+◌, ◌≤◌, All, map, vec_capacity, vec_items, vec_len}
use Rattle.std.specs.Vec.Iter.{into_iter_items, into_iter_len}
use Rattle.batch.specs.Lists.{requests}
use Rattle.rack.specs.Racks.{given_by}
use Rattle.sheet.specs.Rooms.{HasRoom}
use Rattle.transcript.specs.Runs.{buffered}
use Rattle.transcript.proofs.entries.entries_of.Given as goal

-- The list holds the calls so far, and there is room for those to come.
abbrev pub invariant-loop-call : goal.invariant-loop-call
invariant-loop-call l = record {
  listed : requests (vec_items l.room) ≡ map (buffered l.codes) (map given_by l.yielded);
  buffers : All HasRoom (into_iter_items l.call-iterator);
  fits : vec_len l.room + into_iter_len l.call-iterator ≤ vec_capacity l.room;
}
