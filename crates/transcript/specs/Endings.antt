-- A list of calls that was run, as calls that each have an outcome.
use Rattle.std.specs.Prelude.{◌≤◌, length, Some, IsSome}
use Rattle.batch.specs.declared.entry.Entry.{Entry}
use Rattle.plan.specs.Limits.{most_total}
use Rattle.rack.specs.Racks.{given_by}
use Rattle.transcript.specs.Buffers.{buffer_in}
use Rattle.transcript.specs.declared.ended.Ended.{Ended}

-- What ended, as an entry of the list that was run.
abbrev pub entry_of : Ended → Entry
entry_of ended = record { call = ended.call; outcome = Some ended.outcome }

-- The call was run, and its buffer holds no more codes than a word.
pub record IsOver (entry : Entry) : Type 0 where
  pub told : IsSome entry.outcome
  pub short : length (buffer_in (given_by entry.call)) ≤ most_total
