use Rattle.std.proofs.Common.{◌≡◌, ◌-◌, ◌≤◌, length, take}
use Rattle.std.specs.Io.KnownBytes.{Consumes}
use Rattle.transcript.proofs.streams.fill.Given as goal

-- What is filled is what was taken.
abbrev pub invariant-loop-end : goal.invariant-loop-end
invariant-loop-end g l = record {
  long : length l.buffer ≡ length l.initial.buffer;
  within : l.end ≤ length l.buffer;
  bytes : Consumes (g.R.Source.left l.initial.reader) (g.R.Source.left l.reader) (take l.end l.buffer);
}

abbrev pub decreases-loop-end : goal.decreases-loop-end
decreases-loop-end g l = length l.initial.buffer - l.end
