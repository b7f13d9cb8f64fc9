use Rattle.std.proofs.Common.{◌+◌, ◌-◌, ◌≤◌, length, vec_capacity, vec_items, vec_len}
use Rattle.sheet.specs.CallLines.{AnyCallLine}
use Rattle.sheet.specs.Limits.{most_calls}
use Rattle.sheet.specs.Sections.{AnyCalls}
use Rattle.sheet.specs.Sequences.{Rest, Times}
use Rattle.sheet.proofs.Loops.{Called}
use Rattle.sheet.proofs.sections.calls_section.Given as goal

abbrev pub invariant-loop : goal.invariant-loop
invariant-loop l = record {
  within : l.next ≤ length l.from.sheet.now;
  rest : Rest AnyCalls (Times AnyCallLine (l.end - l.counter)) l.from.sheet.now l.from.place l.next;
  called : Called l.from.sheet.now l.initial.next l.next l.counter (vec_items l.calls);
  many : vec_len l.calls ≤ l.counter;
  room : most_calls ≤ vec_capacity l.calls;
  rows : most_calls ≤ l.counter + vec_len l.rows;
}
