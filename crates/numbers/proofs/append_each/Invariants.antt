use Rattle.std.proofs.Common.{◌≡◌, ◌≤◌, ◌++◌, take, vec_capacity}
use Rattle.numbers.specs.Rows.{row_text}
use Rattle.numbers.proofs.append_each.Given as goal

-- The numbers so far are appended.
abbrev pub invariant-loop-number : goal.invariant-loop-number
invariant-loop-number l = record {
  so_far : l.text.items ≡ l.initial.text.items ++ row_text (take l.number-index l.numbers);
  capacity : vec_capacity l.initial.text ≤ vec_capacity l.text;
}
