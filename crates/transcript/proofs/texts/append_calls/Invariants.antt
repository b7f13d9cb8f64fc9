use Rattle.std.proofs.Common.{◌≡◌, ◌+◌, ◌*◌, ◌≤◌, ◌++◌, take, vec_capacity, vec_len}
use Rattle.transcript.specs.Limits.{longest_call_line}
use Rattle.transcript.specs.Lines.{lines_text}
use Rattle.transcript.proofs.texts.append_calls.Given as goal

-- The lines of the calls so far are appended, and are short.
abbrev pub invariant-loop-call : goal.invariant-loop-call
invariant-loop-call l = record {
  so_far : l.text.items ≡ l.initial.text.items ++ lines_text (take l.call-index l.ended);
  short : vec_len l.text ≤ vec_len l.initial.text + l.call-index * longest_call_line;
  capacity : vec_capacity l.initial.text ≤ vec_capacity l.text;
}
