-- How long a transcript's text can be.
use Rattle.std.specs.Prelude.{ℕ, ◌+◌, ◌*◌}
use Rattle.fault.specs.Shown.{longest_line}
use Rattle.numbers.specs.Rows.{longest_number}
use Rattle.plan.specs.Limits.{most_total}
use Rattle.sheet.specs.Limits.{most_calls}

-- No call's line is longer: what a refusal takes, the codes of a buffer, and the end of the line.
abbrev pub longest_call_line : ℕ
longest_call_line = longest_line + most_total * longest_number + 1

-- No text is longer: a line for each call.
abbrev pub longest_text : ℕ
longest_text = most_calls * longest_call_line
