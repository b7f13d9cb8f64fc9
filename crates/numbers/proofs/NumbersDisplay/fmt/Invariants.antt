use Rattle.std.proofs.Common.{take}
use Rattle.std.specs.Fmt.{HasWritten, IsPlainFormatter}
use Rattle.numbers.specs.Rows.{row_text}
use Rattle.numbers.proofs.NumbersDisplay.fmt.Given as goal

-- The numbers so far are written.
abbrev pub invariant-loop-number : goal.invariant-loop-number
invariant-loop-number g l =
    IsPlainFormatter l.initial.f
    → HasWritten g.W.Write.write_str_gives l.initial.f (row_text (take l.number-index l.number-items)) l.f
