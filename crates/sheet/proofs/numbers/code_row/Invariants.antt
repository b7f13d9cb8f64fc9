use Rattle.std.proofs.Common.{◌-◌, ◌≤◌, vec_capacity, vec_items, vec_len}
use Rattle.sheet.specs.CallNumbers.{NumbersAt}
use Rattle.sheet.specs.Rooms.{most_call_codes}
use Rattle.sheet.proofs.numbers.code_row.Given as goal

abbrev pub invariant-loop-from : goal.invariant-loop-from
invariant-loop-from l =
    (vec_len l.codes ≤ l.most) × NumbersAt l.from.sheet.now l.from.place l.end (vec_items l.codes) × (most_call_codes ≤ vec_capacity l.codes)

abbrev pub decreases-loop-from : goal.decreases-loop-from
decreases-loop-from l = l.most - vec_len l.codes
