-- A machine that follows a line with a call byte by byte, from the end of the name on. It serves to show that after some bytes no such
-- line goes on.
use Rattle.std.proofs.Common.{ℕ, zero, suc, Bool, cond, ◌&&◌, eqb, ltb, leb, List, [], ◌∷◌}
use Rattle.expression.specs.Bytes.{blank_byte, first_digit, last_digit, line_end}
use Rattle.sheet.specs.CallNames.{least_numbers, most_numbers}
use Rattle.sheet.specs.declared.call_names.CallName.{CallName}

-- After k numbers, the last of which may have so many digits more; after a blank; after the line; where no line goes on.
pub data State : Type 0 where
  after : CallName → (k room : ℕ) → State
  wants : CallName → (k : ℕ) → State
  over : State
  dead : State

abbrev pub digit : ℕ → Bool
digit b = leb first_digit b && leb b last_digit

abbrev pub sign : CallName → ℕ → ℕ → State
sign name k b =
    cond (eqb b blank_byte) (cond (ltb k (most_numbers name)) (wants name k) dead)
    (cond (eqb b line_end) (cond (leb (least_numbers name) k) over dead) dead)

abbrev pub step : State → ℕ → State
step (after name k zero) b = sign name k b
step (after name k (suc room)) b = cond (digit b) (after name k room) (sign name k b)
step (wants name k) b = cond (digit b) (after name (suc k) 3) dead
step over b = dead
step dead b = dead

abbrev pub run : State → List ℕ → State
run q [] = q
run q (b ∷ x) = run (step q b) x
