-- Inner: no public contract cites this.
-- A watch that follows a line byte by byte and knows no values. It serves the proofs alone, to show that
-- after some byte no line goes on: the readers promise each other what it sees.
use Rattle.std.specs.Prelude.{ℕ, zero, suc, ◌-◌, Bool, cond, ◌&&◌, List, [], ◌∷◌, ◌==◌, nat_le, nat_lt}
use Rattle.expression.specs.Bytes.{caret, first_digit, last_digit, left_bracket, letter_z, line_end, plus_sign, right_bracket, times_sign}
use Rattle.expression.specs.Limits.{most_brackets, most_digits}

-- Where a factor stands: not begun; whole, though that many digits may go on with it; a z; a z with its caret.
pub data Spot : Type 0 where
  fresh : Spot
  whole : ℕ → Spot
  lettered : Spot
  raised : Spot

-- No line begins so; the line is over; or inside it, where that many brackets may still be opened.
pub data Watch : Type 0 where
  broken : Watch
  ended : Watch
  inside : ℕ → Spot → Watch

abbrev pub is_digit : ℕ → Bool
is_digit b = nat_le first_digit b && nat_le b last_digit

-- A bracket is opened.
abbrev pub opened : ℕ → Watch
opened zero = broken
opened (suc n) = inside n fresh

-- The byte after a whole factor.
abbrev pub after_factor : ℕ → ℕ → Watch
after_factor n b =
    cond (b == times_sign) (inside n fresh)
    (cond (b == plus_sign) (inside n fresh)
    (cond (b == right_bracket) (cond (nat_lt n most_brackets) (inside (suc n) (whole 0)) broken)
    (cond (b == line_end) (cond (n == most_brackets) ended broken) broken)))

abbrev pub step : Watch → ℕ → Watch
step broken b = broken
step ended b = broken
step (inside n fresh) b =
    cond (is_digit b) (inside n (whole (most_digits - 1))) (cond (b == letter_z) (inside n lettered) (cond (b == left_bracket) (opened n) broken))
step (inside n (whole zero)) b = after_factor n b
step (inside n (whole (suc k))) b = cond (is_digit b) (inside n (whole k)) (after_factor n b)
step (inside n lettered) b = cond (b == caret) (inside n raised) (after_factor n b)
step (inside n raised) b = cond (is_digit b) (inside n (whole (most_digits - 1))) broken

abbrev pub watch : Watch → List ℕ → Watch
watch w [] = w
watch w (b ∷ x) = watch (step w b) x
