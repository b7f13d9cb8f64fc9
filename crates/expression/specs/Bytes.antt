-- The bytes that expressions are written with.
use Rattle.std.specs.Prelude.{ℕ, ◌≤◌}

-- The digits 0 to 9.
abbrev pub first_digit : ℕ
first_digit = 48

abbrev pub last_digit : ℕ
last_digit = 57

abbrev pub Digit : ℕ → Type 0
Digit b = (first_digit ≤ b) × (b ≤ last_digit)

-- z, ^, +, *, ( and ), a blank, and the end of a line.
abbrev pub letter_z : ℕ
letter_z = 122

abbrev pub caret : ℕ
caret = 94

abbrev pub plus_sign : ℕ
plus_sign = 43

abbrev pub times_sign : ℕ
times_sign = 42

abbrev pub left_bracket : ℕ
left_bracket = 40

abbrev pub right_bracket : ℕ
right_bracket = 41

abbrev pub blank_byte : ℕ
blank_byte = 32

abbrev pub line_end : ℕ
line_end = 10
