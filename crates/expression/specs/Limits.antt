-- The limits of an expression.
use Rattle.std.specs.Prelude.{ℕ}

-- A number is written with at most this many digits.
abbrev pub most_digits : ℕ
most_digits = 3

-- At most this many brackets are open together.
abbrev pub most_brackets : ℕ
most_brackets = 8

-- A number of so many digits always fits 16 bits.
abbrev pub short_number : ℕ
short_number = 4
