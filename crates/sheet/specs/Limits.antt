-- The limits of a sheet.
use Rattle.std.specs.Prelude.{ℕ}

-- A longer sheet is refused, whatever it holds.
abbrev pub longest_sheet : ℕ
longest_sheet = 4096

-- The counts of the sections: one field; carrying and spare moduli; calls.
abbrev pub least_moduli : ℕ
least_moduli = 1

abbrev pub most_moduli : ℕ
most_moduli = 23

abbrev pub most_calls : ℕ
most_calls = 99

-- The line of the first carrying modulus, lines being counted from 0: before it stand the count and the name
-- of the field, and the count of carrying moduli.
abbrev pub first_modulus_line : ℕ
first_modulus_line = 3

-- A number of a call is written with at most this many digits.
abbrev pub most_call_digits : ℕ
most_call_digits = 4

-- A put carries at most this many codes, and a measure this many.
abbrev pub most_put_codes : ℕ
most_put_codes = 8

abbrev pub most_measure_codes : ℕ
most_measure_codes = 64
