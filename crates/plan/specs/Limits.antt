-- The limits of a plan, each under one name.
use Rattle.std.specs.Prelude.{ℕ}

-- A modulus is handed in as this many codes, so its degree is at most one less.
abbrev pub modulus_codes : ℕ
modulus_codes = 9

-- A constant is no modulus.
abbrev pub least_degree : ℕ
least_degree = 1

abbrev pub fewest_positions : ℕ
fewest_positions = 2

abbrev pub most_positions : ℕ
most_positions = 24

-- The degrees of all moduli sum to this at most.
abbrev pub most_total : ℕ
most_total = 64
