-- The field of sixteen elements: nibbles, numbers of four bits, as polynomials of bits. The sum is exclusive
-- or, so each nibble is its own negative.
use Rattle.std.specs.Prelude.{ℕ, ◌<◌, bit_xor}
use Rattle.algebra.specs.Arithmetics.{on_codes_below}
use Rattle.algebra.specs.BitPolynomials.{carry_less, reduce}
use Rattle.algebra.specs.Field.{Arithmetic}
use Rattle.algebra.specs.Theorems.{OneBitRemainder}

-- The polynomial that nibbles are reduced by: x^4 + x + 1.
abbrev pub nibble_modulus : ℕ
nibble_modulus = 0x13

-- The product of two nibbles: seven bits at most, reduced to four.
unfoldable pub nibble_product : ℕ → ℕ → ℕ
nibble_product a b = reduce 4 nibble_modulus 3 (carry_less 4 a b)

abbrev pub nibble_arithmetic : Arithmetic
nibble_arithmetic = on_codes_below 16 bit_xor (λ a. a) nibble_product

-- So a product of nibbles is the remainder of the product of their polynomials: a · b = quotient · 0x13 + the
-- answer, which is a nibble.
abbrev pub NibbleProductIsRemainder : Type 0
NibbleProductIsRemainder = (a b : ℕ) → a < 16 → b < 16 → OneBitRemainder 4 0x13 (carry_less 4 a b) (nibble_product a b)
