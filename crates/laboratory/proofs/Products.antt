-- Products of nibbles, by tests that the checker computes.
use Rattle.std.proofs.Common.{◌≡◌, ℕ, ◌*◌, ◌/◌, ◌%◌, ◌<◌, cond, ltb, sym, refl, ap, ◌∙◌, arith}
use lib.Bits.{bit_xor, xor_assoc}
use Rattle.std.proofs.lemmas.Bool.{ltb-true}
use Rattle.algebra.specs.BitPolynomials.{carry_less, reduce}
use Rattle.algebra.specs.Theorems.{OneBitRemainder}
use Rattle.algebra.proofs.BitReduction.{one_remainder, product_bits}
use Rattle.algebra.proofs.Computed.{agree_below, agree_at_pairs, passes_below}
use Rattle.laboratory.specs.Nibbles.{nibble_modulus, nibble_product}

pub by_x : (a : ℕ) → a < 16 → cond (ltb (2 * a) 16) (2 * a) (bit_xor (2 * a) nibble_modulus) ≡ nibble_product 2 a
unfolding nibble_product reduce carry_less
by_x = agree_below (λ a. cond (ltb (2 * a) 16) (2 * a) (bit_xor (2 * a) nibble_modulus)) (nibble_product 2) 16 refl

pub by_x_below : (a : ℕ) → a < 16 → nibble_product 2 a < 16
unfolding nibble_product reduce carry_less
by_x_below a h = ltb-true (nibble_product 2 a) 16 (passes_below (λ a. ltb (nibble_product 2 a) 16) 16 refl a h)

pub by_zero : (a : ℕ) → a < 16 → nibble_product a 0 ≡ 0
unfolding nibble_product reduce carry_less
by_zero = agree_below (λ a. nibble_product a 0) (λ _. 0) 16 refl

-- What the lowest bit of b gives, and the product of x · a by the bits above it.
by_bits : (a b : ℕ) → a < 16 → b < 16 → nibble_product a b ≡ bit_xor (b % 2 * a) (nibble_product (nibble_product 2 a) (b / 2))
unfolding nibble_product reduce carry_less
by_bits = agree_at_pairs nibble_product (λ a b. bit_xor (b % 2 * a) (nibble_product (nibble_product 2 a) (b / 2))) 16 refl

-- So the sum so far, and the product that is left, stay the same in one.
pub next : (sum a b : ℕ) → a < 16 → b < 16
    → bit_xor (bit_xor sum (b % 2 * a)) (nibble_product (nibble_product 2 a) (b / 2)) ≡ bit_xor sum (nibble_product a b)
next sum a b ha hb = xor_assoc sum (b % 2 * a) (nibble_product (nibble_product 2 a) (b / 2)) ∙ ap (bit_xor sum) (sym (by_bits a b ha hb))

pub product_remainder : (a b : ℕ) → a < 16 → b < 16 → OneBitRemainder 4 nibble_modulus (carry_less 4 a b) (nibble_product a b)
unfolding nibble_product
product_remainder a b ha hb = one_remainder 4 nibble_modulus (omega arith) (omega arith) 3 (carry_less 4 a b) (product_bits 4 3 a b ha)
