-- Polynomials over two elements, written as numbers: bit i is the coefficient of x^i, and the sum is exclusive or.
use Rattle.std.specs.Prelude.{◌≡◌, ℕ, zero, suc, ◌+◌, ◌*◌, ◌/◌, ◌%◌, ◌^◌, ◌<◌, bit_xor}

-- The product of a and the lowest n bits of b. With b = b₀ + x·b' it is b₀·a + x·(a·b').
unfoldable pub carry_less : ℕ → ℕ → ℕ → ℕ
carry_less zero a b = 0
carry_less (suc n) a b = bit_xor (b % 2 * a) (2 * carry_less n a (b / 2))

-- Of a modulus m of degree d: a number with bit d and none above it.
module _ (d m : ℕ) where
  -- The remainder by it of p, which has bits below x^(d + n): from the highest bit down, each is cleared by a
  -- multiple of the modulus.
  unfoldable pub reduce : ℕ → ℕ → ℕ
  reduce zero p = p
  reduce (suc n) p = reduce n (bit_xor p (p / 2 ^ (d + n) % 2 * (m * 2 ^ n)))

  -- r is the remainder of p by it, as a relation: p = quotient · m + r, and r is of lower degree.
  pub record IsBitRemainder (p r : ℕ) : Type 0 where
    pub bits : ℕ
    pub quotient : ℕ
    pub fits : quotient < 2 ^ bits
    pub is : p ≡ bit_xor (carry_less bits m quotient) r
    pub below : r < 2 ^ d

-- The polynomial that bytes are reduced by: x^8 + x^4 + x^3 + x^2 + 1.
abbrev pub byte_modulus : ℕ
byte_modulus = 0x11D

-- The product of two bytes: fifteen bits at most, reduced to eight.
unfoldable pub byte_product : ℕ → ℕ → ℕ
byte_product a b = reduce 8 byte_modulus 7 (carry_less 8 a b)

-- The powers of the byte 2, the polynomial x. Every byte but 0 is one of them.
unfoldable pub power_of_two : ℕ → ℕ
power_of_two zero = 1
power_of_two (suc i) = byte_product 2 (power_of_two i)
