-- The arithmetics of the three fields, each by its textbook definition, and the form that they share.
use Rattle.std.specs.Prelude.{ℕ, zero, suc, ◌+◌, ◌-◌, ◌*◌, ◌%◌, Bool, cond, bit_xor, nat_eq, nat_lt}
use Rattle.algebra.specs.BitPolynomials.{byte_product}
use Rattle.algebra.specs.Field.{Arithmetic}

-- An operation on the codes below q, which answers 0 when it is given any other number.
abbrev pub on_code : ℕ → (ℕ → ℕ) → ℕ → ℕ
on_code q g a = cond (nat_lt a q) (g a) 0

abbrev pub on_codes : ℕ → (ℕ → ℕ → ℕ) → ℕ → ℕ → ℕ
on_codes q g a b = cond (nat_lt a q) (cond (nat_lt b q) (g a b) 0) 0

-- The number below n that passes the test, the largest where several do; 0 where none does.
unfoldable pub such_that : (ℕ → Bool) → ℕ → ℕ
such_that test zero = 0
such_that test (suc n) = cond (test n) n (such_that test n)

-- The inverse of a: the code whose product with a is 1, of which a field has one at most; 0 where there is none.
unfoldable pub reciprocal : ℕ → (ℕ → ℕ → ℕ) → ℕ → ℕ
reciprocal q times a = such_that (λ b. nat_eq (times a b) 1) q

-- The arithmetic on the codes below q of a sum, a negative and a product.
abbrev pub on_codes_below : ℕ → (ℕ → ℕ → ℕ) → (ℕ → ℕ) → (ℕ → ℕ → ℕ) → Arithmetic
on_codes_below q plus minus times =
    record {
      order = q;
      sum = on_codes q plus;
      negative = on_code q minus;
      product = on_codes q times;
      inverse = on_code q (reciprocal q times);
    }

-- The whole numbers modulo q.
abbrev pub modulo : ℕ → Arithmetic
modulo q = on_codes_below q (λ a b. (a + b) % q) (λ a. (q - a) % q) (λ a b. a * b % q)

-- Bytes as polynomials of eight bits: the sum is exclusive or, so each byte is its own negative.
abbrev pub byte_arithmetic : Arithmetic
byte_arithmetic = on_codes_below 256 bit_xor (λ a. a) byte_product
