-- Products in the fields.
use Rattle.std.specs.Prelude.{◌≡◌}
use Rattle.algebra.specs.Arithmetics.{byte_arithmetic, modulo}

pub record FieldExamples : Type 0 where
  -- x · x^7 = x^8, which is x^4 + x^3 + x^2 + 1
  pub in_bytes : byte_arithmetic.product 2 128 ≡ 29
  -- 2 · 129 = 258, one more than 257
  pub in_clock : (modulo 257).product 2 129 ≡ 1
