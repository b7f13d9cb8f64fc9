-- That nibbles are a field, for the `impl` to cite: the checker computes the test.
use Rattle.std.specs.Prelude.{bit_xor, refl}
use Rattle.algebra.specs.Arithmetics.{reciprocal, such_that}
use Rattle.algebra.specs.BitPolynomials.{carry_less, reduce}
use Rattle.algebra.specs.Field.{FieldLaws}
use Rattle.laboratory.specs.Nibbles.{nibble_arithmetic, nibble_product}
use Rattle.small_field.proofs.Passed.{passed}

pub sixteen : FieldLaws nibble_arithmetic
unfolding nibble_product reduce carry_less reciprocal such_that
sixteen = passed 16 bit_xor (λ a. a) nibble_product refl
