use Rattle.std.proofs.Common.{refl}
use Rattle.algebra.specs.BitPolynomials.{byte_product, carry_less, reduce}
use Rattle.examples.specs.Fields.{FieldExamples}

pub fields : FieldExamples
unfolding byte_product carry_less reduce
fields = record { in_bytes = refl; in_clock = refl }
