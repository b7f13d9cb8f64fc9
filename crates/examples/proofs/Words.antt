use Rattle.std.proofs.Common.{[], ◌∷◌, refl, arith}
use Rattle.algebra.specs.BitPolynomials.{byte_product, carry_less, reduce}
use Rattle.algebra.specs.Remainder.{remainder}
use Rattle.algebra.proofs.Modular.{bit_laws}
use Rattle.plan.specs.Schemes.{IsMessage}
use Rattle.examples.specs.Plans.{P}
use Rattle.examples.specs.Words.{WordExamples}
use Rattle.examples.proofs.Places.{all_codes}

ones : IsMessage P (1 ∷ 1 ∷ [])
ones = record { long = refl; codes = all_codes P.arithmetic bit_laws (1 ∷ 1 ∷ []) refl }

pub words : WordExamples
unfolding byte_product carry_less reduce remainder
words =
    record {
      handed = refl;
      seven_codes = refl;
      two_codes = refl;
      in_bits = refl;
      encoded = λ buffer long. (ones, long, refl);
      not_encoded = λ buffer. ((refl, λ same. omega (arith, same)), refl);
      in_bytes = refl;
    }
