use Rattle.std.proofs.Common.{◌≡◌, ℕ, zero, suc, ◌+◌, ◌<◌, true, eqb, [], ◌∷◌, length, sym, refl, arith}
use Rattle.algebra.specs.Arithmetics.{byte_arithmetic, modulo}
use Rattle.algebra.specs.BitPolynomials.{byte_product, carry_less, reduce}
use Rattle.algebra.specs.Field.{Arithmetic, FieldLaws}
use Rattle.algebra.specs.Polynomial.{ShareFactor, coefficients, multiply}
use Rattle.algebra.proofs.Bytes.{bytes}
use Rattle.algebra.proofs.Computed.{all_below}
use Rattle.algebra.proofs.Modular.{bit_laws, clock_laws}
use Rattle.algebra.proofs.Residues.{divides_self}
use Rattle.plan.specs.Refusals.{Accepted, Refused}
use Rattle.plan.specs.Schemes.{AreModuli, Clash, IsShaped, handed_in}
use Rattle.plan.specs.declared.faults.PlanFault.TheVariants.{SharedFactor}
use Rattle.plan.proofs.Sizes.{modulus_degree}
use Rattle.examples.specs.Factors.{FactorExamples, both}
use Rattle.examples.specs.Plans.{z+1, z²+1}
use Rattle.examples.proofs.Places.{AllCodes, all_codes, codes_polynomial, is_modulus, not_shared_by_places, product_is}

-- Where (z + 1)·(z + 1) is z² + 1, the factor that they share is z + 1.
square_shared : (f : Arithmetic) (L : FieldLaws f) → AllCodes f z+1
    → all_below (λ i. eqb (multiply f (coefficients z+1) (coefficients z+1) i) (coefficients z²+1 i)) (length z+1 + length z+1) ≡ true
    → ShareFactor f (coefficients z+1) (coefficients z²+1)
square_shared f L codes square =
    let is = codes_polynomial f L z+1 codes in
    record {
      factor = coefficients z+1;
      factor_polynomial = is;
      degree = 1;
      degree_least = omega arith;
      has_degree = modulus_degree f z+1 (record { codes = all_codes f L z+1 codes; proper = omega arith; leading = refl });
      divides_left = divides_self f L (coefficients z+1) is;
      divides_right =
          record { by = coefficients z+1; by_polynomial = is; is = sym (product_is f L z+1 z+1 z²+1 codes codes (omega arith) square) };
    }

-- The two moduli are handed in as they should be, and each is lawful by itself.
shaped : IsShaped 1 both
shaped = record { whole = refl; enough = omega arith; few = omega arith; carrying = omega arith; spare = omega arith }

module _ (f : Arithmetic) (L : FieldLaws f) (first : AllCodes f z+1) (second : AllCodes f z²+1) where
  each_lawful : AreModuli (handed_in f 1 both)
  each_lawful zero l = is_modulus f L z+1 1 first refl (omega arith) refl
  each_lawful (suc zero) l = is_modulus f L z²+1 2 second refl (omega arith) refl
  each_lawful (suc (suc i)) l = absurd (omega arith)

  -- Where they share a factor, the pair is refused; where they share none, they make a plan.
  refused_pair : ShareFactor f (coefficients z+1) (coefficients z²+1) → Refused f 1 both (SharedFactor 0 1)
  refused_pair shared = (
    shaped,
    each_lawful,
    omega arith,
    record {
      ordered = omega arith;
      place = omega arith;
      clash = shared;
      rows_before = λ a b before ordered place clash. absurd (omega (arith, before));
      before_in_row = λ b above below clash. absurd (omega (arith, above, below));
    },
  )

  accepted_pair : ¬ (ShareFactor f (coefficients z+1) (coefficients z²+1)) → Accepted f 1 both
  accepted_pair none =
      record {
        shaped = shaped;
        lawful =
            record {
              enough = omega arith;
              few = omega arith;
              carrying = omega arith;
              spare = omega arith;
              moduli_lawful = each_lawful;
              short = omega arith;
              apart = apart;
            };
      }
    where
      apart : (i j : ℕ) → i < j → j < 2 → ¬ (Clash (handed_in f 1 both) i j)
      apart zero (suc zero) ordered place clash = none clash
      apart i zero ordered place clash = absurd (omega arith)
      apart (suc i) (suc zero) ordered place clash = absurd (omega arith)
      apart i (suc (suc j)) ordered place clash = absurd (omega arith)

-- Modulo 257, (128·z + 129)·(z + 1) + 129·(z² + 1) = 1.
pub factors : FactorExamples
unfolding byte_product carry_less reduce multiply
factors =
    let in_bits = square_shared (modulo 2) bit_laws refl refl in
    let in_bytes = square_shared byte_arithmetic bytes refl refl in
    let not_in_clock =
    not_shared_by_places (modulo 257) clock_laws z+1 z²+1 (129 ∷ 128 ∷ []) (129 ∷ []) refl refl refl refl 10 (omega arith) (omega arith) refl in
    record {
      in_bits = in_bits;
      in_bytes = in_bytes;
      refused_in_bits = refused_pair (modulo 2) bit_laws refl refl in_bits;
      refused_in_bytes = refused_pair byte_arithmetic bytes refl refl in_bytes;
      not_in_clock = not_in_clock;
      accepted_in_clock = accepted_pair (modulo 257) clock_laws refl refl not_in_clock;
    }
