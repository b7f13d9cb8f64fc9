-- A degree as a signed number, and as the natural number that it is unless the polynomial is zero.
use Rattle.std.proofs.Common.{◌≡◌, ℕ, zero, suc, true, false, List, ℤ, pos, negsuc, nat_abs, sym, ap, ◌∙◌, arith, to_z-of_z, w32, SFits, to_z, of_z}
use lib.Signed.{lt_z}
use Rattle.std.proofs.lemmas.Bool.{ltb-true, true≢false}
use Rattle.algebra.specs.Polynomial.{DegreeIs, coefficients}
use Rattle.plan.specs.Schemes.{degree_of}
use Rattle.plan.proofs.Sizes.{degree_of_degree, extent_of_nought}

sign_negative : (xs : List ℕ) (z : ℤ) → DegreeIs (coefficients xs) z → lt_z z (pos 0) ≡ true → 0 ≡ degree_of xs
sign_negative xs (pos d) h e = absurd (omega (arith, ltb-true d 0 e))
sign_negative xs (negsuc zero) h e = omega (arith, extent_of_nought xs h)
sign_negative xs (negsuc (suc n)) h e = absurd h

sign_positive : (xs : List ℕ) (z : ℤ) → DegreeIs (coefficients xs) z → lt_z z (pos 0) ≡ false → nat_abs z ≡ degree_of xs
sign_positive xs (pos d) h e = sym (degree_of_degree d xs h)
sign_positive xs (negsuc n) h e = absurd (true≢false e)

-- The same of a number that has passed through a register.
pub no_degree : (xs : List ℕ) (z : ℤ) → SFits w32 z → DegreeIs (coefficients xs) z → lt_z (to_z w32 (of_z w32 z)) (pos 0) ≡ true → 0 ≡ degree_of xs
no_degree xs z fits h e = sign_negative xs z h (ap (λ y. lt_z y (pos 0)) (sym (to_z-of_z fits)) ∙ e)

pub some_degree : (xs : List ℕ) (z : ℤ) → SFits w32 z → DegreeIs (coefficients xs) z → lt_z (to_z w32 (of_z w32 z)) (pos 0) ≡ false
    → nat_abs (to_z w32 (of_z w32 z)) ≡ degree_of xs
some_degree xs z fits h e = ap nat_abs (to_z-of_z fits) ∙ sign_positive xs z h (ap (λ y. lt_z y (pos 0)) (sym (to_z-of_z fits)) ∙ e)
