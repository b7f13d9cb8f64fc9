-- Long division on slices: what holds when the quotient's codes from z^k on are known.
use Rattle.std.proofs.Common.{◌≡◌, ℕ, suc, ◌+◌, ◌-◌, ◌<◌, ◌≤◌, List, length, set, sym, ap, ◌∙◌, arith}
use mathlib.Core.Path.{fun_ext}
use native.Mathlib.Decide.{ℕ_discrete}
use Rattle.std.proofs.lemmas.List.{get_or-set_same, get_or-set_other}
use Rattle.algebra.specs.Field.{Arithmetic, FieldLaws}
use Rattle.algebra.specs.Polynomial.{coefficients, Below, HasDegree, add, subtract, multiply, IsPolynomial, IsDivision}
use Rattle.algebra.specs.Moduli.{monomial}
use Rattle.algebra.proofs.Codes.{zero_sum}
use Rattle.algebra.proofs.Coefficients.{list_polynomial, coefficients_below, monomial_at, monomial_off, monomial_polynomial, below_nought, below_more}
use Rattle.algebra.proofs.Residues.{division_start, division_step, division_step_below}
use Rattle.algebra.proofs.Negatives.{add_negative_multiple}
use Rattle.poly.specs.Slices.{Codes}
use Rattle.poly.proofs.Scaled.{sum_codes}

-- a = q·m + r, where q has no term below z^k and r none from z^(d+k) on.
pub record UnderDivision (f : Arithmetic) (d : ℕ) (a m : ℕ → ℕ) (k : ℕ) (q r : List ℕ) : Type 0 where
  pub q_codes : Codes f q
  pub q_from : (j : ℕ) → j < k → coefficients q j ≡ 0
  pub r_codes : Codes f r
  pub r_below : Below (d + k) (coefficients r)
  pub is : a ≡ add f (multiply f (coefficients q) m) (coefficients r)

module _ (f : Arithmetic) (L : FieldLaws f) (d : ℕ) (m : ℕ → ℕ) (hm : IsPolynomial f m) (top : HasDegree d m) where
  pub division_begins : (k : ℕ) (q r : List ℕ) → Codes f r → length r ≤ d + k → Below 0 (coefficients q)
      → UnderDivision f d (coefficients r) m k q r
  division_begins k q r hr l z =
      record {
        q_codes = λ i. omega (arith, z i (omega arith), L.order_least);
        q_from = λ j b. z j (omega arith);
        r_codes = hr;
        r_below = λ i b. coefficients_below r i (omega arith);
        is = rw (below_nought (coefficients q) z) (division_start f L (coefficients r) m (list_polynomial f L r hr) hm);
      }

  -- A code written where there was none.
  pub written_is : (q : List ℕ) (k c : ℕ) → Codes f q → c < f.order → k < length q → coefficients q k ≡ 0
      → coefficients (set q k c) ≡ add f (coefficients q) (monomial c k)
  written_is q k c hq hc l z =
      fun_ext (λ i. elim (ℕ_discrete i k) [
        | yes e ↦ rw e (get_or-set_same q k c 0 l ∙ sym (ap (λ x. f.sum x (monomial c k k)) z ∙ ap (f.sum 0) (monomial_at c k) ∙ zero_sum f L c hc))
        | no n ↦ get_or-set_other q k i c 0 n ∙ sym (ap (f.sum (coefficients q i)) (monomial_off c k i n) ∙ L.sum_zero (coefficients q i) (hq i))
      ])

  pub quotient_code : (x : ℕ) → x < f.order → f.product (f.product x (f.inverse (m d))) (m d) ≡ x
  quotient_code x hx =
      let b = m d in
      let hb = hm.codes d in
      let hi = L.inverse_below b in
      L.product_assoc x (f.inverse b) b hx hi hb
      ∙ ap (f.product x) (L.product_comm (f.inverse b) b hi hb ∙ L.product_inverse b hb top.leading)
      ∙ L.product_one x hx

  pub division_goes_on : (a : ℕ → ℕ) (k c : ℕ) (q r r' : List ℕ) → k < length q → c ≡ f.product (coefficients r (d + k)) (f.inverse (m d))
      → coefficients r' ≡ add f (coefficients r) (multiply f (monomial (f.negative c) k) m)
      → UnderDivision f d a m (k + 1) q r → UnderDivision f d a m k (set q k c) r'
  division_goes_on a k c q r r' l e w D =
      record {
        q_codes = sum_codes f L (coefficients q) (monomial c k) (set q k c) new;
        q_from = λ j b. get_or-set_other q k j c 0 (omega arith) ∙ D.q_from j (omega arith);
        r_codes = sum_codes f L (coefficients r) _ r' w;
        r_below = λ i b. ap (λ (p : ℕ → ℕ). p i) less ∙ low i b;
        is = rw (new, less) (division_step f L a m (coefficients q) (coefficients r) (monomial c k) hm hq hr (monomial_polynomial f L c k hc) D.is);
      }
    where
      hc : c < f.order
      hc = rw e (L.product_below (coefficients r (d + k)) (f.inverse (m d)))

      hq : IsPolynomial f (coefficients q)
      hq = list_polynomial f L q D.q_codes

      hr : IsPolynomial f (coefficients r)
      hr = list_polynomial f L r D.r_codes

      new : coefficients (set q k c) ≡ add f (coefficients q) (monomial c k)
      new = written_is q k c D.q_codes hc l (D.q_from k (omega arith))

      less : coefficients r' ≡ subtract f (coefficients r) (multiply f (monomial c k) m)
      less = w ∙ add_negative_multiple f L c k (coefficients r) m hc hr hm

      low : Below (d + k) (subtract f (coefficients r) (multiply f (monomial c k) m))
      low =
          division_step_below f L d k c m (coefficients r) hm hr hc top (below_more (d + (k + 1)) (suc (d + k)) (coefficients r) (omega arith) D.r_below)
          (ap (λ x. f.product x (m d)) e ∙ quotient_code (coefficients r (d + k)) (D.r_codes (d + k)))

  pub division_ends : (a : ℕ → ℕ) (q r : List ℕ) → UnderDivision f d a m 0 q r → IsDivision f d a m (coefficients q) (coefficients r)
  division_ends a q r D =
      record {
        quotient_polynomial = list_polynomial f L q D.q_codes;
        remainder_polynomial = list_polynomial f L r D.r_codes;
        remainder_below = below_more (d + 0) d (coefficients r) (omega arith) D.r_below;
        is = D.is;
      }

-- A slice that ends in a code other than 0 has the degree of its last place.
pub leads : (m : List ℕ) → 1 ≤ length m → 0 < coefficients m (length m - 1) → HasDegree (length m - 1) (coefficients m)
leads m l h = record { leading = h; above = λ i b. coefficients_below m i (omega arith) }
