-- The arithmetic of polynomials on coefficient functions: which are polynomials, the laws of sum, difference and product,
-- bounds and degrees. Each is read off the polynomials over the field of codes.
use Rattle.std.proofs.Common.{◌≡◌, ℕ, zero, suc, ◌+◌, ◌<◌, ◌≤◌, ◌≢◌, ◌⊎◌, List, length, ℤ, pos, negsuc, sym, refl, ap, ◌∙◌, inl, inr, arith}
use mathlib.Core.Path.{fun_ext}
use native.Mathlib.Decide.{dec_le, dec_lt, ℕ_discrete}
use lib.ListN.{get_or-eq_default}
use Rattle.algebra.specs.Abstract.{Ring, Code}
use Rattle.algebra.specs.Field.{Arithmetic, FieldLaws}
use Rattle.algebra.specs.Polynomial.{coefficients, Below, HasDegree, DegreeIs, add, subtract, multiply, IsPolynomial}
use Rattle.algebra.specs.Moduli.{monomial, one, nought}
use Rattle.algebra.proofs.Rings.{times_plus, times_comm, times_assoc, times_zero, one_times, times_difference, difference, difference_plus, difference_is, difference_chain}
use Rattle.algebra.proofs.Polynomials.{Poly, 𝓟, term, term_from, term_before, under_difference, under_product, under_factor, degree_product, zero_or_degree, degree_term, degree_difference}
use Rattle.algebra.proofs.Codes.{𝓒, code_ring, code_field, lift, codes_of, codes_polynomial, same_codes, zero_value, zero_below, zero_sum, negative_of_zero, codes_zero, codes_one, codes_sum, codes_difference, codes_product, codes_term, under_from, below_from, degree_from, has_degree_from}

-- Bounds and degrees of a coefficient function by themselves.
pub below_more : (d e : ℕ) (p : ℕ → ℕ) → d ≤ e → Below d p → Below e p
below_more d e p l h i g = h i (omega arith)

pub below_earlier : (d : ℕ) (p : ℕ → ℕ) → Below (suc d) p → p d ≡ 0 → Below d p
below_earlier d p h z i l = elim (ℕ_discrete i d) [ yes e ↦ rw e z | no e ↦ h i (omega arith) ]

pub below_nought : (p : ℕ → ℕ) → Below 0 p → p ≡ nought
below_nought p h = fun_ext (λ i. h i (omega arith))

pub nought_below : (d : ℕ) → Below d nought
nought_below d i l = refl

pub degree_less : (d e : ℕ) (p : ℕ → ℕ) → HasDegree d p → Below e p → d < e
degree_less d e p h k =
    elim (dec_le e d) [ yes l ↦ let z = k d l in let g = h.leading in absurd (omega arith) | no l ↦ omega arith ]

pub degree_one_only : (d e : ℕ) (p : ℕ → ℕ) → HasDegree d p → HasDegree e p → d ≡ e
degree_one_only d e p h k =
    let l = degree_less d (suc e) p h k.above in
    let g = degree_less e (suc d) p k h.above in
    omega arith

pub degree_not_nought : (d : ℕ) (p : ℕ → ℕ) → HasDegree d p → p ≢ nought
degree_not_nought d p h z =
    let l = degree_less d 0 p h (λ i g. ap (λ (q : ℕ → ℕ). q i) z) in
    omega arith

-- A function has one degree as a signed number.
pub degree_is_one_only : (p : ℕ → ℕ) (x y : ℤ) → DegreeIs p x → DegreeIs p y → x ≡ y
degree_is_one_only p (pos d) (pos e) h k = ap pos (degree_one_only d e p h k)
degree_is_one_only p (pos d) (negsuc zero) h k = let l = degree_less d 0 p h k in absurd (omega arith)
degree_is_one_only p (pos d) (negsuc (suc n)) h k = absurd k
degree_is_one_only p (negsuc zero) (pos e) h k = let l = degree_less e 0 p k h in absurd (omega arith)
degree_is_one_only p (negsuc zero) (negsuc zero) h k = refl
degree_is_one_only p (negsuc zero) (negsuc (suc n)) h k = absurd k
degree_is_one_only p (negsuc (suc n)) y h k = absurd h

pub coefficients_below : (codes : List ℕ) → Below (length codes) (coefficients codes)
coefficients_below codes i l = get_or-eq_default codes 0 {n = i} l

pub monomial_at : (c k : ℕ) → monomial c k k ≡ c
monomial_at c zero = refl
monomial_at c (suc k) = monomial_at c k

pub monomial_off : (c k i : ℕ) → i ≢ k → monomial c k i ≡ 0
monomial_off c zero zero h = absurd (h refl)
monomial_off c zero (suc i) h = refl
monomial_off c (suc k) zero h = refl
monomial_off c (suc k) (suc i) h = monomial_off c k i (λ e. h (ap suc e))

-- The terms of p before z^k.
abbrev pub upto : ℕ → (ℕ → ℕ) → ℕ → ℕ
upto zero p i = 0
upto (suc k) p zero = p 0
upto (suc k) p (suc i) = upto k (λ j. p (suc j)) i

pub upto_before : (k : ℕ) (p : ℕ → ℕ) (i : ℕ) → i < k → upto k p i ≡ p i
upto_before zero p i l = absurd (omega arith)
upto_before (suc k) p zero l = refl
upto_before (suc k) p (suc i) l = upto_before k (λ j. p (suc j)) i (omega arith)

pub upto_after : (k : ℕ) (p : ℕ → ℕ) → Below k (upto k p)
upto_after zero p i l = refl
upto_after (suc k) p zero l = absurd (omega arith)
upto_after (suc k) p (suc i) l = upto_after k (λ j. p (suc j)) i (omega arith)

pub upto_all : (k : ℕ) (p : ℕ → ℕ) → Below k p → upto k p ≡ p
upto_all k p h =
    fun_ext (λ i. elim (dec_lt i k) [ yes l ↦ upto_before k p i l | no l ↦ upto_after k p i (omega arith) ∙ sym (h i (omega arith)) ])

module _ (f : Arithmetic) (L : FieldLaws f) where
  abbrev 𝓠 : Ring (Poly (𝓒 f L))
  𝓠 = 𝓟 (𝓒 f L)

  abbrev up : (p : ℕ → ℕ) → IsPolynomial f p → Poly (𝓒 f L)
  up = lift f L

  abbrev Is : (ℕ → ℕ) → Type 0
  Is = IsPolynomial f

  -- What is a polynomial.
  pub list_polynomial : (codes : List ℕ) → ((i : ℕ) → coefficients codes i < f.order) → Is (coefficients codes)
  list_polynomial codes h = record { codes = h; bound = length codes; ends = coefficients_below codes }

  pub nought_polynomial : Is nought
  nought_polynomial = record { codes = λ i. omega (arith, L.order_least); bound = 0; ends = nought_below 0 }

  pub monomial_polynomial : (c k : ℕ) → c < f.order → Is (monomial c k)
  monomial_polynomial c k l = rw (codes_term f L (c, l) k) at (codes_polynomial f L (term (𝓒 f L).ring (c, l) k))

  pub one_polynomial : Is one
  one_polynomial = monomial_polynomial 1 0 (omega (arith, L.order_least))

  pub add_polynomial : (p q : ℕ → ℕ) → Is p → Is q → Is (add f p q)
  add_polynomial p q hp hq = rw (codes_sum f L (up p hp) (up q hq)) at (codes_polynomial f L (𝓠.sum (up p hp) (up q hq)))

  pub subtract_polynomial : (p q : ℕ → ℕ) → Is p → Is q → Is (subtract f p q)
  subtract_polynomial p q hp hq =
      rw (codes_difference f L (up p hp) (up q hq)) at (codes_polynomial f L (difference 𝓠 (up p hp) (up q hq)))

  pub multiply_polynomial : (p q : ℕ → ℕ) → Is p → Is q → Is (multiply f p q)
  multiply_polynomial p q hp hq =
      rw (codes_product f L (up p hp) (up q hq)) at (codes_polynomial f L (𝓠.product (up p hp) (up q hq)))

  -- Lifting the operations.
  pub lift_add : (p q : ℕ → ℕ) (hp : Is p) (hq : Is q) (h : Is (add f p q)) → up (add f p q) h ≡ 𝓠.sum (up p hp) (up q hq)
  lift_add p q hp hq h = same_codes f L _ _ (sym (codes_sum f L (up p hp) (up q hq)))

  pub lift_subtract : (p q : ℕ → ℕ) (hp : Is p) (hq : Is q) (h : Is (subtract f p q)) → up (subtract f p q) h ≡ difference 𝓠 (up p hp) (up q hq)
  lift_subtract p q hp hq h = same_codes f L _ _ (sym (codes_difference f L (up p hp) (up q hq)))

  pub lift_multiply : (p q : ℕ → ℕ) (hp : Is p) (hq : Is q) (h : Is (multiply f p q)) → up (multiply f p q) h ≡ 𝓠.product (up p hp) (up q hq)
  lift_multiply p q hp hq h = same_codes f L _ _ (sym (codes_product f L (up p hp) (up q hq)))

  pub lift_one : (h : Is one) → up one h ≡ 𝓠.𝟏
  lift_one h = same_codes f L _ _ (sym (codes_one f L))

  pub lift_nought : (h : Is nought) → up nought h ≡ 𝓠.𝟎
  lift_nought h = same_codes f L _ _ (sym (codes_zero f L))

  -- The laws of a ring.
  pub add_comm : (p q : ℕ → ℕ) → Is p → Is q → add f p q ≡ add f q p
  add_comm p q hp hq = fun_ext (λ i. L.sum_comm (p i) (q i) (hp.codes i) (hq.codes i))

  pub add_assoc : (p q r : ℕ → ℕ) → Is p → Is q → Is r → add f (add f p q) r ≡ add f p (add f q r)
  add_assoc p q r hp hq hr = fun_ext (λ i. L.sum_assoc (p i) (q i) (r i) (hp.codes i) (hq.codes i) (hr.codes i))

  pub add_nought : (p : ℕ → ℕ) → Is p → add f p nought ≡ p
  add_nought p hp = fun_ext (λ i. L.sum_zero (p i) (hp.codes i))

  pub nought_add : (p : ℕ → ℕ) → Is p → add f nought p ≡ p
  nought_add p hp = add_comm nought p nought_polynomial hp ∙ add_nought p hp

  pub subtract_self : (p : ℕ → ℕ) → Is p → subtract f p p ≡ nought
  subtract_self p hp = fun_ext (λ i. L.sum_negative (p i) (hp.codes i))

  -- (p - q) + q = p
  pub subtract_add : (p q : ℕ → ℕ) → Is p → Is q → add f (subtract f p q) q ≡ p
  subtract_add p q hp hq =
      let P = up p hp in
      let Q = up q hq in
      cc (codes_sum f L (difference 𝓠 P Q) Q, codes_difference f L P Q, difference_plus 𝓠 P Q)

  -- If x + q = p, then x = p - q.
  pub subtract_is : (p q x : ℕ → ℕ) → Is p → Is q → Is x → add f x q ≡ p → x ≡ subtract f p q
  subtract_is p q x hp hq hx e =
      ap (codes_of f L) (difference_is 𝓠 (up p hp) (up q hq) (up x hx) (same_codes f L _ _ (codes_sum f L (up x hx) (up q hq) ∙ e)))
      ∙ codes_difference f L (up p hp) (up q hq)

  pub subtract_nought : (p q : ℕ → ℕ) → Is p → Is q → subtract f p q ≡ nought → p ≡ q
  subtract_nought p q hp hq e =
      sym (subtract_add p q hp hq) ∙ ap (λ (x : ℕ → ℕ). add f x q) e ∙ nought_add q hq

  -- (p - q) + (q - r) = p - r
  pub subtract_chain : (p q r : ℕ → ℕ) → Is p → Is q → Is r → add f (subtract f p q) (subtract f q r) ≡ subtract f p r
  subtract_chain p q r hp hq hr =
      let P = up p hp in
      let Q = up q hq in
      let R = up r hr in
      cc (
        codes_sum f L (difference 𝓠 P Q) (difference 𝓠 Q R),
        codes_difference f L P Q,
        codes_difference f L Q R,
        codes_difference f L P R,
        difference_chain 𝓠 P Q R,
      )

  pub multiply_comm : (p q : ℕ → ℕ) → Is p → Is q → multiply f p q ≡ multiply f q p
  multiply_comm p q hp hq =
      let P = up p hp in
      let Q = up q hq in
      sym (codes_product f L P Q) ∙ ap (codes_of f L) (times_comm 𝓠 P Q) ∙ codes_product f L Q P

  pub multiply_assoc : (p q r : ℕ → ℕ) → Is p → Is q → Is r → multiply f (multiply f p q) r ≡ multiply f p (multiply f q r)
  multiply_assoc p q r hp hq hr =
      let P = up p hp in
      let Q = up q hq in
      let R = up r hr in
      cc (codes_product f L (𝓠.product P Q) R, codes_product f L P Q, codes_product f L P (𝓠.product Q R), codes_product f L Q R, times_assoc 𝓠 P Q R)

  pub one_multiply : (p : ℕ → ℕ) → Is p → multiply f one p ≡ p
  one_multiply p hp =
      let P = up p hp in
      cc (codes_product f L 𝓠.𝟏 P, codes_one f L, one_times 𝓠 P)

  pub multiply_one : (p : ℕ → ℕ) → Is p → multiply f p one ≡ p
  multiply_one p hp = multiply_comm p one hp one_polynomial ∙ one_multiply p hp

  pub multiply_nought : (p : ℕ → ℕ) → Is p → multiply f p nought ≡ nought
  multiply_nought p hp =
      let P = up p hp in
      cc (codes_product f L P 𝓠.𝟎, codes_zero f L, times_zero 𝓠 P)

  pub nought_multiply : (p : ℕ → ℕ) → Is p → multiply f nought p ≡ nought
  nought_multiply p hp = multiply_comm nought p nought_polynomial hp ∙ multiply_nought p hp

  pub multiply_add : (p q r : ℕ → ℕ) → Is p → Is q → Is r → multiply f p (add f q r) ≡ add f (multiply f p q) (multiply f p r)
  multiply_add p q r hp hq hr =
      let P = up p hp in
      let Q = up q hq in
      let R = up r hr in
      cc (
        codes_product f L P (𝓠.sum Q R),
        codes_sum f L Q R,
        times_plus 𝓠 P Q R,
        codes_sum f L (𝓠.product P Q) (𝓠.product P R),
        codes_product f L P Q,
        codes_product f L P R,
      )

  pub add_multiply : (p q r : ℕ → ℕ) → Is p → Is q → Is r → multiply f (add f p q) r ≡ add f (multiply f p r) (multiply f q r)
  add_multiply p q r hp hq hr =
      multiply_comm (add f p q) r (add_polynomial p q hp hq) hr ∙ multiply_add r p q hr hp hq
      ∙ rw (multiply_comm r p hr hp, multiply_comm r q hr hq) refl

  pub multiply_subtract : (p q r : ℕ → ℕ) → Is p → Is q → Is r → multiply f p (subtract f q r) ≡ subtract f (multiply f p q) (multiply f p r)
  multiply_subtract p q r hp hq hr =
      let P = up p hp in
      let Q = up q hq in
      let R = up r hr in
      cc (
        codes_product f L P (difference 𝓠 Q R),
        codes_difference f L Q R,
        times_difference 𝓠 P Q R,
        codes_difference f L (𝓠.product P Q) (𝓠.product P R),
        codes_product f L P Q,
        codes_product f L P R,
      )

  -- A monomial times a polynomial: c·p moved up by k places.
  pub monomial_from : (c k : ℕ) (p : ℕ → ℕ) (i : ℕ) → c < f.order → Is p → multiply f (monomial c k) p (k + i) ≡ f.product c (p i)
  unfolding code_field code_ring
  monomial_from c k p i l hp =
      let T = term (𝓒 f L).ring (c, l) k in
      ap (λ (m : ℕ → ℕ). multiply f m p (k + i)) (sym (codes_term f L (c, l) k))
      ∙ ap (λ (q : ℕ → ℕ). q (k + i)) (sym (codes_product f L T (up p hp)))
      ∙ ap (λ (a : Code f.order). a.0) (term_from (𝓒 f L).ring (c, l) k (up p hp) i (k + i) refl)

  pub monomial_before : (c k : ℕ) (p : ℕ → ℕ) (i : ℕ) → c < f.order → Is p → i < k → multiply f (monomial c k) p i ≡ 0
  monomial_before c k p i l hp g =
      let T = term (𝓒 f L).ring (c, l) k in
      ap (λ (m : ℕ → ℕ). multiply f m p i) (sym (codes_term f L (c, l) k))
      ∙ ap (λ (q : ℕ → ℕ). q i) (sym (codes_product f L T (up p hp)))
      ∙ zero_value f L _ (term_before (𝓒 f L).ring (c, l) k (up p hp) i g)

  -- Such a product added and taken off, coefficient by coefficient.
  pub add_monomial_from : (c k : ℕ) (p q : ℕ → ℕ) (i : ℕ) → c < f.order → Is q
      → add f p (multiply f (monomial c k) q) (k + i) ≡ f.sum (p (k + i)) (f.product c (q i))
  add_monomial_from c k p q i l hq = ap (f.sum (p (k + i))) (monomial_from c k q i l hq)

  pub add_monomial_before : (c k : ℕ) (p q : ℕ → ℕ) (i : ℕ) → c < f.order → Is p → Is q → i < k
      → add f p (multiply f (monomial c k) q) i ≡ p i
  add_monomial_before c k p q i l hp hq g = ap (f.sum (p i)) (monomial_before c k q i l hq g) ∙ L.sum_zero (p i) (hp.codes i)

  pub subtract_monomial_from : (c k : ℕ) (p q : ℕ → ℕ) (i : ℕ) → c < f.order → Is q
      → subtract f p (multiply f (monomial c k) q) (k + i) ≡ f.sum (p (k + i)) (f.negative (f.product c (q i)))
  subtract_monomial_from c k p q i l hq = ap (λ (x : ℕ). f.sum (p (k + i)) (f.negative x)) (monomial_from c k q i l hq)

  pub subtract_monomial_before : (c k : ℕ) (p q : ℕ → ℕ) (i : ℕ) → c < f.order → Is p → Is q → i < k
      → subtract f p (multiply f (monomial c k) q) i ≡ p i
  subtract_monomial_before c k p q i l hp hq g =
      ap (λ (x : ℕ). f.sum (p i) (f.negative x)) (monomial_before c k q i l hq g)
      ∙ ap (f.sum (p i)) (negative_of_zero f L) ∙ L.sum_zero (p i) (hp.codes i)

  -- A product, term by term of its left factor.
  pub upto_polynomial : (k : ℕ) (p : ℕ → ℕ) → Is p → Is (upto k p)
  upto_polynomial k p hp =
      record {
        codes =
            λ i. elim (dec_lt i k) [
              | yes l ↦ rw (upto_before k p i l) (hp.codes i)
              | no l ↦ rw (upto_after k p i (omega arith)) (zero_below f L)
            ];
        bound = k;
        ends = upto_after k p;
      }

  pub upto_next : (k : ℕ) (p : ℕ → ℕ) → Is p → upto (suc k) p ≡ add f (upto k p) (monomial (p k) k)
  upto_next k p hp = fun_ext each
    where
      each : (i : ℕ) → upto (suc k) p i ≡ add f (upto k p) (monomial (p k) k) i
      each i =
          elim (dec_lt i k) [
            | yes l ↦
                cc (upto_before (suc k) p i (omega arith), upto_before k p i l, monomial_off (p k) k i (omega arith), L.sum_zero (p i) (hp.codes i))
            | no l ↦
                elim (ℕ_discrete i k) [
                  | yes e ↦
                      rw e
                      (cc (upto_before (suc k) p k (omega arith), upto_after k p k (omega arith), monomial_at (p k) k, zero_sum f L (p k) (hp.codes k)))
                  | no e ↦
                      cc (
                        upto_after (suc k) p i (omega arith),
                        upto_after k p i (omega arith),
                        monomial_off (p k) k i e,
                        L.sum_zero 0 (zero_below f L),
                      )
                ]
          ]

  pub multiply_upto_none : (p q : ℕ → ℕ) → Is q → multiply f (upto 0 p) q ≡ nought
  multiply_upto_none p q hq = nought_multiply q hq

  pub multiply_upto_next : (k : ℕ) (p q : ℕ → ℕ) → Is p → Is q
      → multiply f (upto (suc k) p) q ≡ add f (multiply f (upto k p) q) (multiply f (monomial (p k) k) q)
  multiply_upto_next k p q hp hq =
      ap (λ (x : ℕ → ℕ). multiply f x q) (upto_next k p hp)
      ∙ add_multiply (upto k p) (monomial (p k) k) q (upto_polynomial k p hp) (monomial_polynomial (p k) k (hp.codes k)) hq

  pub multiply_upto_all : (k : ℕ) (p q : ℕ → ℕ) → Below k p → multiply f (upto k p) q ≡ multiply f p q
  multiply_upto_all k p q h = ap (λ (x : ℕ → ℕ). multiply f x q) (upto_all k p h)

  -- Bounds and degrees of sums and products.
  pub below_add : (d : ℕ) (p q : ℕ → ℕ) → Below d p → Below d q → Below d (add f p q)
  below_add d p q h k i l = cc (h i l, k i l, L.sum_zero 0 (omega (arith, L.order_least)))

  pub below_subtract : (d : ℕ) (p q : ℕ → ℕ) → Is p → Is q → Below d p → Below d q → Below d (subtract f p q)
  below_subtract d p q hp hq h k =
      rw (codes_difference f L (up p hp) (up q hq)) at
      (below_from f L d (difference 𝓠 (up p hp) (up q hq))
      (under_difference (𝓒 f L) d (up p hp) (up q hq) (under_from f L d (up p hp) h) (under_from f L d (up q hq) k)))

  pub below_multiply : (d e : ℕ) (p q : ℕ → ℕ) → Is p → Is q → Below d p → Below (suc e) q → Below (d + e) (multiply f p q)
  below_multiply d e p q hp hq h k =
      rw (codes_product f L (up p hp) (up q hq)) at
      (below_from f L (d + e) (𝓠.product (up p hp) (up q hq))
      (under_product (𝓒 f L) d e (up p hp) (up q hq) (under_from f L d (up p hp) h) (under_from f L (suc e) (up q hq) k)))

  pub degree_multiply : (d e : ℕ) (p q : ℕ → ℕ) → Is p → Is q → HasDegree d p → HasDegree e q → HasDegree (d + e) (multiply f p q)
  degree_multiply d e p q hp hq h k =
      rw (codes_product f L (up p hp) (up q hq)) at
      (has_degree_from f L (d + e) (𝓠.product (up p hp) (up q hq))
      (degree_product (𝓒 f L) d e (up p hp) (up q hq) (degree_from f L d (up p hp) h) (degree_from f L e (up q hq) k)))

  pub degree_monomial : (c k : ℕ) → 0 < c → c < f.order → HasDegree k (monomial c k)
  unfolding code_field code_ring
  degree_monomial c k g l =
      rw (codes_term f L (c, l) k) at
      (has_degree_from f L k (term (𝓒 f L).ring (c, l) k)
      (degree_term (𝓒 f L) (c, l) k (λ e. let z : c ≡ 0 = ap (λ (a : Code f.order). a.0) e in omega arith)))

  pub degree_of_one : HasDegree 0 one
  degree_of_one = degree_monomial 1 0 (omega arith) (omega (arith, L.order_least))

  -- If p·m is below d + e and m has degree d, then p is below e.
  pub below_factor : (d e : ℕ) (p m : ℕ → ℕ) → Is p → Is m → HasDegree d m → Below (d + e) (multiply f p m) → Below e p
  below_factor d e p m hp hm h k =
      let P = up p hp in
      let M = up m hm in
      below_from f L e P
      (under_factor (𝓒 f L) d e M P (degree_from f L d M h)
      (under_from f L (d + e) (𝓠.product M P)
      (rw (times_comm 𝓠 M P, codes_product f L P M) k)))

  -- No zero divisors.
  pub factor_nought : (d : ℕ) (p m : ℕ → ℕ) → Is p → Is m → HasDegree d m → multiply f p m ≡ nought → p ≡ nought
  factor_nought d p m hp hm h e =
      below_nought p (below_factor d 0 p m hp hm h (λ i l. ap (λ (q : ℕ → ℕ). q i) e))

  -- A polynomial is 0 or has a degree.
  pub nought_or_degree : (p : ℕ → ℕ) → Is p → (p ≡ nought) ⊎ ((d : ℕ) × HasDegree d p)
  nought_or_degree p hp =
      elim (zero_or_degree (𝓒 f L) (up p hp)) [
        | inl z ↦ inl (ap (codes_of f L) z ∙ codes_zero f L)
        | inr u ↦ inr (u.0, has_degree_from f L u.0 (up p hp) u.1)
      ]

  -- A lower polynomial does not change the degree.
  pub degree_subtract : (d : ℕ) (p q : ℕ → ℕ) → Is p → Is q → Below d p → HasDegree d q → HasDegree d (subtract f p q)
  degree_subtract d p q hp hq h k =
      rw (codes_difference f L (up p hp) (up q hq)) at
      (has_degree_from f L d (difference 𝓠 (up p hp) (up q hq))
      (degree_difference (𝓒 f L) d (up p hp) (up q hq) (under_from f L d (up p hp) h) (degree_from f L d (up q hq) k)))
