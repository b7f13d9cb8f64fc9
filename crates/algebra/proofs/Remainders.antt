-- Remainders by a modulus whose leading code is 1, as lists of codes: the list that specs/Remainder.antt computes is the
-- remainder, and there is no other.
use Rattle.std.proofs.Common.{◌≡◌, ℕ, zero, suc, ◌+◌, ◌<◌, List, [], ◌∷◌, length, get_or, replicate, sym, refl, ap, ◌∙◌, arith}
use mathlib.Core.Path.{fun_ext}
use native.Mathlib.Decide.{dec_lt}
use Rattle.std.proofs.lemmas.List.FromFn.{length-map-range_with_len, get_or-map-range_with_len}
use Rattle.std.proofs.lemmas.List.{length-replicate, get_or-replicate, ext_get_or}
use Rattle.algebra.specs.Field.{Arithmetic, FieldLaws}
use Rattle.algebra.specs.Polynomial.{coefficients, Below, HasDegree, add, subtract, multiply, IsPolynomial}
use Rattle.algebra.specs.Moduli.{monomial, nought, Congruent}
use Rattle.algebra.specs.Remainder.{IsRemainder, cleared, remainder}
use Rattle.algebra.proofs.Codes.{zero_below, zero_sum, one_product}
use Rattle.algebra.proofs.Coefficients.{coefficients_below, list_polynomial, monomial_polynomial, multiply_polynomial, monomial_before, monomial_from, subtract_monomial_from, below_more}
use Rattle.algebra.proofs.Residues.{division_step_below, divide_unique, congruent_division, congruent_refl, congruent_sym, congruent_trans, congruent_add, congruent_multiply, multiple_off}

-- Lists of one length with the same coefficients are one list.
pub same_coefficients : (xs ys : List ℕ) → length xs ≡ length ys → coefficients xs ≡ coefficients ys → xs ≡ ys
same_coefficients xs ys n e = ext_get_or 0 xs ys n (λ i l. ap (λ (p : ℕ → ℕ). p i) e)

pub zeros_nought : (d : ℕ) → coefficients (replicate d 0) ≡ nought
zeros_nought d =
    fun_ext (λ i. elim (dec_lt i d) [
      | yes l ↦ get_or-replicate d i 0 0 l
      | no l ↦ coefficients_below (replicate d 0) i (omega (arith, length-replicate {A = ℕ} d 0))
    ])

-- A remainder has d codes, whatever was divided, and whether or not the arithmetic is lawful.
pub remainder_long : (f : Arithmetic) (d : ℕ) (m : ℕ → ℕ) (a : List ℕ) → length (remainder f d m a) ≡ d
unfolding remainder
remainder_long f d m [] = length-replicate d 0
remainder_long f d m (c ∷ a) = length-map-range_with_len _ 0 d

module _ (f : Arithmetic) (L : FieldLaws f) where
  abbrev Is : (ℕ → ℕ) → Type 0
  Is = IsPolynomial f

  pub cleared_length : (d : ℕ) (m : ℕ → ℕ) (p : List ℕ) → length (cleared f d m p) ≡ d
  cleared_length d m p = length-map-range_with_len _ 0 d

  pub cleared_at : (d : ℕ) (m : ℕ → ℕ) (p : List ℕ) (i : ℕ) → i < d
      → coefficients (cleared f d m p) i ≡ f.sum (coefficients p i) (f.negative (f.product (coefficients p d) (m i)))
  cleared_at d m p i l =
      get_or-map-range_with_len (λ j. f.sum (get_or p j 0) (f.negative (f.product (get_or p d 0) (m j)))) 0 d i i 0 l (omega arith)

  pub remainder_length : (d : ℕ) (m : ℕ → ℕ) (a : List ℕ) → length (remainder f d m a) ≡ d
  remainder_length = remainder_long f

  pub remainder_codes : (d : ℕ) (m : ℕ → ℕ) (a : List ℕ) (i : ℕ) → coefficients (remainder f d m a) i < f.order
  unfolding remainder
  remainder_codes d m [] i = rw (ap (λ (p : ℕ → ℕ). p i) (zeros_nought d)) (zero_below f L)
  remainder_codes d m (c ∷ a) i =
      elim (dec_lt i d) [
        | yes l ↦ rw (cleared_at d m (c ∷ remainder f d m a) i l) (L.sum_below _ _)
        | no l ↦
            rw (coefficients_below (cleared f d m (c ∷ remainder f d m a)) i (omega (arith, cleared_length d m (c ∷ remainder f d m a))))
            (zero_below f L)
      ]

  -- The list c ∷ a is the polynomial c + z·a.
  pub cons_is : (c : ℕ) (a : List ℕ) → c < f.order → Is (coefficients a)
      → coefficients (c ∷ a) ≡ add f (monomial c 0) (multiply f (monomial 1 1) (coefficients a))
  cons_is c a l ha = fun_ext each
    where
      one_below : 1 < f.order
      one_below = omega (arith, L.order_least)

      each : (i : ℕ) → coefficients (c ∷ a) i ≡ add f (monomial c 0) (multiply f (monomial 1 1) (coefficients a)) i
      each zero =
          sym (ap (f.sum c) (monomial_before f L 1 1 (coefficients a) 0 one_below ha (omega arith)) ∙ L.sum_zero c l)
      each (suc i) =
          let next : 1 + i ≡ suc i = omega arith in
          sym (ap (f.sum 0) (ap (multiply f (monomial 1 1) (coefficients a)) (sym next) ∙ monomial_from f L 1 1 (coefficients a) i one_below ha ∙ one_product f L (coefficients a i) (ha.codes i))
          ∙ zero_sum f L (coefficients a i) (ha.codes i))

  -- What is cleared is p less a multiple of m.
  pub cleared_is : (d : ℕ) (m : ℕ → ℕ) (p : List ℕ) → Is m → HasDegree d m → m d ≡ 1 → Is (coefficients p) → Below (suc d) (coefficients p)
      → coefficients (cleared f d m p) ≡ subtract f (coefficients p) (multiply f (monomial (coefficients p d) 0) m)
  cleared_is d m p hm h e hp b = fun_ext each
    where
      each : (i : ℕ) → coefficients (cleared f d m p) i ≡ subtract f (coefficients p) (multiply f (monomial (coefficients p d) 0) m) i
      each i =
          let here : 0 + i ≡ i = omega arith in
          elim (dec_lt i d) [
            | yes l ↦
                cleared_at d m p i l
                ∙ rw here at (sym (subtract_monomial_from f L (coefficients p d) 0 (coefficients p) m i (hp.codes d) hm))
            | no l ↦
                coefficients_below (cleared f d m p) i (omega (arith, cleared_length d m p))
                ∙ sym (low i (omega arith))
          ]
        where
          low : Below (d + 0) (subtract f (coefficients p) (multiply f (monomial (coefficients p d) 0) m))
          low =
              let same : d + 0 ≡ d = omega arith in
              division_step_below f L d 0 (coefficients p d) m (coefficients p) hm hp (hp.codes d) h (below_more (suc d) (suc (d + 0)) (coefficients p) (omega arith) b)
              (ap (f.product (coefficients p d)) e ∙ L.product_one (coefficients p d) (hp.codes d) ∙ ap (coefficients p) (sym same))

  -- The list of codes is congruent to what was divided.
  pub remainder_agrees : (d : ℕ) (m : ℕ → ℕ) (a : List ℕ) → Is m → HasDegree d m → m d ≡ 1 → ((i : ℕ) → coefficients a i < f.order)
      → Congruent f m (coefficients a) (coefficients (remainder f d m a))
  unfolding remainder
  remainder_agrees d m [] hm h e codes =
      let none : coefficients (replicate d 0) ≡ coefficients [] = zeros_nought d ∙ fun_ext (λ i. refl) in
      rw none (congruent_refl f L m (coefficients []) hm (list_polynomial f L [] codes))
  remainder_agrees d m (c ∷ a) hm h e codes =
      let r = remainder f d m a in
      let ha = list_polynomial f L a (λ i. codes (suc i)) in
      let hr = list_polynomial f L r (remainder_codes d m a) in
      let hc = monomial_polynomial f L c 0 (codes 0) in
      let hz = monomial_polynomial f L 1 1 (omega (arith, L.order_least)) in
      let hza = multiply_polynomial f L (monomial 1 1) (coefficients a) hz ha in
      let hzr = multiply_polynomial f L (monomial 1 1) (coefficients r) hz hr in
      let lifted : Congruent f m (coefficients (c ∷ a)) (coefficients (c ∷ r)) =
      rw (cons_is c a (codes 0) ha, cons_is c r (codes 0) hr)
      (congruent_add f L m (monomial c 0) (monomial c 0) (multiply f (monomial 1 1) (coefficients a)) (multiply f (monomial 1 1) (coefficients r)) hm hc hc hza hzr
      (congruent_refl f L m (monomial c 0) hm hc)
      (congruent_multiply f L m (monomial 1 1) (monomial 1 1) (coefficients a) (coefficients r) hm hz hz ha hr (congruent_refl f L m (monomial 1 1) hm hz)
      (remainder_agrees d m a hm h e (λ i. codes (suc i))))) in
      let hca = list_polynomial f L (c ∷ a) codes in
      let hcr = cons_polynomial r (codes 0) (remainder_codes d m a) in
      let low : Below (suc d) (coefficients (c ∷ r)) =
      below_more (suc (length r)) (suc d) (coefficients (c ∷ r)) (omega (arith, remainder_length d m a)) (coefficients_below (c ∷ r)) in
      let t = monomial (coefficients (c ∷ r) d) 0 in
      let ht = monomial_polynomial f L (coefficients (c ∷ r) d) 0 (hcr.codes d) in
      let off = multiple_off f L m (coefficients (c ∷ r)) t hm hcr ht in
      let is = cleared_is d m (c ∷ r) hm h e hcr low in
      congruent_trans f L m (coefficients (c ∷ a)) (coefficients (c ∷ r)) (coefficients (cleared f d m (c ∷ r))) hm hca hcr
      (list_polynomial f L (cleared f d m (c ∷ r)) (remainder_codes d m (c ∷ a))) lifted (rw is off)
    where
      cons_polynomial : (r : List ℕ) → c < f.order → ((i : ℕ) → coefficients r i < f.order) → Is (coefficients (c ∷ r))
      cons_polynomial r l k = list_polynomial f L (c ∷ r) each
        where
          each : (i : ℕ) → coefficients (c ∷ r) i < f.order
          each zero = l
          each (suc i) = k i

  -- The list of codes is the remainder.
  pub remainder_is : (d : ℕ) (m : ℕ → ℕ) (a : List ℕ) → Is m → HasDegree d m → m d ≡ 1 → ((i : ℕ) → coefficients a i < f.order)
      → IsRemainder f d m (coefficients a) (coefficients (remainder f d m a))
  remainder_is d m a hm h e codes =
      let agrees = remainder_agrees d m a hm h e codes in
      record {
        quotient = agrees.by;
        division =
            congruent_division f L d (coefficients a) m (coefficients (remainder f d m a)) (list_polynomial f L a codes) hm
            (list_polynomial f L (remainder f d m a) (remainder_codes d m a))
            (below_more (length (remainder f d m a)) d (coefficients (remainder f d m a)) (omega (arith, remainder_length d m a)) (coefficients_below (remainder f d m a)))
            agrees;
      }

  -- A remainder of d codes is the only one.
  pub remainders_same : (d : ℕ) (m a : ℕ → ℕ) (xs ys : List ℕ) → Is m → HasDegree d m → length xs ≡ d → length ys ≡ d
      → IsRemainder f d m a (coefficients xs) → IsRemainder f d m a (coefficients ys) → xs ≡ ys
  remainders_same d m a xs ys hm h lx ly X Y =
      same_coefficients xs ys (omega arith)
      (divide_unique f L d a m X.quotient (coefficients xs) Y.quotient (coefficients ys) hm h X.division Y.division).1

  -- Two lists have one remainder exactly when m divides their difference.
  pub remainders_congruent : (d : ℕ) (m : ℕ → ℕ) (a b : List ℕ) → Is m → HasDegree d m → m d ≡ 1
      → ((i : ℕ) → coefficients a i < f.order) → ((i : ℕ) → coefficients b i < f.order)
      → remainder f d m a ≡ remainder f d m b → Congruent f m (coefficients a) (coefficients b)
  remainders_congruent d m a b hm h e ka kb same =
      let r = remainder f d m b in
      let ha = list_polynomial f L a ka in
      let hb = list_polynomial f L b kb in
      let hr = list_polynomial f L r (remainder_codes d m b) in
      congruent_trans f L m (coefficients a) (coefficients r) (coefficients b) hm ha hr hb
      (rw same at (remainder_agrees d m a hm h e ka))
      (congruent_sym f L m (coefficients b) (coefficients r) hm hb hr (remainder_agrees d m b hm h e kb))

  pub congruent_remainders : (d : ℕ) (m : ℕ → ℕ) (a b : List ℕ) → Is m → HasDegree d m → m d ≡ 1
      → ((i : ℕ) → coefficients a i < f.order) → ((i : ℕ) → coefficients b i < f.order)
      → Congruent f m (coefficients a) (coefficients b) → remainder f d m a ≡ remainder f d m b
  congruent_remainders d m a b hm h e ka kb same =
      let r = remainder f d m b in
      let ha = list_polynomial f L a ka in
      let hb = list_polynomial f L b kb in
      let hr = list_polynomial f L r (remainder_codes d m b) in
      let agrees =
      congruent_trans f L m (coefficients a) (coefficients b) (coefficients r) hm ha hb hr same (remainder_agrees d m b hm h e kb) in
      remainders_same d m (coefficients a) (remainder f d m a) r hm h (remainder_length d m a) (remainder_length d m b)
      (remainder_is d m a hm h e ka)
      (record {
        quotient = agrees.by;
        division =
            congruent_division f L d (coefficients a) m (coefficients r) ha hm hr
            (below_more (length r) d (coefficients r) (omega (arith, remainder_length d m b)) (coefficients_below r)) agrees;
      })
