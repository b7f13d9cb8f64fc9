-- The loop that adds a multiple: p + c·z^s·(the first i terms of r), one term more with each turn.
use Rattle.std.proofs.Common.{◌≡◌, ℕ, zero, suc, ◌+◌, ◌-◌, ◌<◌, ◌≢◌, List, length, set, sym, refl, ap, ◌∙◌, arith}
use mathlib.Core.Path.{fun_ext}
use native.Mathlib.Decide.{dec_lt, ℕ_discrete}
use Rattle.std.proofs.lemmas.List.{get_or-set_same, get_or-set_other}
use Rattle.algebra.specs.Field.{Arithmetic, FieldLaws}
use Rattle.algebra.specs.Polynomial.{coefficients, add, multiply, IsPolynomial}
use Rattle.algebra.specs.Moduli.{monomial, nought}
use Rattle.poly.specs.Slices.{Codes}
use Rattle.algebra.proofs.Codes.{product_zero}
use Rattle.algebra.proofs.Coefficients.{upto, upto_before, upto_after, upto_all, upto_polynomial, add_monomial_from, add_monomial_before, add_nought, multiply_nought, nought_multiply, monomial_polynomial, coefficients_below}

-- The next term changes no other place.
pub upto_other : (i : ℕ) (r : ℕ → ℕ) (t : ℕ) → t ≢ i → upto (suc i) r t ≡ upto i r t
upto_other i r t n =
    elim (dec_lt t i) [
      | yes l ↦ upto_before (suc i) r t (omega arith) ∙ sym (upto_before i r t l)
      | no l ↦ upto_after (suc i) r t (omega arith) ∙ sym (upto_after i r t (omega arith))
    ]

no_term : (k : ℕ) (i : ℕ) → monomial 0 k i ≡ 0
no_term zero zero = refl
no_term zero (suc i) = refl
no_term (suc k) zero = refl
no_term (suc k) (suc i) = no_term k i

module _ (f : Arithmetic) (L : FieldLaws f) where
  -- A multiple by 0 adds nothing.
  pub nothing_added : (p r : ℕ → ℕ) (c s : ℕ) → IsPolynomial f p → IsPolynomial f r → c ≡ 0 → p ≡ add f p (multiply f (monomial c s) r)
  nothing_added p r c s hp hr e =
      let none : monomial c s ≡ nought = ap (λ n. monomial n s) e ∙ fun_ext (no_term s) in
      sym (ap (λ (t : ℕ → ℕ). add f p (multiply f t r)) none ∙ ap (add f p) (nought_multiply f L r hr) ∙ add_nought f L p hp)

  -- A sum has codes.
  pub sum_codes : (p q : ℕ → ℕ) (xs : List ℕ) → coefficients xs ≡ add f p q → Codes f xs
  sum_codes p q xs e i = let h : coefficients xs i ≡ f.sum (p i) (q i) = ap (λ (r : ℕ → ℕ). r i) e in rw h (L.sum_below (p i) (q i))

  abbrev pub scaled_part : (ℕ → ℕ) → ℕ → ℕ → ℕ → (ℕ → ℕ) → ℕ → ℕ
  scaled_part p c s i r = add f p (multiply f (monomial c s) (upto i r))

  pub scaled_none : (p : ℕ → ℕ) (c s : ℕ) (r : ℕ → ℕ) → IsPolynomial f p → c < f.order → p ≡ scaled_part p c s 0 r
  scaled_none p c s r hp hc =
      sym (ap (add f p) (multiply_nought f L (monomial c s) (monomial_polynomial f L c s hc)) ∙ add_nought f L p hp)

  pub scaled_more : (p₀ r : ℕ → ℕ) (c s i : ℕ) (p : List ℕ) → IsPolynomial f p₀ → IsPolynomial f r → c < f.order → s + i < length p
      → coefficients p ≡ scaled_part p₀ c s i r
      → coefficients (set p (s + i) (f.sum (coefficients p (s + i)) (f.product c (r i)))) ≡ scaled_part p₀ c s (i + 1) r
  scaled_more p₀ r c s i p hp hr hc l e = fun_ext each
    where
      hu : (k : ℕ) → IsPolynomial f (upto k r)
      hu k = upto_polynomial f L k r hr

      old : (j : ℕ) → coefficients p j ≡ scaled_part p₀ c s i r j
      old j = ap (λ (q : ℕ → ℕ). q j) e

      here : coefficients (set p (s + i) (f.sum (coefficients p (s + i)) (f.product c (r i)))) (s + i) ≡ scaled_part p₀ c s (suc i) r (s + i)
      here =
          get_or-set_same p (s + i) _ 0 l
          ∙ ap (λ (x : ℕ). f.sum x (f.product c (r i)))
          (old (s + i) ∙ add_monomial_from f L c s p₀ (upto i r) i hc (hu i)
          ∙ ap (λ (x : ℕ). f.sum (p₀ (s + i)) (f.product c x)) (upto_after i r i (omega arith))
          ∙ ap (f.sum (p₀ (s + i))) (product_zero f L c hc) ∙ L.sum_zero (p₀ (s + i)) (hp.codes (s + i)))
          ∙ ap (λ (x : ℕ). f.sum (p₀ (s + i)) (f.product c x)) (sym (upto_before (suc i) r i (omega arith)))
          ∙ sym (add_monomial_from f L c s p₀ (upto (suc i) r) i hc (hu (suc i)))

      above : (t : ℕ) → t ≢ i → scaled_part p₀ c s i r (s + t) ≡ scaled_part p₀ c s (suc i) r (s + t)
      above t n =
          add_monomial_from f L c s p₀ (upto i r) t hc (hu i)
          ∙ ap (λ (x : ℕ). f.sum (p₀ (s + t)) (f.product c x)) (sym (upto_other i r t n))
          ∙ sym (add_monomial_from f L c s p₀ (upto (suc i) r) t hc (hu (suc i)))

      each_suc : (j : ℕ) → coefficients (set p (s + i) (f.sum (coefficients p (s + i)) (f.product c (r i)))) j ≡ scaled_part p₀ c s (suc i) r j
      each_suc j =
          elim (ℕ_discrete j (s + i)) [
            | yes q ↦ rw q here
            | no n ↦
                get_or-set_other p (s + i) j _ 0 n ∙ old j
                ∙ elim (dec_lt j s) [
                  | yes b ↦ add_monomial_before f L c s p₀ (upto i r) j hc hp (hu i) b ∙ sym (add_monomial_before f L c s p₀ (upto (suc i) r) j hc hp (hu (suc i)) b)
                  | no b ↦
                      let at : s + (j - s) ≡ j = omega arith in
                      rw at at (above (j - s) (omega arith))
                ]
          ]

      each : (j : ℕ) → coefficients (set p (s + i) (f.sum (coefficients p (s + i)) (f.product c (r i)))) j ≡ scaled_part p₀ c s (i + 1) r j
      each j = let e : suc i ≡ i + 1 = omega arith in rw e at (each_suc j)

  -- The same for what the code computes: x is c·r_i and v the new code.
  pub scaled_turn : (p₀ r : ℕ → ℕ) (c s i x v : ℕ) (p : List ℕ) → IsPolynomial f p₀ → IsPolynomial f r → c < f.order → s + i < length p
      → x ≡ f.product c (r i) → v ≡ f.sum (coefficients p (s + i)) x → coefficients p ≡ scaled_part p₀ c s i r
      → coefficients (set p (s + i) v) ≡ scaled_part p₀ c s (i + 1) r
  scaled_turn p₀ r c s i x v p hp hr hc l ex ev e =
      ap (λ y. coefficients (set p (s + i) y)) (ev ∙ ap (f.sum (coefficients p (s + i))) ex) ∙ scaled_more p₀ r c s i p hp hr hc l e

  pub scaled_all : (p : ℕ → ℕ) (c s i : ℕ) (r xs : List ℕ) → i ≡ length r → coefficients xs ≡ scaled_part p c s i (coefficients r)
      → coefficients xs ≡ add f p (multiply f (monomial c s) (coefficients r))
  scaled_all p c s i r xs n e =
      e ∙ ap (λ k. scaled_part p c s k (coefficients r)) n
      ∙ ap (λ (q : ℕ → ℕ). add f p (multiply f (monomial c s) q)) (upto_all (length r) (coefficients r) (coefficients_below r))
