-- Negatives: of a product, and a multiple taken off by adding its negative.
use Rattle.std.proofs.Common.{◌≡◌, ℕ, ◌+◌, ◌-◌, ◌<◌, sym, ap, ◌∙◌, arith}
use mathlib.Core.Path.{fun_ext}
use native.Mathlib.Decide.{dec_lt}
use Rattle.algebra.specs.Abstract.{Code}
use Rattle.algebra.specs.Field.{Arithmetic, FieldLaws}
use Rattle.algebra.specs.Polynomial.{add, subtract, multiply, IsPolynomial}
use Rattle.algebra.specs.Moduli.{monomial}
use Rattle.algebra.proofs.Rings.{times_negative}
use Rattle.algebra.proofs.Codes.{code_ring, code_field}
use Rattle.algebra.proofs.Coefficients.{add_monomial_from, add_monomial_before, subtract_monomial_from, subtract_monomial_before}

module _ (f : Arithmetic) (L : FieldLaws f) where
  pub product_negative : (a b : ℕ) → a < f.order → b < f.order → f.product a (f.negative b) ≡ f.negative (f.product a b)
  unfolding code_field code_ring
  product_negative a b ha hb = ap (λ (x : Code f.order). x.0) (times_negative (code_ring f L) (a, ha) (b, hb))

  pub negative_product : (a b : ℕ) → a < f.order → b < f.order → f.product (f.negative a) b ≡ f.negative (f.product a b)
  negative_product a b ha hb =
      L.product_comm (f.negative a) b (L.negative_below a) hb ∙ product_negative b a hb ha ∙ ap f.negative (L.product_comm b a hb ha)

  -- p + (-c)·z^k·q = p - c·z^k·q
  pub add_negative_multiple : (c k : ℕ) (p q : ℕ → ℕ) → c < f.order → IsPolynomial f p → IsPolynomial f q
      → add f p (multiply f (monomial (f.negative c) k) q) ≡ subtract f p (multiply f (monomial c k) q)
  add_negative_multiple c k p q hc hp hq = fun_ext each
    where
      from : (i : ℕ) → add f p (multiply f (monomial (f.negative c) k) q) (k + i) ≡ subtract f p (multiply f (monomial c k) q) (k + i)
      from i =
          add_monomial_from f L (f.negative c) k p q i (L.negative_below c) hq
          ∙ ap (f.sum (p (k + i))) (negative_product c (q i) hc (hq.codes i))
          ∙ sym (subtract_monomial_from f L c k p q i hc hq)

      each : (j : ℕ) → add f p (multiply f (monomial (f.negative c) k) q) j ≡ subtract f p (multiply f (monomial c k) q) j
      each j =
          elim (dec_lt j k) [
            | yes b ↦ add_monomial_before f L (f.negative c) k p q j (L.negative_below c) hp hq b ∙ sym (subtract_monomial_before f L c k p q j hc hp hq b)
            | no b ↦ let at : k + (j - k) ≡ j = omega arith in rw at at (from (j - k))
          ]
