-- Sums with the factors 1 and -1, and the loop that adds a product, term by term of the left factor.
use Rattle.std.proofs.Common.{◌≡◌, ℕ, suc, ◌+◌, ◌<◌, List, sym, ap, ◌∙◌, arith}
use Rattle.algebra.specs.Field.{Arithmetic, FieldLaws}
use Rattle.algebra.specs.Polynomial.{coefficients, add, subtract, multiply, Below, IsPolynomial}
use Rattle.algebra.specs.Moduli.{monomial}
use Rattle.poly.specs.declared.products.Taken.{Taken}
use Rattle.poly.specs.declared.products.Taken.TheVariants.{Added, Subtracted}
use Rattle.poly.specs.Products.{unit}
use Rattle.algebra.proofs.Codes.{product_zero}
use Rattle.algebra.proofs.Coefficients.{upto, upto_polynomial, multiply_assoc, multiply_upto_none, multiply_upto_next, multiply_upto_all, multiply_polynomial, monomial_from, monomial_polynomial, add_assoc, add_nought, one_multiply}
use Rattle.algebra.proofs.Negatives.{add_negative_multiple}

-- p + c·(the first k terms of a)·b.
abbrev pub part : Arithmetic → ℕ → (ℕ → ℕ) → (ℕ → ℕ) → (ℕ → ℕ) → ℕ → ℕ → ℕ
part f c p a b k = add f p (multiply f (upto k (multiply f (monomial c 0) a)) b)

module _ (f : Arithmetic) (L : FieldLaws f) where
  -- Whole slices, as sums with the factor 1 and -1.
  pub add_one_multiple : (p r x : ℕ → ℕ) → IsPolynomial f r → x ≡ add f p (multiply f (monomial 1 0) r) → x ≡ add f p r
  add_one_multiple p r x hr e = e ∙ ap (add f p) (one_multiply f L r hr)

  pub add_minus_one_multiple : (p r x : ℕ → ℕ) (c : ℕ) → IsPolynomial f p → IsPolynomial f r → c ≡ f.negative 1
      → x ≡ add f p (multiply f (monomial c 0) r) → x ≡ subtract f p r
  add_minus_one_multiple p r x c hp hr n e =
      e ∙ ap (λ k. add f p (multiply f (monomial k 0) r)) n ∙ add_negative_multiple f L 1 0 p r (omega (arith, L.order_least)) hp hr
      ∙ ap (subtract f p) (one_multiply f L r hr)

  -- Both are codes.
  pub unit_code : (taken : Taken) → unit f taken < f.order
  unit_code Added = omega (arith, L.order_least)
  unit_code Subtracted = L.negative_below 1

  -- The loop that adds c·a·b.
  module _ (c : ℕ) (p a b : ℕ → ℕ) (hc : c < f.order) (hp : IsPolynomial f p) (ha : IsPolynomial f a) (hb : IsPolynomial f b) where
    abbrev scaled : ℕ → ℕ
    scaled = multiply f (monomial c 0) a

    scaled_polynomial : IsPolynomial f scaled
    scaled_polynomial = multiply_polynomial f L (monomial c 0) a (monomial_polynomial f L c 0 hc) ha

    scaled_at : (k : ℕ) → scaled k ≡ f.product c (a k)
    scaled_at k = let whole : 0 + k ≡ k = omega arith in rw whole at (monomial_from f L c 0 a k hc ha)

    pub part_none : p ≡ part f c p a b 0
    part_none = sym (ap (add f p) (multiply_upto_none f L scaled b hb) ∙ add_nought f L p hp)

    pub part_more : (k x : ℕ) (xs ys : List ℕ) → x ≡ f.product c (a k) → coefficients xs ≡ part f c p a b k
        → coefficients ys ≡ add f (coefficients xs) (multiply f (monomial x k) b) → coefficients ys ≡ part f c p a b (k + 1)
    part_more k x xs ys ex e w =
        let next : suc k ≡ k + 1 = omega arith in
        let here : x ≡ scaled k = ex ∙ sym (scaled_at k) in
        let so_far = multiply_polynomial f L (upto k scaled) b (upto_polynomial f L k scaled scaled_polynomial) hb in
        let term = multiply_polynomial f L (monomial (scaled k) k) b (monomial_polynomial f L (scaled k) k (scaled_polynomial.codes k)) hb in
        w ∙ ap (λ h. add f (coefficients xs) (multiply f (monomial h k) b)) here
        ∙ ap (λ (y : ℕ → ℕ). add f y (multiply f (monomial (scaled k) k) b)) e
        ∙ add_assoc f L p (multiply f (upto k scaled) b) (multiply f (monomial (scaled k) k) b) hp so_far term
        ∙ ap (add f p) (sym (multiply_upto_next f L k scaled b scaled_polynomial hb)) ∙ ap (part f c p a b) next

    pub part_all : (k : ℕ) → Below k a → part f c p a b k ≡ add f p (multiply f (monomial c 0) (multiply f a b))
    part_all k none =
        ap (add f p)
        (multiply_upto_all f L k scaled b (λ i l. scaled_at i ∙ ap (f.product c) (none i l) ∙ product_zero f L c hc)
        ∙ multiply_assoc f L (monomial c 0) a b (monomial_polynomial f L c 0 hc) ha hb)
