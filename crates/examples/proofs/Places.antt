-- What the checker computes place by place: lists of codes, and products of polynomials.
use Rattle.std.proofs.Common.{◌≡◌, ℕ, suc, ◌+◌, ◌<◌, ◌≤◌, true, eqb, ltb, List, length, sym, ◌∙◌, arith}
use mathlib.Core.Path.{fun_ext}
use native.Mathlib.Decide.{dec_lt}
use Rattle.std.proofs.lemmas.Bool.{ltb-true}
use Rattle.algebra.specs.Field.{Arithmetic, FieldLaws}
use Rattle.algebra.specs.Moduli.{Coprime, one}
use Rattle.algebra.specs.Polynomial.{Below, IsPolynomial, ShareFactor, add, coefficients, multiply}
use Rattle.algebra.proofs.Coefficients.{below_add, below_more, below_multiply, coefficients_below, list_polynomial, monomial_off}
use Rattle.algebra.proofs.Computed.{agree_below, all_below, passes_below}
use Rattle.algebra.proofs.Residues.{coprime_not_shared}
use Rattle.plan.specs.Schemes.{IsModulus, degree_of}
use Rattle.plan.proofs.Numbers.{codes_throughout}

-- Coefficient functions that are 0 from n on, and agree before, are equal.
pub same_by_places : (p q : ℕ → ℕ) (n : ℕ) → Below n p → Below n q → all_below (λ i. eqb (p i) (q i)) n ≡ true → p ≡ q
same_by_places p q n hp hq t =
    fun_ext (λ i. elim (dec_lt i n) [ yes l ↦ agree_below p q n t i l | no l ↦ hp i (omega arith) ∙ sym (hq i (omega arith)) ])

-- The test that the numbers of a list are codes.
abbrev pub AllCodes : Arithmetic → List ℕ → Type 0
AllCodes f xs = all_below (λ i. ltb (coefficients xs i) f.order) (length xs) ≡ true

module _ (f : Arithmetic) (L : FieldLaws f) where
  pub all_codes : (xs : List ℕ) → AllCodes f xs → (i : ℕ) → coefficients xs i < f.order
  all_codes xs t =
      codes_throughout f L xs (length xs) (omega arith)
      (λ i l. ltb-true (coefficients xs i) f.order (passes_below (λ i. ltb (coefficients xs i) f.order) (length xs) t i l))

  pub codes_polynomial : (xs : List ℕ) → AllCodes f xs → IsPolynomial f (coefficients xs)
  codes_polynomial xs t = list_polynomial f L xs (all_codes xs t)

  -- A list of codes whose leading one is 1 is a modulus.
  pub is_modulus : (m : List ℕ) (d : ℕ) → AllCodes f m → degree_of m ≡ d → 1 ≤ d → coefficients m d ≡ 1 → IsModulus f m
  is_modulus m d codes degree_is least leading =
      record { codes = all_codes m codes; proper = omega (arith, degree_is); leading = rw degree_is leading }

  -- A product has no more codes than its factors together.
  product_below : (xs ys : List ℕ) (n : ℕ) → AllCodes f xs → AllCodes f ys → length xs + length ys ≤ n
      → Below n (multiply f (coefficients xs) (coefficients ys))
  product_below xs ys n hx hy l =
      below_more (length xs + length ys) n (multiply f (coefficients xs) (coefficients ys)) l
      (below_multiply f L (length xs) (length ys) (coefficients xs) (coefficients ys) (codes_polynomial xs hx) (codes_polynomial ys hy)
      (coefficients_below xs) (below_more (length ys) (suc (length ys)) (coefficients ys) (omega arith) (coefficients_below ys)))

  -- So the product of two lists is a third if it agrees with it at these places.
  pub product_is : (xs ys zs : List ℕ) → AllCodes f xs → AllCodes f ys → length zs ≤ length xs + length ys
      → all_below (λ i. eqb (multiply f (coefficients xs) (coefficients ys) i) (coefficients zs i)) (length xs + length ys) ≡ true
      → multiply f (coefficients xs) (coefficients ys) ≡ coefficients zs
  product_is xs ys zs hx hy l =
      same_by_places (multiply f (coefficients xs) (coefficients ys)) (coefficients zs) (length xs + length ys)
      (product_below xs ys (length xs + length ys) hx hy (omega arith))
      (below_more (length zs) (length xs + length ys) (coefficients zs) l (coefficients_below zs))

  -- Polynomials are coprime if a combination of them agrees with 1 at all the places that it has, n + 1 at most.
  coprime_by_places : (ms ns left right : List ℕ) → AllCodes f ms → AllCodes f ns → AllCodes f left → AllCodes f right
      → (n : ℕ) → length left + length ms ≤ suc n → length right + length ns ≤ suc n
      → all_below (λ i. eqb (add f (multiply f (coefficients left) (coefficients ms)) (multiply f (coefficients right) (coefficients ns)) i) (one i)) (suc n) ≡ true
      → Coprime f (coefficients ms) (coefficients ns)
  coprime_by_places ms ns left right hm hn hl hr n l g t =
      let lm = multiply f (coefficients left) (coefficients ms) in
      let rn = multiply f (coefficients right) (coefficients ns) in
      record {
        left = coefficients left;
        left_polynomial = codes_polynomial left hl;
        right = coefficients right;
        right_polynomial = codes_polynomial right hr;
        is =
            same_by_places (add f lm rn) one (suc n)
            (below_add f L (suc n) lm rn (product_below left ms (suc n) hl hm l) (product_below right ns (suc n) hr hn g))
            (λ i h. monomial_off 1 0 i (omega arith)) t;
      }

  -- Then they share no factor.
  pub not_shared_by_places : (ms ns left right : List ℕ) → AllCodes f ms → AllCodes f ns → AllCodes f left → AllCodes f right
      → (n : ℕ) → length left + length ms ≤ suc n → length right + length ns ≤ suc n
      → all_below (λ i. eqb (add f (multiply f (coefficients left) (coefficients ms)) (multiply f (coefficients right) (coefficients ns)) i) (one i)) (suc n) ≡ true
      → ¬ (ShareFactor f (coefficients ms) (coefficients ns))
  not_shared_by_places ms ns left right hm hn hl hr n l g t =
      coprime_not_shared f L (coefficients ms) (coefficients ns) (codes_polynomial ms hm) (codes_polynomial ns hn)
      (coprime_by_places ms ns left right hm hn hl hr n l g t)
