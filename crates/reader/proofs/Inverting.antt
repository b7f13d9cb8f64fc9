-- Euclid's extended algorithm run to its end: the inverse of p modulo m.
use Rattle.std.proofs.Common.{◌≡◌, ℕ, ◌+◌, List, sym, ap, ◌∙◌, subst, arith}
use native.Mathlib.Decide.{dec_le}
use Rattle.algebra.specs.Field.{Arithmetic, FieldLaws}
use Rattle.algebra.specs.Moduli.{Congruent, Coprime, one, nought, monomial}
use Rattle.algebra.specs.Polynomial.{Below, HasDegree, IsPolynomial, add, coefficients, multiply}
use Rattle.algebra.proofs.Coefficients.{below_more, below_nought, below_multiply, monomial_polynomial, multiply_comm, multiply_polynomial, nought_add, monomial_off}
use Rattle.algebra.proofs.Reading.{constant_inverse, euclid_inverse, euclid_shared}
use Rattle.algebra.proofs.Residues.{coprime_not_shared}
use Rattle.poly.specs.Extended.{Extended}
use Rattle.poly.specs.declared.steps.Euclid.{Euclid}
use Rattle.poly.proofs.ExtendedState.{to_euclidean}

-- The four buffers of a state as coefficients.
abbrev pub Reached : Arithmetic → ℕ → (ℕ → ℕ) → (ℕ → ℕ) → Euclid → Type 0
Reached f D M Y e = Extended f D M Y (coefficients e.previous) (coefficients e.current) (coefficients e.t_previous) (coefficients e.t_current)

module _ (f : Arithmetic) (L : FieldLaws f) (D : ℕ) (m p : List ℕ) (e : Euclid) (E : Reached f D (coefficients m) (coefficients p) e)
    (none : Below 0 (coefficients e.current)) where
  abbrev factor : ℕ
  factor = f.inverse (coefficients e.previous 0)

  -- The factor of p, scaled by the inverse of the constant that is left.
  abbrev scaled : ℕ → ℕ
  scaled = multiply f (monomial factor 0) (coefficients e.t_previous)

  factor_polynomial : IsPolynomial f (monomial factor 0)
  factor_polynomial = monomial_polynomial f L factor 0 (L.inverse_below (coefficients e.previous 0))

  pub scaled_below : Below D scaled
  scaled_below =
      let fixed = multiply_comm f L (monomial factor 0) (coefficients e.t_previous) factor_polynomial E.t_previous_polynomial in
      let low =
      below_multiply f L E.t_degree 0 (coefficients e.t_previous) (monomial factor 0) E.t_previous_polynomial factor_polynomial E.t_previous_below
      (λ i l. monomial_off factor 0 i (omega arith)) in
      subst (λ (x : ℕ → ℕ). Below D x) (sym fixed)
      (below_more (E.t_degree + 0) D _ (omega (arith, E.degrees)) low)

  over : coefficients e.current ≡ nought
  over = below_nought (coefficients e.current) none

  -- Where m and p are coprime a constant is left.
  constant : Coprime f (coefficients m) (coefficients p) → HasDegree 0 (coefficients e.previous)
  constant coprime =
      elim (dec_le 1 E.previous_degree) [
        | yes l ↦
            let run =
            to_euclidean f L D (coefficients m) (coefficients p) (coefficients e.previous) nought (coefficients e.t_previous)
            (coefficients e.t_current)
            (subst (λ (x : ℕ → ℕ). Extended f D (coefficients m) (coefficients p) (coefficients e.previous) x (coefficients e.t_previous) (coefficients e.t_current))
            over E) in
            absurd
            (coprime_not_shared f L (coefficients m) (coefficients p) E.M_polynomial E.Y_polynomial coprime
            (euclid_shared f L D E.previous_degree (coefficients m) (coefficients p) (coefficients e.previous) (coefficients e.t_previous)
            (coefficients e.t_current) run E.previous_has l))
        | no l ↦ let zero : E.previous_degree ≡ 0 = omega arith in subst (λ (n : ℕ). HasDegree n (coefficients e.previous)) zero E.previous_has
      ]

  pub scaled_inverts : Coprime f (coefficients m) (coefficients p) → Congruent f (coefficients m) (multiply f scaled (coefficients p)) one
  scaled_inverts coprime =
      euclid_inverse f L D (coefficients m) (coefficients p) (coefficients e.previous) (coefficients e.current) (coefficients e.t_previous)
      (coefficients e.t_current) (monomial factor 0)
      (to_euclidean f L D (coefficients m) (coefficients p) (coefficients e.previous) (coefficients e.current) (coefficients e.t_previous)
      (coefficients e.t_current) E)
      factor_polynomial (constant_inverse f L (coefficients e.previous) E.previous_polynomial (constant coprime))

  -- What is added to a table of zeros.
  pub scaled_value : (r : List ℕ) (k : ℕ) → k ≡ factor → coefficients r ≡ add f nought (multiply f (monomial k 0) (coefficients e.t_previous))
      → coefficients r ≡ scaled
  scaled_value r k same is =
      is ∙ ap (λ (n : ℕ). add f nought (multiply f (monomial n 0) (coefficients e.t_previous))) same
      ∙ nought_add f L scaled (multiply_polynomial f L (monomial factor 0) (coefficients e.t_previous) factor_polynomial E.t_previous_polynomial)
