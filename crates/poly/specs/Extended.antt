-- Euclid's extended algorithm on M and Y: what two remainders that follow one another, and the factors of Y
-- in them, keep.
use Rattle.std.specs.Prelude.{◌≡◌, ℕ, zero, suc, ◌+◌, ◌<◌}
use Rattle.algebra.specs.Field.{Arithmetic}
use Rattle.algebra.specs.Polynomial.{Below, HasDegree, IsPolynomial, Divides, add, subtract, multiply, coefficients}
use Rattle.poly.specs.declared.steps.Euclid.{Euclid}
use Rattle.poly.specs.Slices.{Codes, Divided, capacity}

-- M has degree D. Both remainders are combinations s·M + t·Y; deg t + deg previous = D; and what divides both
-- divides M and Y.
pub record Extended (f : Arithmetic) (D : ℕ) (M Y previous current t_previous t : ℕ → ℕ) : Type 0 where
  pub M_polynomial : IsPolynomial f M
  pub Y_polynomial : IsPolynomial f Y
  pub previous_polynomial : IsPolynomial f previous
  pub current_polynomial : IsPolynomial f current
  pub t_previous_polynomial : IsPolynomial f t_previous
  pub t_polynomial : IsPolynomial f t
  pub s_previous : ℕ → ℕ
  pub s_previous_polynomial : IsPolynomial f s_previous
  pub s : ℕ → ℕ
  pub s_polynomial : IsPolynomial f s
  pub previous_is : previous ≡ add f (multiply f s_previous M) (multiply f t_previous Y)
  pub current_is : current ≡ add f (multiply f s M) (multiply f t Y)
  pub t_degree : ℕ
  pub t_has : HasDegree t_degree t
  pub t_previous_below : Below t_degree t_previous
  pub previous_degree : ℕ
  pub previous_has : HasDegree previous_degree previous
  pub current_below : Below previous_degree current
  pub degrees : t_degree + previous_degree ≡ D
  pub common : (g : ℕ → ℕ) → IsPolynomial f g → Divides f g previous → Divides f g current → Divides f g M × Divides f g Y

-- The buffers of the algorithm hold such a state.
abbrev pub Holds : Arithmetic → ℕ → (ℕ → ℕ) → (ℕ → ℕ) → Euclid → Type 0
Holds f D M Y e =
    Extended f D M Y (coefficients e.previous) (coefficients e.current) (coefficients e.t_previous) (coefficients e.t_current)

-- They hold a state on some M and Y whose degrees fit.
pub record Running (f : Arithmetic) (e : Euclid) : Type 0 where
  pub D : ℕ
  pub M : ℕ → ℕ
  pub Y : ℕ → ℕ
  pub fits : D < capacity
  pub holds : Holds f D M Y e

-- One step: the previous remainder is divided by the current one, and quotient·t is taken off t_previous.
pub record Stepped (f : Arithmetic) (from to : Euclid) : Type 0 where
  pub quotient : ℕ → ℕ
  pub divided : Divided f (coefficients from.previous) (coefficients from.current) quotient (coefficients to.current)
  pub previous_is : to.previous ≡ from.current
  pub t_previous_is : to.t_previous ≡ from.t_current
  pub t_is : coefficients to.t_current ≡ subtract f (coefficients from.t_previous) (multiply f quotient (coefficients from.t_current))
  pub current_codes : Codes f to.current
  pub t_codes : Codes f to.t_current

-- n steps lead from one state to the other, each from a remainder of more than `most` codes.
abbrev pub Steps : Arithmetic → ℕ → ℕ → Euclid → Euclid → Type 0
Steps f most zero from to = to ≡ from
Steps f most (suc n) from to = (e : Euclid) × Steps f most n from e × ¬ (Below most (coefficients e.current)) × Stepped f e to
