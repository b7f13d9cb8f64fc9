-- Inner: no public contract cites this.
-- The search for a message in what is joined: where Euclid's extended algorithm is stopped, r = t·a for every
-- message a within reach, so that the quotient of r by t is the only candidate.
use Rattle.std.specs.Prelude.{◌≡◌, ℕ, List, Some, None, Option}
use Rattle.algebra.specs.Field.{Arithmetic}
use Rattle.algebra.specs.Polynomial.{Below, IsPolynomial, coefficients, multiply}
use Rattle.algebra.specs.Theorems.{Stopped}
use Rattle.poly.specs.Slices.{Codes}

-- The polynomial below K that r is t times; or that there is none.
abbrev pub Quotient : Arithmetic → ℕ → (ℕ → ℕ) → (ℕ → ℕ) → Option (List ℕ) → Type 0
Quotient f K r t (Some c) = Codes f c × Below K (coefficients c) × (r ≡ multiply f t (coefficients c))
Quotient f K r t None = (a : ℕ → ℕ) → IsPolynomial f a → Below K a → ¬ (r ≡ multiply f t a)

-- The algorithm on M, of degree D, and Y is stopped, and the quotient is told.
pub record Searched (f : Arithmetic) (D K : ℕ) (M Y : ℕ → ℕ) (candidate : Option (List ℕ)) : Type 0 where
  pub r : ℕ → ℕ
  pub t : ℕ → ℕ
  pub stopped : Stopped f D K M Y r t
  pub quotient : Quotient f K r t candidate
