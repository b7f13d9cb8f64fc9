-- Polynomials held in slices of codes, lowest power first: what the functions of this crate ask and promise.
use Rattle.std.specs.Prelude.{◌≡◌, ℕ, suc, ◌-◌, ◌^◌, ◌<◌, List, ℤ, pos, negsuc}
use Rattle.algebra.specs.Field.{Arithmetic}
use Rattle.algebra.specs.Polynomial.{Below, HasDegree, IsDivision, IsPolynomial, Divides, coefficients}

-- Every number of the slice is a code of the field.
abbrev pub Codes : Arithmetic → List ℕ → Type 0
Codes f xs = (i : ℕ) → coefficients xs i < f.order

-- The longest slice whose every place is an i32, as a degree is answered.
abbrev pub longest : ℕ
longest = 2 ^ 31

-- How many codes the buffers of Euclid's algorithm hold.
abbrev pub capacity : ℕ
capacity = 65

-- n codes are significant: the last of them is not 0, and all that follow are.
pub record Significant (p : ℕ → ℕ) (n : ℕ) : Type 0 where
  pub leading : 0 < n → 0 < p (n - 1)
  pub above : Below n p

-- How many codes are significant of a polynomial of this degree.
abbrev pub count_of : ℤ → ℕ
count_of (pos d) = suc d
count_of (negsuc _) = 0

-- Quotient and remainder of a division; dividing by zero gives quotient zero and the dividend as remainder.
pub record Divided (f : Arithmetic) (dividend divisor quotient remainder : ℕ → ℕ) : Type 0 where
  pub by_zero : Below 0 divisor → Below 0 quotient × (remainder ≡ dividend)
  pub by_degree : (d : ℕ) → HasDegree d divisor → IsDivision f d dividend divisor quotient remainder

-- g is a greatest common divisor of a and b.
pub record IsGcd (f : Arithmetic) (a b g : ℕ → ℕ) : Type 0 where
  pub divides_left : Divides f g a
  pub divides_right : Divides f g b
  pub greatest : (c : ℕ → ℕ) → IsPolynomial f c → Divides f c a → Divides f c b → Divides f c g
