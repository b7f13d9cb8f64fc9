-- Polynomials in z over a field, by the codes of their coefficients: coefficient i is that of z^i.
use Rattle.std.specs.Prelude.{◌≡◌, ℕ, zero, suc, ◌<◌, ◌≤◌, List, ℤ, pos, negsuc, slice_index}
use Rattle.algebra.specs.Field.{Arithmetic}

-- A list of codes, lowest power first, as coefficients: 0 past its end.
abbrev pub coefficients : List ℕ → ℕ → ℕ
coefficients codes i = slice_index codes i

-- Every coefficient from z^d on is 0.
abbrev pub Below : ℕ → (ℕ → ℕ) → Type 0
Below d p = (i : ℕ) → d ≤ i → p i ≡ 0

-- Degree d: the coefficient of z^d is the last that is not 0.
pub record HasDegree (d : ℕ) (p : ℕ → ℕ) : Type 0 where
  pub leading : 0 < p d
  pub above : Below (suc d) p

-- The degree as a signed number: -1 for the zero polynomial.
abbrev pub DegreeIs : (ℕ → ℕ) → ℤ → Type 0
DegreeIs p (pos d) = HasDegree d p
DegreeIs p (negsuc zero) = Below 0 p
DegreeIs p (negsuc (suc _)) = ⊥

-- Sum, difference and product, coefficient by coefficient.
abbrev pub add : Arithmetic → (ℕ → ℕ) → (ℕ → ℕ) → ℕ → ℕ
add f p r i = f.sum (p i) (r i)

abbrev pub subtract : Arithmetic → (ℕ → ℕ) → (ℕ → ℕ) → ℕ → ℕ
subtract f p r i = f.sum (p i) (f.negative (r i))

-- p = p₀ + z·p', so the coefficient of z^(n+1) in p·r is p₀·r(n+1) plus that of z^n in p'·r.
unfoldable pub multiply : Arithmetic → (ℕ → ℕ) → (ℕ → ℕ) → ℕ → ℕ
multiply f p r zero = f.product (p 0) (r 0)
multiply f p r (suc n) = f.sum (f.product (p 0) (r (suc n))) (multiply f (λ i. p (suc i)) r n)

-- A polynomial: every coefficient is a code, and from some power on all are 0.
pub record IsPolynomial (f : Arithmetic) (p : ℕ → ℕ) : Type 0 where
  pub codes : (i : ℕ) → p i < f.order
  pub bound : ℕ
  pub ends : Below bound p

-- m divides a: a is a polynomial times m.
pub record Divides (f : Arithmetic) (m a : ℕ → ℕ) : Type 0 where
  pub by : ℕ → ℕ
  pub by_polynomial : IsPolynomial f by
  pub is : a ≡ multiply f by m

-- Two polynomials share a factor: some polynomial of degree 1 or more divides both.
pub record ShareFactor (f : Arithmetic) (m n : ℕ → ℕ) : Type 0 where
  pub factor : ℕ → ℕ
  pub factor_polynomial : IsPolynomial f factor
  pub degree : ℕ
  pub degree_least : 1 ≤ degree
  pub has_degree : HasDegree degree factor
  pub divides_left : Divides f factor m
  pub divides_right : Divides f factor n

-- Division of a by m, which has degree d: a = quotient · m + remainder, the remainder of lower degree than m.
pub record IsDivision (f : Arithmetic) (d : ℕ) (a m quotient remainder : ℕ → ℕ) : Type 0 where
  pub quotient_polynomial : IsPolynomial f quotient
  pub remainder_polynomial : IsPolynomial f remainder
  pub remainder_below : Below d remainder
  pub is : a ≡ add f (multiply f quotient m) remainder
