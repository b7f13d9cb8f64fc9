-- Monomials, congruence, coprime polynomials, and the product of a family of moduli; all by coefficients.
use Rattle.std.specs.Prelude.{◌≡◌, ℕ, zero, suc, ◌+◌, ◌<◌, Bool, cond}
use Rattle.algebra.specs.Field.{Arithmetic}
use Rattle.algebra.specs.Polynomial.{add, subtract, multiply, IsPolynomial, Divides}

-- The monomial c·z^k.
abbrev pub monomial : ℕ → ℕ → ℕ → ℕ
monomial c zero zero = c
monomial c zero (suc i) = 0
monomial c (suc k) zero = 0
monomial c (suc k) (suc i) = monomial c k i

-- The polynomials 1 and 0.
abbrev pub one : ℕ → ℕ
one = monomial 1 0

abbrev pub nought : ℕ → ℕ
nought = λ i. 0

-- a and b leave the same remainder modulo m: m divides a - b.
abbrev pub Congruent : Arithmetic → (ℕ → ℕ) → (ℕ → ℕ) → (ℕ → ℕ) → Type 0
Congruent f m a b = Divides f m (subtract f a b)

-- m and n are coprime: 1 is a multiple of m plus a multiple of n.
pub record Coprime (f : Arithmetic) (m n : ℕ → ℕ) : Type 0 where
  pub left : ℕ → ℕ
  pub left_polynomial : IsPolynomial f left
  pub right : ℕ → ℕ
  pub right_polynomial : IsPolynomial f right
  pub is : add f (multiply f left m) (multiply f right n) ≡ one

-- The product m₀·m₁·…, and the sum d₀ + d₁ + …, of the first n.
unfoldable pub product_of : Arithmetic → (ℕ → ℕ → ℕ) → ℕ → ℕ → ℕ
product_of f m zero = one
product_of f m (suc n) = multiply f (product_of f m n) (m n)

unfoldable pub total : (ℕ → ℕ) → ℕ → ℕ
total d zero = 0
total d (suc n) = total d n + d n

-- Any two of the first n are coprime.
abbrev pub PairwiseCoprime : Arithmetic → (ℕ → ℕ → ℕ) → ℕ → Type 0
PairwiseCoprime f m n = (i j : ℕ) → i < j → j < n → Coprime f (m i) (m j)

-- Some of a family: 1 stands in place of what is not chosen, and 0 in place of its degree.
abbrev pub chosen : (ℕ → Bool) → (ℕ → ℕ → ℕ) → ℕ → ℕ → ℕ
chosen keep m = λ i. cond (keep i) (m i) one

abbrev pub chosen_degrees : (ℕ → Bool) → (ℕ → ℕ) → ℕ → ℕ
chosen_degrees keep d = λ i. cond (keep i) (d i) 0
