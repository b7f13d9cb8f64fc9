-- Euclid's algorithm on slices: two polynomials whose common divisors stay the same, until the second is zero.
use Rattle.std.proofs.Common.{◌≡◌, ℕ, zero, suc, ◌+◌, ◌<◌, eqb, List, [], ◌∷◌, ◌++◌, ◌-◌, length, drop, replicate, ℤ, pos, negsuc, MatchBool, sym, refl, ap, ◌∙◌, inl, inr, arith, w32, of_z}
use mathlib.Core.Path.{fun_ext}
use Rattle.std.proofs.lemmas.Bool.{ne_eqb}
use Rattle.std.proofs.lemmas.List.{drop-replicate}
use Rattle.algebra.specs.Field.{Arithmetic, FieldLaws}
use Rattle.algebra.specs.Polynomial.{coefficients, Below, HasDegree, DegreeIs, subtract, multiply, IsPolynomial, IsDivision, Divides, ShareFactor}
use Rattle.algebra.specs.Moduli.{monomial, nought}
use Rattle.algebra.proofs.Coefficients.{below_nought, list_polynomial, degree_monomial, degree_multiply, degree_one_only, degree_not_nought, monomial_polynomial, multiply_polynomial, multiply_nought, nought_multiply, nought_or_degree, add_comm, subtract_is}
use Rattle.algebra.proofs.Remainders.{zeros_nought}
use Rattle.algebra.proofs.Residues.{divides_self, divides_nought, divides_multiple, divides_add, divides_subtract}
use Rattle.poly.specs.Slices.{Codes, IsGcd}

same_behind : (x : ℕ) (xs ys : List ℕ) → coefficients xs ≡ coefficients ys → (i : ℕ) → coefficients (x ∷ xs) i ≡ coefficients (x ∷ ys) i
same_behind x xs ys e zero = refl
same_behind x xs ys e (suc i) = ap (λ (p : ℕ → ℕ). p i) e

-- Zeros behind a polynomial add nothing to it.
padded : (xs : List ℕ) (n : ℕ) → coefficients (xs ++ replicate n 0) ≡ coefficients xs
padded [] n = zeros_nought n
padded (x ∷ xs) n = fun_ext (same_behind x (xs ++ replicate n 0) xs (padded xs n))

-- A buffer of zeros whose first places hold p.
pub loaded_is : (p xs : List ℕ) (n : ℕ) → xs ≡ p → coefficients (xs ++ drop (length p) (replicate n 0)) ≡ coefficients p
loaded_is p xs n e = rw (e, drop-replicate {X = ℕ} (length p) n 0) (padded p (n - length p))

module _ (f : Arithmetic) (L : FieldLaws f) where
  abbrev Is : (ℕ → ℕ) → Type 0
  Is = IsPolynomial f

  -- a and b have the common divisors of m and n.
  pub record SameDivisors (m n a b : ℕ → ℕ) : Type 0 where
    pub forth : (c : ℕ → ℕ) → Is c → Divides f c m → Divides f c n → Divides f c a × Divides f c b
    pub back : (c : ℕ → ℕ) → Is c → Divides f c a → Divides f c b → Divides f c m × Divides f c n

  pub divisors_start : (m n : ℕ → ℕ) → SameDivisors m n m n
  divisors_start m n = record { forth = λ c hc x y. (x, y); back = λ c hc x y. (x, y) }

  -- One division: a = q·b + r has with b the common divisors of b and r.
  pub divisors_step : (d : ℕ) (m n a b q r : ℕ → ℕ) → Is a → Is b → IsDivision f d a b q r → SameDivisors m n a b → SameDivisors m n b r
  divisors_step d m n a b q r ha hb D S =
      record {
        forth =
            λ c hc x y.
            let both = S.forth c hc x y in
            (both.1, rw rest (divides_subtract f L c a (multiply f q b) hc ha hqb both.0 (divides_multiple f L c b q hc hb hq both.1)));
        back =
            λ c hc x y.
            S.back c hc (rw D.is (divides_add f L c (multiply f q b) r hc hqb hr (divides_multiple f L c b q hc hb hq x) y)) x;
      }
    where
      hq : Is q
      hq = D.quotient_polynomial

      hr : Is r
      hr = D.remainder_polynomial

      hqb : Is (multiply f q b)
      hqb = multiply_polynomial f L q b hq hb

      rest : r ≡ subtract f a (multiply f q b)
      rest = subtract_is f L a (multiply f q b) r ha hqb hr (add_comm f L r (multiply f q b) hr hqb ∙ sym D.is)

  pub divisors_end : (m n a b : ℕ → ℕ) → Is a → Below 0 b → SameDivisors m n a b → IsGcd f m n a
  divisors_end m n a b ha z S =
      let none = below_nought b z in
      let both = S.back a ha (divides_self f L a ha) (rw none (divides_nought f L a ha)) in
      record {
        divides_left = both.0;
        divides_right = both.1;
        greatest = λ c hc x y. (S.forth c hc x y).0;
      }

  -- A divisor of a constant other than 0 has no degree of 1 or more.
  pub constant_divisor : (d : ℕ) (c g : ℕ → ℕ) → Is c → HasDegree d c → HasDegree 0 g → Divides f c g → d ≡ 0
  constant_divisor d c g hc h k D =
      elim (nought_or_degree f L D.by D.by_polynomial) [
        | inl z ↦
            absurd (degree_not_nought 0 g k (D.is ∙ ap (λ (p : ℕ → ℕ). multiply f p c) z ∙ nought_multiply f L c hc))
        | inr u ↦
            let all : HasDegree (u.0 + d) g = rw D.is (degree_multiply f L u.0 d D.by c D.by_polynomial hc u.1 h) in
            let same = degree_one_only 0 (u.0 + d) g k all in
            omega arith
      ]

  pub gcd_constant : (m n g : ℕ → ℕ) → IsGcd f m n g → HasDegree 0 g → ShareFactor f m n → ⊥
  gcd_constant m n g G h S =
      let e =
      constant_divisor S.degree S.factor g S.factor_polynomial S.has_degree h
      (G.greatest S.factor S.factor_polynomial S.divides_left S.divides_right) in
      omega (arith, S.degree_least)

  pub gcd_shared : (d : ℕ) (m n g : ℕ → ℕ) → IsGcd f m n g → Is g → HasDegree (suc d) g → ShareFactor f m n
  gcd_shared d m n g G hg h =
      record {
        factor = g;
        factor_polynomial = hg;
        degree = suc d;
        degree_least = omega arith;
        has_degree = h;
        divides_left = G.divides_left;
        divides_right = G.divides_right;
      }

  -- Two zeros share every factor, as z.
  pub zeros_share : (m n g : ℕ → ℕ) → IsGcd f m n g → Below 0 g → ShareFactor f m n
  zeros_share m n g G z =
      let one_below : 1 < f.order = omega (arith, L.order_least) in
      let hz = monomial_polynomial f L 1 1 one_below in
      record {
        factor = monomial 1 1;
        factor_polynomial = hz;
        degree = 1;
        degree_least = omega arith;
        has_degree = degree_monomial f L 1 1 (omega arith) one_below;
        divides_left = rw (none m G.divides_left) (divides_nought f L (monomial 1 1) hz);
        divides_right = rw (none n G.divides_right) (divides_nought f L (monomial 1 1) hz);
      }
    where
      none : (a : ℕ → ℕ) → Divides f g a → a ≡ nought
      none a D = D.is ∙ ap (multiply f D.by) (below_nought g z) ∙ multiply_nought f L D.by D.by_polynomial

  -- The answer of a gcd of degree z: coprime where it is 0.
  pub gcd_decides : (z : ℤ) (m n g : ℕ → ℕ) → IsGcd f m n g → Is g → DegreeIs g z
      → MatchBool (eqb (of_z w32 z) 0) (ShareFactor f m n → ⊥) (ShareFactor f m n)
  gcd_decides (pos zero) m n g G hg h = gcd_constant m n g G h
  gcd_decides (pos (suc d)) m n g G hg h = let other = ne_eqb (suc d) 0 (omega arith) in rw other (gcd_shared d m n g G hg h)
  gcd_decides (negsuc zero) m n g G hg h = zeros_share m n g G h
  gcd_decides (negsuc (suc k)) m n g G hg h = absurd h

  -- The state of the loop.
  pub record Searching (m n : ℕ → ℕ) (previous current : List ℕ) : Type 0 where
    pub previous_codes : Codes f previous
    pub current_codes : Codes f current
    pub divisors : SameDivisors m n (coefficients previous) (coefficients current)

  module _ (m n : ℕ → ℕ) (previous current : List ℕ) (S : Searching m n previous current) where
    pub searching_again : (d : ℕ) (q : ℕ → ℕ) (r : List ℕ) → IsDivision f d (coefficients previous) (coefficients current) q (coefficients r)
        → Searching m n current r
    searching_again d q r D =
        record {
          previous_codes = S.current_codes;
          current_codes = D.remainder_polynomial.codes;
          divisors =
              divisors_step d m n (coefficients previous) (coefficients current) q (coefficients r) (list_polynomial f L previous S.previous_codes)
              (list_polynomial f L current S.current_codes) D S.divisors;
        }

    pub searching_ends : Below 0 (coefficients current) → IsGcd f m n (coefficients previous)
    searching_ends z = divisors_end m n (coefficients previous) (coefficients current) (list_polynomial f L previous S.previous_codes) z S.divisors
