-- The significant codes of a slice, division by them alone, and what a division leaves.
use Rattle.std.proofs.Common.{◌≡◌, ℕ, zero, suc, ◌+◌, ◌-◌, ◌<◌, ◌≤◌, max, min, List, [], ◌∷◌, length, get_or, take, replicate, ℤ, pos, negsuc, sym, refl, ap, ◌∙◌, arith, w32, SFits, to_z, of_z, to_z-of_z}
use mathlib.Core.Path.{fun_ext}
use native.Mathlib.Decide.{dec_lt}
use Rattle.std.proofs.lemmas.List.{get_or-take, length-take-le}
use Rattle.algebra.specs.Field.{Arithmetic}
use Rattle.algebra.specs.Polynomial.{coefficients, Below, DegreeIs, HasDegree, IsDivision}
use Rattle.algebra.proofs.Coefficients.{coefficients_below, degree_less, degree_one_only, below_more}
use Rattle.algebra.proofs.Remainders.{zeros_nought}
use Rattle.poly.specs.Slices.{Significant, Divided, Codes, count_of}

pub significant_degree : (p : ℕ → ℕ) (n : ℕ) → Significant p n → 0 < n → HasDegree (n - 1) p
significant_degree p n s l =
    record { leading = s.leading l; above = below_more n (suc (n - 1)) p (omega arith) s.above }

-- What a signed degree says.
degree_significant : (p : ℕ → ℕ) (z : ℤ) → DegreeIs p z → Significant p (count_of z)
degree_significant p (pos d) h = let last : suc d - 1 ≡ d = omega arith in record { leading = λ _. rw last h.leading; above = h.above }
degree_significant p (negsuc zero) h = record { leading = λ l. absurd (omega (arith, l)); above = h }
degree_significant p (negsuc (suc k)) h = absurd h

-- As many codes of a list, counted by its degree.
pub counted : (xs : List ℕ) (z : ℤ) (n : ℕ) → SFits w32 z → DegreeIs (coefficients xs) z → n ≡ count_of (to_z w32 (of_z w32 z)) → Significant (coefficients xs) n
counted xs z n fits h e = let same : n ≡ count_of z = e ∙ ap count_of (to_z-of_z fits) in rw same (degree_significant (coefficients xs) z h)

pub significant_within : (xs : List ℕ) (n : ℕ) → Significant (coefficients xs) n → n ≤ length xs
significant_within xs n s =
    elim (dec_lt (length xs) n) [
      | yes l ↦ absurd (omega (arith, s.leading (omega arith), coefficients_below xs (n - 1) (omega arith)))
      | no l ↦ omega arith
    ]

-- How many codes are significant, as a function of the list: it falls with each division.
abbrev pub used : List ℕ → ℕ
used [] = 0
used (x ∷ xs) = max (min x 1) (used xs + min (used xs) 1)

used_most : (xs : List ℕ) (n : ℕ) → Below n (coefficients xs) → used xs ≤ n
used_most [] n b = omega arith
used_most (x ∷ xs) zero b = omega (arith, b 0 (omega arith), used_most xs 0 (λ i l. b (suc i) (omega arith)))
used_most (x ∷ xs) (suc n) b = omega (arith, used_most xs n (λ i l. b (suc i) (omega arith)))

used_least : (xs : List ℕ) (k : ℕ) → 0 < coefficients xs k → k < used xs
used_least [] k h = absurd (omega (arith, h))
used_least (x ∷ xs) zero h = omega (arith, h)
used_least (x ∷ xs) (suc k) h = omega (arith, used_least xs k h)

pub fewer_used : (d : ℕ) (m r : List ℕ) → HasDegree d (coefficients m) → Below d (coefficients r) → used r < used m
fewer_used d m r h b = omega (arith, used_least m d h.leading, used_most r d b)

-- The codes before z^n, where all from z^n on are 0.
pub front_is : (xs : List ℕ) (n : ℕ) → Below n (coefficients xs) → n ≤ length xs → coefficients (take n xs) ≡ coefficients xs
front_is xs n b l =
    fun_ext (λ i. elim (dec_lt i n) [
      | yes h ↦ get_or-take n xs i 0 h
      | no h ↦ coefficients_below (take n xs) i (omega (arith, length-take-le n xs l)) ∙ sym (b i (omega arith))
    ])

-- A slice `&xs[..n]` of the significant codes.
pub front_codes : (f : Arithmetic) (xs : List ℕ) (n : ℕ) → n ≤ length xs → Significant (coefficients xs) n → Codes f xs → Codes f (take n xs)
front_codes f xs n l s h i = rw (ap (λ (p : ℕ → ℕ). p i) (front_is xs n s.above l)) (h i)

pub divided_by_zero : (f : Arithmetic) (a m q : ℕ → ℕ) → Below 0 m → Below 0 q → Divided f a m q a
divided_by_zero f a m q zm zq =
    record {
      by_zero = λ z. (zq, refl);
      by_degree = λ d h. absurd (omega (arith, degree_less d 0 m h zm));
    }

pub divided_by_degree : (f : Arithmetic) (d : ℕ) (a m q r : ℕ → ℕ) → HasDegree d m → IsDivision f d a m q r → Divided f a m q r
divided_by_degree f d a m q r h D =
    record {
      by_zero = λ z. absurd (omega (arith, degree_less d 0 m h z));
      by_degree = λ e k. let same = degree_one_only d e m h k in rw same at D;
    }

pub divided_by_front : (f : Arithmetic) (a q r : ℕ → ℕ) (m : List ℕ) (n : ℕ) → n ≤ length m → 0 < n → Significant (coefficients m) n
    → IsDivision f (length (take n m) - 1) a (coefficients (take n m)) q r → Divided f a (coefficients m) q r
divided_by_front f a q r m n l h s D =
    let D' : IsDivision f (n - 1) a (coefficients (take n m)) q r = rw (length-take-le n m l) at D in
    divided_by_degree f (n - 1) a (coefficients m) q r (significant_degree (coefficients m) n s h) (rw (front_is m n s.above l) at D')

pub zeros_below : (xs : List ℕ) (n : ℕ) → xs ≡ replicate n 0 → Below 0 (coefficients xs)
zeros_below xs n e i l = ap (λ (ys : List ℕ). get_or ys i 0) e ∙ ap (λ (p : ℕ → ℕ). p i) (zeros_nought n)

-- The same coefficients are as much codes.
pub loaded_codes : (f : Arithmetic) (xs ys : List ℕ) → coefficients xs ≡ coefficients ys → Codes f ys → Codes f xs
loaded_codes f xs ys e h i = let here : coefficients xs i ≡ coefficients ys i = ap (λ (p : ℕ → ℕ). p i) e in rw here (h i)
