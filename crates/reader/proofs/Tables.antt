-- Polynomials in tables: zeros after the codes change nothing.
use Rattle.std.proofs.Common.{◌≡◌, ℕ, zero, suc, ◌+◌, ◌-◌, ◌<◌, ◌≤◌, List, [], ◌∷◌, ◌++◌, length, take, drop, replicate, sym, refl, ap, ◌∙◌, subst, arith, get_or-drop}
use mathlib.Core.Path.{fun_ext}
use Rattle.algebra.specs.Field.{Arithmetic, FieldLaws}
use Rattle.algebra.specs.Moduli.{nought}
use Rattle.algebra.specs.Polynomial.{Below, coefficients}
use Rattle.algebra.specs.Remainder.{IsRemainder}
use Rattle.algebra.proofs.Codes.{zero_below}
use Rattle.algebra.proofs.Remainders.{zeros_nought}
use Rattle.poly.specs.Slices.{Codes}
use Rattle.poly.proofs.Fronts.{front_is}

-- What has a polynomial's coefficients has codes of the field where they are.
pub codes_of : (f : Arithmetic) (xs : List ℕ) (p : ℕ → ℕ) → coefficients xs ≡ p → ((i : ℕ) → p i < f.order) → Codes f xs
codes_of f xs p e h i = let here : coefficients xs i ≡ p i = ap (λ (x : ℕ → ℕ). x i) e in rw here (h i)

pub padded : (ys zs : List ℕ) → Below 0 (coefficients zs) → coefficients (ys ++ zs) ≡ coefficients ys
padded ys zs z = fun_ext (each ys)
  where
    each : (ys : List ℕ) (i : ℕ) → coefficients (ys ++ zs) i ≡ coefficients ys i
    each [] i = z i (omega arith)
    each (y ∷ ys) zero = refl
    each (y ∷ ys) (suc i) = each ys i

pub zeros_drop : (k : ℕ) (zs : List ℕ) → Below 0 (coefficients zs) → Below 0 (coefficients (drop k zs))
zeros_drop k zs z i l = get_or-drop k zs i 0 ∙ z (k + i) (omega arith)

-- The remainder that stands at the front of a table of zeros.
pub remainder_padded : (f : Arithmetic) (d e : ℕ) (m a : ℕ → ℕ) (ys zs : List ℕ) → Below 0 (coefficients zs) → e ≡ d
    → IsRemainder f e m a (coefficients ys) → IsRemainder f d m a (coefficients (ys ++ zs))
remainder_padded f d e m a ys zs z same r =
    subst (λ (p : ℕ → ℕ). IsRemainder f d m a p) (sym (padded ys zs z)) (subst (λ (n : ℕ). IsRemainder f n m a (coefficients ys)) same r)

pub codes_padded : (f : Arithmetic) (ys zs : List ℕ) → Below 0 (coefficients zs) → Codes f ys → Codes f (ys ++ zs)
codes_padded f ys zs z = codes_of f (ys ++ zs) (coefficients ys) (padded ys zs z)

-- The codes before z^n, where all from z^n on are 0.
pub front_same : (xs : List ℕ) (n : ℕ) → Below n (coefficients xs) → n ≤ length xs → coefficients (take (n - 0) xs) ≡ coefficients xs
front_same xs n b l = let whole : n - 0 ≡ n = omega arith in rw whole (front_is xs n b l)

pub front_codes : (f : Arithmetic) (xs : List ℕ) (n : ℕ) → Below n (coefficients xs) → n ≤ length xs → Codes f xs → Codes f (take (n - 0) xs)
front_codes f xs n b l = codes_of f (take (n - 0) xs) (coefficients xs) (front_same xs n b l)

pub zeros_codes : (f : Arithmetic) (L : FieldLaws f) (n : ℕ) → Codes f (replicate n 0)
zeros_codes f L n = codes_of f (replicate n 0) nought (zeros_nought n) (λ i. zero_below f L)
