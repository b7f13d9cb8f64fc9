-- Inner: no public contract cites this.
-- Which positions are gathered for the search, and what is joined of them.
use Rattle.std.specs.Prelude.{◌≡◌, ℕ, ◌<◌, Bool, cond, ◌&&◌, List, length, is_some, Some, None, Option, ◌==◌, nat_lt}
use Rattle.std.specs.List.{list_all}
use Rattle.algebra.specs.Moduli.{Congruent, chosen, chosen_degrees, product_of, total}
use Rattle.algebra.specs.Polynomial.{coefficients}
use Rattle.plan.specs.Accounts.{Account}
use Rattle.plan.specs.Schemes.{Scheme, degree, modulus}

-- Every number is below q.
abbrev pub all_below : ℕ → List ℕ → Bool
all_below q xs = list_all (λ x. nat_lt x q) xs

-- A residue can be used at position i if it has as many numbers as the position, and all of them are codes.
-- Any other is wrong for every message.
abbrev pub is_usable : Scheme → ℕ → List ℕ → Bool
is_usable s i y = length y == degree s i && all_below s.arithmetic.order y

-- What has arrived for position i, if it can be used.
abbrev pub usable : Scheme → ℕ → Option (List ℕ) → Option (List ℕ)
usable s i None = None
usable s i (Some y) = cond (is_usable s i y) (Some y) None

module _ (s : Scheme) (account : Account) where
  -- The positions that are kept.
  abbrev pub kept : ℕ → Bool
  kept i = is_some (usable s i (account i))

  -- Of the first n positions the kept ones are joined: M is the product of their moduli, D the sum of their
  -- degrees, and Y leaves their residues.
  pub record GatheredTo (n D : ℕ) (M Y : ℕ → ℕ) : Type 0 where
    pub degree_is : D ≡ total (chosen_degrees kept (degree s)) n
    pub product_is : M ≡ product_of s.arithmetic (chosen kept (λ i. coefficients (modulus s i))) n
    pub congruent :
        (i : ℕ) (y : List ℕ) → i < n → usable s i (account i) ≡ Some y → Congruent s.arithmetic (coefficients (modulus s i)) Y (coefficients y)
