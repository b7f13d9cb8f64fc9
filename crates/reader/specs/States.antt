-- Inner: no public contract cites this.
-- What a state of joining, and a modulus with its residue, keep.
use Rattle.std.specs.Prelude.{◌≡◌, ℕ, ◌+◌, ◌<◌, ◌≤◌, List, length}
use Rattle.algebra.specs.Field.{Arithmetic}
use Rattle.algebra.specs.Polynomial.{Below, HasDegree, coefficients}
use Rattle.plan.specs.Limits.{modulus_codes}
use Rattle.poly.specs.Slices.{Codes, capacity}

-- A modulus that ends in its leading code 1, with a residue of as many codes as its degree, which is 1 or more.
pub record IsPair (f : Arithmetic) (modulus residue : List ℕ) : Type 0 where
  pub least : 1 ≤ length residue
  pub long : length modulus ≡ length residue + 1
  pub short : length modulus ≤ modulus_codes
  pub monic : coefficients modulus (length residue) ≡ 1
  pub codes : Codes f modulus
  pub residue_codes : Codes f residue

-- M has the degree D that is told, which fits a table, and Y is below it.
pub record IsState (f : Arithmetic) (M Y : List ℕ) (D : ℕ) : Type 0 where
  pub fits : D < capacity
  pub product_codes : Codes f M
  pub value_codes : Codes f Y
  pub has_degree : HasDegree D (coefficients M)
  pub below : Below D (coefficients Y)
