-- What a commutative ring and a field are, whatever their elements; and the codes of a finite field as a type.
use Rattle.std.specs.Prelude.{◌≡◌, ℕ, ◌<◌, ◌≢◌}
use mathlib.Core.HLevel.{Discrete}

-- A commutative ring with one, on a set.
pub record Ring (R : Type 0) : Type 0 where
  pub is_set : IsSet R
  pub 𝟎 : R
  pub 𝟏 : R
  pub sum : R → R → R
  pub negative : R → R
  pub product : R → R → R
  pub sum_assoc : (a b c : R) → sum (sum a b) c ≡ sum a (sum b c)
  pub sum_comm : (a b : R) → sum a b ≡ sum b a
  pub sum_zero : (a : R) → sum a 𝟎 ≡ a
  pub sum_negative : (a : R) → sum a (negative a) ≡ 𝟎
  pub product_assoc : (a b c : R) → product (product a b) c ≡ product a (product b c)
  pub product_comm : (a b : R) → product a b ≡ product b a
  pub product_one : (a : R) → product a 𝟏 ≡ a
  pub distributes : (a b c : R) → product a (sum b c) ≡ sum (product a b) (product a c)

-- A field: a ring in which 1 is not 0, equality can be decided, and every element but 0 has an inverse.
pub record Field (E : Type 0) : Type 0 where
  pub ring : Ring E
  pub decide : Discrete E
  pub inverse : E → E
  pub product_inverse : (a : E) → a ≢ ring.𝟎 → ring.product a (inverse a) ≡ ring.𝟏
  pub one_not_zero : ring.𝟏 ≢ ring.𝟎

-- The codes of a field of order q: the numbers below q.
abbrev pub Code : ℕ → Type 0
Code q = (n : ℕ) × (n < q)
