-- Remainders by a modulus whose leading code is 1: as a relation, and as the codes themselves.
use Rattle.std.specs.Prelude.{ℕ, List, [], ◌∷◌, map, replicate, slice_index}
use Rattle.std.specs.List.{range_with_len}
use Rattle.algebra.specs.Field.{Arithmetic}
use Rattle.algebra.specs.Polynomial.{IsDivision}

-- r is the remainder of a by m, which has degree d: some quotient completes the division.
pub record IsRemainder (f : Arithmetic) (d : ℕ) (m a r : ℕ → ℕ) : Type 0 where
  pub quotient : ℕ → ℕ
  pub division : IsDivision f d a m quotient r

-- p less the multiple of m that clears its coefficient of z^d, where m has leading code 1: the d codes that are left.
abbrev pub cleared : Arithmetic → ℕ → (ℕ → ℕ) → List ℕ → List ℕ
cleared f d m p = map (λ i. f.sum (slice_index p i) (f.negative (f.product (slice_index p d) (m i)))) (range_with_len 0 d)

-- The remainder's d codes. The polynomial c + z·a leaves what c + z·(the remainder of a) leaves.
unfoldable pub remainder : Arithmetic → ℕ → (ℕ → ℕ) → List ℕ → List ℕ
remainder f d m [] = replicate d 0
remainder f d m (c ∷ a) = cleared f d m (c ∷ remainder f d m a)
