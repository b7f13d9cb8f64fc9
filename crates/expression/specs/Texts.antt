-- A text of a language, read from a place of a sheet; and the place where what stands there stops being one.
use Rattle.std.specs.Prelude.{◌≡◌, ℕ, ◌+◌, ◌<◌, ◌≤◌, List, ◌++◌, length, slice_index}
use Rattle.std.specs.List.{between}

-- At i stands this byte.
abbrev pub Stands : ℕ → List ℕ → ℕ → Type 0
Stands byte s i = (i < length s) × (slice_index s i ≡ byte)

-- From i to j the bytes are a text of L.
pub record Got (L : List ℕ → Type 0) (s : List ℕ) (i j : ℕ) : Type 0 where
  pub more : i ≤ j
  pub within : j ≤ length s
  pub is : L (between i j s)

-- From i to p the bytes begin a text of L and are none; with the byte at p, if there is one, they begin none.
pub record Lost (L : List ℕ → Type 0) (s : List ℕ) (i p : ℕ) : Type 0 where
  pub more : i ≤ p
  pub within : p ≤ length s
  pub begins : (t : List ℕ) × L (between i p s ++ t)
  pub short : L (between i p s) → ⊥
  pub ends : p < length s → (t : List ℕ) → L (between i (p + 1) s ++ t) → ⊥
