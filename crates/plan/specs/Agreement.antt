-- The scheme that a plan's tables hold, and what ties the starts to it.
use Rattle.std.specs.Prelude.{◌≡◌, ℕ, ◌≤◌, List, take, slice_index}
use Rattle.algebra.specs.Field.{Arithmetic}
use Rattle.plan.specs.Schemes.{Scheme, positions, start}

-- The first n moduli of a table, with k and the field's arithmetic.
abbrev pub kept : Arithmetic → ℕ → ℕ → List (List ℕ) → Scheme
kept f k n table = record { arithmetic = f; carriers = k; moduli = take n table }

-- Each start is the sum of the degrees before it; the last is where the word ends.
abbrev pub StartsAgree : Scheme → List ℕ → Type 0
StartsAgree s starts = (i : ℕ) → i ≤ positions s → slice_index starts i ≡ start s i
