-- Lists of numbers that are codes.
use Rattle.std.proofs.Common.{ℕ, ◌<◌, ◌≤◌, List, length, get_or, arith}
use native.Mathlib.Decide.{dec_lt}
use lib.ListN.{get_or-eq_default}
use Rattle.algebra.specs.Field.{Arithmetic, FieldLaws}
use Rattle.algebra.specs.Polynomial.{coefficients}

-- A list whose first n numbers are codes, and which is no longer, has codes throughout: past its end stands 0.
pub codes_throughout : (f : Arithmetic) → FieldLaws f → (xs : List ℕ) (n : ℕ) → length xs ≤ n → ((k : ℕ) → k < n → get_or xs k 0 < f.order)
    → (i : ℕ) → coefficients xs i < f.order
codes_throughout f L xs n h all i =
    elim (dec_lt i n) [
      | yes less ↦ all i less
      | no more ↦ let past = get_or-eq_default xs 0 {n = i} (omega arith) in omega (arith, L.order_least)
    ]
