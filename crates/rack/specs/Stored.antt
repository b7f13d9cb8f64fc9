-- Inner: no public contract cites this.
-- What storing codes in the cells of a memory leaves, and what loading cells gives.
use Rattle.std.specs.Prelude.{◌≡◌, ℕ, ◌+◌, ◌<◌, ◌≤◌, List, length, slice_index}
use Rattle.plan.specs.Limits.{most_total}
use Rattle.rack.specs.States.{overwritten}

-- Neither the top nor the number of cells changes. Where there is a cell for each code, and each code is
-- within the top, the cells from `at` on hold the codes, and the others are as they were.
pub record Stored (cells : List ℕ) (top at : ℕ) (codes cells' : List ℕ) (top' : ℕ) : Type 0 where
  pub kept : top' ≡ top
  pub long : length cells' ≡ length cells
  pub written :
      at + length codes ≤ length cells → ((i : ℕ) → i < length codes → slice_index codes i ≤ top) → cells' ≡ overwritten cells at codes

-- A table of the `count` cells from `at` on; past the last cell, and past the count, it holds zeros.
pub record Loaded (cells : List ℕ) (at count : ℕ) (table : List ℕ) : Type 0 where
  pub whole : length table ≡ most_total
  pub loaded : (k : ℕ) → k < count → slice_index table k ≡ slice_index cells (at + k)
  pub rest : (k : ℕ) → count ≤ k → slice_index table k ≡ 0
