-- What a memory is: a list of cells and a top, and what getting and setting a cell do.
use Rattle.std.specs.Prelude.{◌≡◌, ℕ, ◌≤◌, Bool, cond, ◌&&◌, List, length, IfSome, Some, None, Option, nat_le, nat_lt, slice_index, slice_set}

-- The most cells that a memory has.
abbrev pub max_cells : ℕ
max_cells = 65535

-- The highest top that a memory has.
abbrev pub max_top : ℕ
max_top = 65535

-- The limits of every memory.
pub record Bounded (cells : List ℕ) (top : ℕ) : Type 0 where
  pub few : length cells ≤ max_cells
  pub top_low : 1 ≤ top
  pub top_high : top ≤ max_top

-- Cell j of a row, or nothing past its end.
abbrev pub cell_at : List ℕ → ℕ → Option ℕ
cell_at row j = cond (nat_lt j (length row)) (Some (slice_index row j)) None

-- Whether cell j may be set to v.
abbrev pub accepts : List ℕ → ℕ → ℕ → ℕ → Bool
accepts cells top j v = nat_lt j (length cells) && nat_le v top

-- A row in which place j was replaced by v, if that was accepted.
abbrev pub replaced : Bool → List ℕ → ℕ → ℕ → List ℕ
replaced accepted row j v = cond accepted (slice_set row j v) row

-- An answer, if there is one, is within the top.
abbrev pub Within : ℕ → Option ℕ → Type 0
Within top answer = IfSome answer (λ v. v ≤ top)

-- What getting cell j answers: the cell, which is within the top, or nothing.
pub record Gets (cells : List ℕ) (top j : ℕ) (answer : Option ℕ) : Type 0 where
  pub value : answer ≡ cell_at cells j
  pub within : Within top answer

-- What setting cell j to v answers, and the cells and the top afterwards: neither the top nor the number of
-- cells changes.
pub record Sets (cells : List ℕ) (top j v : ℕ) (answer : Bool) (cells' : List ℕ) (top' : ℕ) : Type 0 where
  pub accepted : answer ≡ accepts cells top j v
  pub after : cells' ≡ replaced answer cells j v
  pub kept : top' ≡ top
