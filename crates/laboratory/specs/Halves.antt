-- How cells of four bits lie in bytes, two to each.
use Rattle.std.specs.Prelude.{ℕ, ◌+◌, ◌-◌, ◌*◌, ◌/◌, ◌%◌, cond, List, length, map, ◌==◌, slice_index}
use Rattle.std.specs.List.{range_with_len}

-- The top of a cell of four bits.
abbrev pub half_top : ℕ
half_top = 15

-- Half k of a byte: half 0 is the lower one, and any other the upper.
abbrev pub half : ℕ → ℕ → ℕ
half k byte = cond (k == 0) (byte % 16) (byte / 16)

-- The byte with half k replaced by v.
abbrev pub with_half : ℕ → ℕ → ℕ → ℕ
with_half byte k v = cond (k == 0) (byte - byte % 16 + v) (v * 16 + byte % 16)

-- Cell j of a row of bytes: half j mod 2 of byte j div 2.
abbrev pub half_at : List ℕ → ℕ → ℕ
half_at bytes j = half (j % 2) (slice_index bytes (j / 2))

-- The row of all those cells.
unfoldable pub halves : List ℕ → List ℕ
halves bytes = map (half_at bytes) (range_with_len 0 (length bytes * 2))
