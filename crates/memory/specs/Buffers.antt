-- How the cells of a memory lie in the buffer that it stands on.
use Rattle.std.specs.Prelude.{◌≡◌, ℕ, ◌*◌, ◌/◌, ◌%◌, ◌^◌, ◌<◌, ◌≤◌, min, List, map, length, take, ◌≢◌, slice_index}
use Rattle.std.proofs.Common.{arith, length-take}
use Rattle.std.specs.List.{range_with_len}
use Rattle.memory.specs.Meaning.{Bounded, max_cells, max_top}

-- The cells of a buffer that holds this row: the whole row, or as much of it as a memory may have.
unfoldable pub held : List ℕ → List ℕ
held row = take max_cells row

-- The top of byte cells, and that of packed cells.
abbrev pub byte_top : ℕ
byte_top = 255

abbrev pub bit_top : ℕ
bit_top = 1

-- How many bits a byte has.
abbrev pub byte_bits : ℕ
byte_bits = 8

-- Bit k of a byte, bit 0 being the lowest.
abbrev pub bit : ℕ → ℕ → ℕ
bit k byte = byte / 2 ^ k % 2

-- A byte whose bit k alone is replaced by v.
pub record Rebit (byte k v byte' : ℕ) : Type 0 where
  pub there : bit k byte' ≡ v
  pub elsewhere : (i : ℕ) → i < byte_bits → (i ≢ k) → bit i byte' ≡ bit i byte

-- Bit j of a row of bytes: bit j mod 8 of byte j div 8.
abbrev pub bit_at : List ℕ → ℕ → ℕ
bit_at bytes j = bit (j % byte_bits) (slice_index bytes (j / byte_bits))

-- The row of all those bits.
unfoldable pub bits : List ℕ → List ℕ
bits bytes = map (bit_at bytes) (range_with_len 0 (length bytes * byte_bits))

-- What a buffer holds is few enough, under any top.
pub held_bounded : (row : List ℕ) (top : ℕ) → 1 ≤ top → top ≤ max_top → Bounded (held row) top
unfolding held
held_bounded row top low high = record { few = omega (arith, length-take max_cells row); top_low = low; top_high = high }

-- How many cells a row of n entries gives, for code that has the row itself.
abbrev pub held_len : ℕ → ℕ
held_len n = min max_cells n
