-- One half of a byte in a row of bytes is replaced through its byte.
use Rattle.std.proofs.Common.{◌≡◌, ℕ, ◌*◌, ◌/◌, ◌%◌, ◌<◌, ◌≤◌, List, map, length, get_or, set, sym, ap, ◌∙◌, ⊎_elim, arith, length-set, get_or-set_other, get_or-set_same}
use Rattle.std.specs.List.{range_with_len}
use Rattle.std.proofs.lemmas.Nat.{mod_below, div_below, div-add-mod'}
use Rattle.std.proofs.lemmas.List.FromFn.{length-map-range_with_len, get_or-map-range_with_len}
use Rattle.std.proofs.lemmas.Bool.{cases_eq}
use Rattle.laboratory.specs.Halves.{half, half_at, half_top, halves, with_half}
use Rattle.memory.proofs.Rows.{row_set}

-- the half that is replaced, and the other
half_here : (byte k v : ℕ) → v ≤ half_top → half k (with_half byte k v) ≡ v
half_here byte k v small = grind arith

half_other : (byte k i v : ℕ) → v ≤ half_top → k < 2 → i < 2 → (i ≡ k → ⊥) → half i (with_half byte k v) ≡ half i byte
half_other byte k i v small low low' apart = grind arith

-- the row of halves
module _ (bytes : List ℕ) where
  pub halves_length : length (halves bytes) ≡ length bytes * 2
  unfolding halves
  halves_length = length-map-range_with_len (half_at bytes) 0 (length bytes * 2)

  module _ (j : ℕ) (inside : j < length (halves bytes)) where
    in_bytes : j < length bytes * 2
    in_bytes = omega (arith, halves_length)

    pub in_byte : j / 2 < length bytes
    in_byte = div_below j 2 (length bytes) (omega arith) in_bytes

    pub halves_at : get_or (halves bytes) j 0 ≡ half_at bytes j
    unfolding halves
    halves_at = get_or-map-range_with_len (half_at bytes) 0 (length bytes * 2) j j 0 in_bytes (omega arith)

    module _ (byte v : ℕ) (small : v ≤ half_top) (re : byte ≡ with_half (get_or bytes (j / 2) 0) (j % 2) v) where
      same_byte : (k : ℕ) → k / 2 ≡ j / 2 → (k ≡ j → ⊥) → half (k % 2) byte ≡ half_at bytes k
      same_byte k e apart =
          ap (half (k % 2)) re
          ∙ half_other (get_or bytes (j / 2) 0) (j % 2) (k % 2) v small (mod_below j 2 (omega arith)) (mod_below k 2 (omega arith))
          (λ r. apart (omega (arith, e, r, div-add-mod' k 2, div-add-mod' j 2)))
          ∙ ap (λ n. half (k % 2) (get_or bytes n 0)) (sym e)

      other : (k : ℕ) → (k ≡ j → ⊥) → half_at (set bytes (j / 2) byte) k ≡ half_at bytes k
      other k apart =
          ⊎_elim
          (λ (e : k / 2 ≡ j / 2).
          ap (λ n. half (k % 2) (get_or (set bytes (j / 2) byte) n 0)) e ∙ ap (half (k % 2)) (get_or-set_same bytes (j / 2) byte 0 in_byte)
          ∙ same_byte k e apart)
          (λ (ne : k / 2 ≡ j / 2 → ⊥). ap (half (k % 2)) (get_or-set_other bytes (j / 2) (k / 2) byte 0 ne))
          (cases_eq (k / 2) (j / 2))

      -- a byte with one half replaced is the row with one cell replaced
      pub halves_set : halves (set bytes (j / 2) byte) ≡ set (halves bytes) j v
      unfolding halves
      halves_set =
          ap (λ m. map (half_at (set bytes (j / 2) byte)) (range_with_len 0 (m * 2))) (length-set bytes (j / 2) byte)
          ∙ row_set (half_at bytes) (half_at (set bytes (j / 2) byte)) (length bytes * 2) j v in_bytes
          (ap (half (j % 2)) (get_or-set_same bytes (j / 2) byte 0 in_byte) ∙ ap (half (j % 2)) re
          ∙ half_here (get_or bytes (j / 2) 0) (j % 2) v small) (λ k h. other k)
