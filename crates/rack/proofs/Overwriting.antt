-- Cells of which some are overwritten: how many there are, what the written part holds, and that every part beside it is as it was.
use Rattle.std.proofs.Common.{◌≡◌, ℕ, ◌+◌, ◌<◌, ◌≤◌, ◌⊎◌, List, ◌++◌, length, get_or, take, drop, set, sym, refl, ap, ◌∙◌, inl, inr, arith}
use lib.Seq.{paste}
use Rattle.std.proofs.lemmas.List.Edits.{paste_more}
use Rattle.std.proofs.lemmas.List.{append_assoc, drop_at, drop-take, length-append, length-drop, length-take-le, take-append-le, take_at, take-take}
use Rattle.std.proofs.lemmas.Slice.{drop-append-drop}
use Rattle.rack.specs.States.{overwritten}

module _ (cells : List ℕ) (at : ℕ) (codes : List ℕ) (room : at + length codes ≤ length cells) where
  front_length : length (take at cells) ≡ at
  front_length = length-take-le at cells (omega arith)

  -- There are as many cells as before.
  pub overwritten_length : length (overwritten cells at codes) ≡ length cells
  overwritten_length = let front = front_length in simp (length-append, length-drop, front) (omega arith)

  -- The written part holds the codes.
  pub overwritten_here : take (length codes) (drop at (overwritten cells at codes)) ≡ codes
  overwritten_here =
      let rest = drop (at + length codes) cells in
      ap (take (length codes)) (drop_at (take at cells) (codes ++ rest) at front_length) ∙ take_at codes rest (length codes) refl

  overwritten_before : (b d : ℕ) → b + d ≤ at → take d (drop b (overwritten cells at codes)) ≡ take d (drop b cells)
  overwritten_before b d l =
      sym (drop-take b d (overwritten cells at codes))
      ∙ ap (drop b) (take-append-le (b + d) (take at cells) (codes ++ drop (at + length codes) cells) (omega (arith, front_length)) ∙ take-take (b + d) at cells l)
      ∙ drop-take b d cells

  overwritten_after : (b : ℕ) → at + length codes ≤ b → drop b (overwritten cells at codes) ≡ drop b cells
  overwritten_after b l =
      ap (drop b) (sym (append_assoc (take at cells) codes (drop (at + length codes) cells)))
      ∙ drop-append-drop (at + length codes) cells (take at cells ++ codes) b l (omega (arith, length-append (take at cells) codes, front_length))

  -- The d cells from b on are as they were, where they end before the written part or begin after it.
  pub overwritten_beside : (b d : ℕ) → (b + d ≤ at) ⊎ (at + length codes ≤ b)
      → take d (drop b (overwritten cells at codes)) ≡ take d (drop b cells)
  overwritten_beside b d (inl before) = overwritten_before b d before
  overwritten_beside b d (inr after) = ap (take d) (overwritten_after b after)

-- The first i codes written, as the shelf writes them.
as_paste : (cells : List ℕ) (at : ℕ) (codes : List ℕ) (i : ℕ) → i ≤ length codes
    → overwritten cells at (take i codes) ≡ paste cells at codes i
as_paste cells at codes i l =
    ap (λ (n : ℕ). take at cells ++ (take i codes ++ drop (at + n) cells)) (length-take-le i codes l)
    ∙ sym (append_assoc (take at cells) (take i codes) (drop (at + i) cells))

-- The first i codes are written: the next one makes it i + 1.
pub overwritten_more : (cells : List ℕ) (at : ℕ) (codes : List ℕ) (i : ℕ) → at + length codes ≤ length cells → i < length codes
    → set (overwritten cells at (take i codes)) (at + i) (get_or codes i 0) ≡ overwritten cells at (take (i + 1) codes)
overwritten_more cells at codes i room l =
    ap (λ (x : List ℕ). set x (at + i) (get_or codes i 0)) (as_paste cells at codes i (omega arith))
    ∙ paste_more cells at codes i 0 (omega arith) l
    ∙ sym (as_paste cells at codes (i + 1) (omega arith))
