-- Codes that are stored in cells, one after the other.
use Rattle.std.proofs.Common.{◌≡◌, ℕ, ◌+◌, ◌<◌, ◌≤◌, true, List, length, get_or, take, set, ap, ◌∙◌, arith}
use Rattle.std.proofs.lemmas.List.{length-take-le}
use Rattle.memory.specs.Meaning.{Sets, replaced}
use Rattle.memory.proofs.Facts.{sets_accepted, sets_length}
use Rattle.rack.specs.States.{overwritten}
use Rattle.rack.proofs.Overwriting.{overwritten_length, overwritten_more}

-- The first i codes are stored; the top and the number of cells are as they were.
pub record StoredTo (cells : List ℕ) (top at : ℕ) (codes : List ℕ) (i : ℕ) (cells' : List ℕ) (top' : ℕ) : Type 0 where
  pub kept : top' ≡ top
  pub long : length cells' ≡ length cells
  pub written :
      at + length codes ≤ length cells → ((k : ℕ) → k < length codes → get_or codes k 0 ≤ top) → cells' ≡ overwritten cells at (take i codes)

-- One more code.
pub stored_more : (cells : List ℕ) (top at : ℕ) (codes : List ℕ) (i : ℕ) (now : List ℕ) (top' : ℕ) (after : List ℕ) (top'' : ℕ) (v : ℕ)
    → StoredTo cells top at codes i now top' → i < length codes → v ≡ get_or codes i 0
    → {answer : _} → Sets now top' (at + i) v answer after top'' → StoredTo cells top at codes (i + 1) after top''
stored_more cells top at codes i now top' after top'' v so_far below v_is {answer} sets =
    record {
      kept = sets.kept ∙ so_far.kept;
      long = sets_length now top' (at + i) v answer after top'' sets ∙ so_far.long;
      written = λ room small.
          let before = so_far.written room small in
          let part : length (take i codes) ≡ i = length-take-le i codes (omega arith) in
          let long : length now ≡ length cells = ap length before ∙ overwritten_length cells at (take i codes) (omega arith) in
          let fine : v ≤ top' = omega (arith, small i below, so_far.kept, v_is) in
          let yes : answer ≡ true = sets_accepted now top' (at + i) v answer after top'' sets (omega arith) fine in
          sets.after
          ∙ ap (λ b. replaced b now (at + i) v) yes
          ∙ ap (λ (x : List ℕ). set x (at + i) v) before
          ∙ ap (set (overwritten cells at (take i codes)) (at + i)) v_is
          ∙ overwritten_more cells at codes i room below;
    }
