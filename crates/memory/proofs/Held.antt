-- From a buffer's row to the cells that it holds: what is got and set in the row is got and set in the cells.
use Rattle.std.proofs.Common.{◌≡◌, ℕ, ◌<◌, ◌≤◌, Bool, true, false, cond, ◌&&◌, ltb, leb, List, length, get_or, set, Some, None, Option, sym, refl, ap, ◌∙◌, arith, length-take, get_or-take}
use lib.Seq.{take-set-lt}
use Rattle.memory.specs.Meaning.{Gets, Sets, Within, accepts, cell_at, max_cells, replaced}
use Rattle.memory.specs.Buffers.{held, held_len}
use Rattle.memory.proofs.Facts.{accepts_inside, cell_at_inside, cell_at_past}
use Rattle.std.proofs.lemmas.Bool.{and_parts, le-leb, ltb-false, ltb-true}

module _ (row : List ℕ) where
  pub held_length : length (held row) ≡ held_len (length row)
  unfolding held
  held_length = length-take max_cells row

  module _ (j : ℕ) (h : j < length (held row)) where
    pub held_inside : j < length row
    held_inside = omega (arith, held_length)

    few : j < max_cells
    few = omega (arith, held_length)

    held_at : get_or (held row) j 0 ≡ get_or row j 0
    unfolding held
    held_at = get_or-take max_cells row j 0 few

    held_set : (v : ℕ) → held (set row j v) ≡ set (held row) j v
    unfolding held
    held_set v = take-set-lt max_cells row j v few

    pub held_gets_inside : (top r : ℕ) → r ≡ get_or row j 0 → r ≤ top → Gets (held row) top j (Some r)
    held_gets_inside top r e w = record { value = ap Some (e ∙ sym held_at) ∙ sym (cell_at_inside (held row) j h); within = w }

    pub held_sets_inside : (top v : ℕ) (row' : List ℕ) → v ≤ top → row' ≡ set row j v → Sets (held row) top j v true (held row') top
    held_sets_inside top v row' small e = record {
      accepted = sym (accepts_inside (held row) j top v h ∙ le-leb v top small);
      after = ap held e ∙ held_set v;
      kept = refl;
    }

-- The same of every place and of every answer, of a refused one too.
module _ (row : List ℕ) (j : ℕ) where
  here : ltb j (held_len (length row)) ≡ true → j < length (held row)
  here t = omega (arith, held_length row, ltb-true j (held_len (length row)) t)

  past : ltb j (held_len (length row)) ≡ false → length (held row) ≤ j
  past t = omega (arith, held_length row, ltb-false j (held_len (length row)) t)

  got_by : (b : Bool) → ltb j (held_len (length row)) ≡ b → cond b (Some (get_or row j 0)) None ≡ cell_at (held row) j
  got_by true t = ap Some (sym (held_at row j (here t))) ∙ sym (cell_at_inside (held row) j (here t))
  got_by false t = sym (cell_at_past (held row) j (past t))

  pub held_gets : (top : ℕ) (r : Option ℕ) → r ≡ cond (ltb j (held_len (length row))) (Some (get_or row j 0)) None → Within top r
      → Gets (held row) top j r
  held_gets top r e w = record { value = e ∙ got_by (ltb j (held_len (length row))) refl; within = w }

  taken : (top v : ℕ) → accepts (held row) top j v ≡ (ltb j (held_len (length row)) && leb v top)
  taken top v = ap (λ (n : ℕ). ltb j n && leb v top) (held_length row)

  -- A set in the row is a set in the cells, accepted or not.
  set_by : (b : Bool) (v : ℕ) → (b ≡ true → j < length (held row)) → held (replaced b row j v) ≡ replaced b (held row) j v
  set_by true v inside = held_set row j (inside refl) v
  set_by false v inside = refl

  pub held_sets : (top v : ℕ) (b : Bool) (row' : List ℕ) → b ≡ (ltb j (held_len (length row)) && leb v top) → row' ≡ replaced b row j v
      → Sets (held row) top j v b (held row') top
  held_sets top v b row' e after = record {
    accepted = e ∙ sym (taken top v);
    after = ap held after ∙ set_by b v (λ t. here (and_parts (ltb j (held_len (length row))) (leb v top) (sym e ∙ t)).0);
    kept = refl;
  }
