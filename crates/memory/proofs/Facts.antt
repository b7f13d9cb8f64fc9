-- What follows from a memory's meaning alone: which cells are answered, what is accepted, and what a set leaves as it was.
use Rattle.std.proofs.Common.{◌≡◌, ℕ, ◌<◌, ◌≤◌, Bool, true, false, ◌&&◌, ltb, leb, ◌≢◌, List, length, get_or, Some, None, Option, sym, refl, ap, ◌∙◌, subst, length-set, get_or-set_other, get_or-set_same}
use Rattle.std.proofs.lemmas.Bool.{and_from, and_left, and_parts, cond-false, cond-true, le-leb, le-ltb, lt-ltb, ltb-true}
use Rattle.memory.specs.Meaning.{Gets, Sets, Within, accepts, cell_at, replaced}

replaced_length : (b : Bool) (row : List ℕ) (j v : ℕ) → length (replaced b row j v) ≡ length row
replaced_length true row j v = length-set row j v
replaced_length false row j v = refl

replaced_elsewhere : (b : Bool) (row : List ℕ) (j k v : ℕ) → k ≢ j → get_or (replaced b row j v) k 0 ≡ get_or row k 0
replaced_elsewhere true row j k v apart = get_or-set_other row j k v 0 apart
replaced_elsewhere false row j k v apart = refl

module _ (cells : List ℕ) (j : ℕ) where
  pub cell_at_inside : j < length cells → cell_at cells j ≡ Some (get_or cells j 0)
  cell_at_inside h = cond-true (ltb j (length cells)) (Some (get_or cells j 0)) None (lt-ltb j (length cells) h)

  pub cell_at_past : length cells ≤ j → cell_at cells j ≡ None
  cell_at_past h = cond-false (ltb j (length cells)) (Some (get_or cells j 0)) None (le-ltb j (length cells) h)

  module _ (top v : ℕ) where
    pub accepts_inside : j < length cells → accepts cells top j v ≡ leb v top
    accepts_inside h = ap (λ b. b && leb v top) (lt-ltb j (length cells) h)

    pub accepts_past : length cells ≤ j → accepts cells top j v ≡ false
    accepts_past h = and_left (ltb j (length cells)) (leb v top) (le-ltb j (length cells) h)

  -- there is nothing past the end to get or to set
  module _ (top : ℕ) (past : length cells ≤ j) where
    pub gets_past : Gets cells top j None
    gets_past = record { value = sym (cell_at_past past); within = tt }

    pub sets_past : (v : ℕ) → Sets cells top j v false cells top
    sets_past v = record { accepted = sym (accepts_past top v past); after = refl; kept = refl }

-- a cell that is there is answered, and is within the top
module _ (cells : List ℕ) (top j : ℕ) (answer : Option ℕ) (inside : j < length cells) (g : Gets cells top j answer) where
  pub gets_inside : answer ≡ Some (get_or cells j 0)
  gets_inside = g.value ∙ cell_at_inside cells j inside

  pub gets_within : get_or cells j 0 ≤ top
  gets_within = subst (Within top) gets_inside g.within

-- a set that should be accepted is
module _ (cells : List ℕ) (top j v : ℕ) (answer : Bool) (cells' : List ℕ) (top' : ℕ) (s : Sets cells top j v answer cells' top') where
  pub sets_accepted : j < length cells → v ≤ top → answer ≡ true
  sets_accepted inside small = s.accepted ∙ and_from (ltb j (length cells)) (leb v top) (lt-ltb j (length cells) inside) (le-leb v top small)

  -- then the cell holds v
  pub sets_here : answer ≡ true → get_or cells' j 0 ≡ v
  sets_here e =
      ap (λ row. get_or row j 0) (s.after ∙ ap (λ b. replaced b cells j v) e)
      ∙ get_or-set_same cells j v 0 (ltb-true j (length cells) (and_parts (ltb j (length cells)) (leb v top) (sym s.accepted ∙ e)).0)

  -- every other cell is as it was, accepted or not, and so is the number of cells
  pub sets_elsewhere : (k : ℕ) → k ≢ j → get_or cells' k 0 ≡ get_or cells k 0
  sets_elsewhere k apart = ap (λ row. get_or row k 0) s.after ∙ replaced_elsewhere answer cells j k v apart

  pub sets_length : length cells' ≡ length cells
  sets_length = ap length s.after ∙ replaced_length answer cells j v
