-- The layer's numbering is a permutation, and so a cell of the layer is read and replaced through its own place below.
use Rattle.std.proofs.Common.{◌≡◌, ℕ, zero, suc, ◌+◌, ◌*◌, ◌/◌, ◌%◌, ◌<◌, ◌≤◌, Bool, true, false, cond, eqb, ltb, List, map, length, get_or, set, Some, None, Option, sym, refl, ap, ◌∙◌, subst, mul_comm, zero-mul, arith, length-set, get_or-set_other, get_or-set_same, MatchOption}
use Rattle.std.specs.List.{range_with_len}
use Rattle.std.proofs.lemmas.Nat.{div-add-mod', div_below, div-mul-add, mod_below, mod-mul-add, mul-add-lt}
use Rattle.std.proofs.lemmas.List.FromFn.{get_or-map-range_with_len}
use Rattle.std.proofs.lemmas.Bool.{and_parts, eqb-true, ltb-false, ltb-true}
use Rattle.memory.specs.Meaning.{Gets, Sets, replaced}
use Rattle.memory.proofs.Facts.{accepts_inside, cell_at_inside, gets_past, sets_past}
use Rattle.memory.proofs.Rows.{row_set}
use Rattle.spread.specs.Place.{Missing, Permutes, Stands, divides, place, placed, spread_row, spread_row_length}

-- below a product, neither factor is 0
right_above : (d w j : ℕ) → j < w * d → 0 < w
right_above d zero j h = absurd (omega (arith, zero-mul d))
right_above d (suc w) j h = omega arith

-- d rows of w places each: place j of the columns, one after the other, and its place in the rows
module _ (d w : ℕ) (above : 0 < d) where
  across : ℕ → ℕ
  across j = j % d * w + j / d

  module _ (j : ℕ) (h : j < w * d) where
    column : j / d < w
    column = div_below j d w above h

    across_row : across j / w ≡ j % d
    unfolding across
    across_row = div-mul-add (j % d) w (j / d) column

    across_column : across j % w ≡ j / d
    unfolding across
    across_column = mod-mul-add (j % d) w (j / d) column

    across_inside : across j < w * d
    unfolding across
    across_inside = mul-add-lt (j % d) w (j / d) d (mod_below j d above) column

  across_same : (j k : ℕ) → j < w * d → k < w * d → across j ≡ across k → j ≡ k
  across_same j k hj hk e =
      let columns : j / d ≡ k / d = sym (across_column j hj) ∙ ap (λ x. x % w) e ∙ across_column k hk in
      let rows : j % d ≡ k % d = sym (across_row j hj) ∙ ap (λ x. x / w) e ∙ across_row k hk in
      sym (div-add-mod' j d) ∙ ap (λ x. x * d + j % d) columns ∙ ap (λ x. k / d * d + x) rows ∙ div-add-mod' k d

  across_met : (k : ℕ) → k < w * d → (j : ℕ) × (j < w * d) × (across j ≡ k)
  unfolding across
  across_met k h =
      let wide : 0 < w = right_above d w k h in
      let row : k / w < d = div_below k w d wide (omega (arith, mul_comm w d)) in
      let j : ℕ = k % w * d + k / w in
      let r : j % d ≡ k / w = mod-mul-add (k % w) d (k / w) row in
      let c : j / d ≡ k % w = div-mul-add (k % w) d (k / w) row in
      (j, omega (arith, mul_comm w d, mul-add-lt (k % w) d (k / w) w (mod_below k w wide) row), ap (λ x. x * w + j / d) r ∙ ap (λ x. k / w * w + x) c ∙ div-add-mod' k w)

  across_permutes : Permutes (w * d) (λ j. j % d * w + j / d)
  unfolding across
  across_permutes = record { inside = across_inside; one_to_one = across_same; onto = across_met }

same_permutes : (n : ℕ) → Permutes n (λ j. j)
same_permutes n = record { inside = λ j h. h; one_to_one = λ j k hj hk e. e; onto = λ k h. (k, h, refl) }

by_depth : (depth len : ℕ) (b : Bool) → divides depth len ≡ b → Permutes len (λ j. cond b (j % depth * (len / depth) + j / depth) j)
by_depth depth len true e =
    let parts = and_parts (ltb 0 depth) (eqb (len % depth) 0) e in
    let whole : len / depth * depth ≡ len = omega (arith, div-add-mod' len depth, eqb-true (len % depth) 0 parts.1) in
    subst (λ (n : ℕ). Permutes n (λ j. j % depth * (len / depth) + j / depth)) whole (across_permutes depth (len / depth) (ltb-true 0 depth parts.0))
by_depth depth len false e = same_permutes len

pub place_permutes : (depth len : ℕ) → Permutes len (place depth len)
place_permutes depth len = by_depth depth len (divides depth len) refl

-- where a cell of a layer lies
pub place_divided : (depth len j : ℕ) → divides depth len ≡ true → place depth len j ≡ j % depth * (len / depth) + j / depth
place_divided depth len j e = ap (λ b. cond b (j % depth * (len / depth) + j / depth) j) e

module _ (depth : ℕ) (below : List ℕ) (j : ℕ) where
  permutes : Permutes (length below) (place depth (length below))
  permutes = place_permutes depth (length below)

  module _ (h : j < length below) where
    inside : place depth (length below) j < length below
    inside = permutes.inside j h

    inside' : j < length (spread_row depth below)
    inside' = omega (arith, spread_row_length depth below)

    spread_at : get_or (spread_row depth below) j 0 ≡ get_or below (place depth (length below) j) 0
    unfolding spread_row
    spread_at = get_or-map-range_with_len (λ j. get_or below (place depth (length below) j) 0) 0 (length below) j j 0 h (omega arith)

    spread_set : (v : ℕ) → spread_row depth (set below (place depth (length below) j) v) ≡ set (spread_row depth below) j v
    unfolding spread_row
    spread_set v =
        let at : ℕ = place depth (length below) j in
        ap (λ n. map (λ k. get_or (set below at v) (place depth n k) 0) (range_with_len 0 n)) (length-set below at v)
        ∙ row_set (λ k. get_or below (place depth (length below) k) 0) (λ k. get_or (set below at v) (place depth (length below) k) 0) (length below) j v h
        (get_or-set_same below at v 0 inside)
        (λ k hk apart. get_or-set_other below at (place depth (length below) k) v 0 (λ e. apart (permutes.one_to_one k j hk h e)))

    spread_replaced : (b : Bool) (v : ℕ) → spread_row depth (replaced b below (place depth (length below) j) v) ≡ replaced b (spread_row depth below) j v
    spread_replaced true v = spread_set v
    spread_replaced false v = refl

    -- cell j of the layer stands at its place below
    gets_placed : (top : ℕ) (r : Option ℕ) → Gets below top (place depth (length below) j) r → Gets (spread_row depth below) top j r
    gets_placed top r s = record {
      value =
          s.value ∙ cell_at_inside below (place depth (length below) j) inside ∙ ap Some (sym spread_at) ∙ sym (cell_at_inside (spread_row depth below) j inside');
      within = s.within;
    }

    sets_placed :
        (top v : ℕ) (b : Bool) (below' : List ℕ) (top' : ℕ)
        → Sets below top (place depth (length below) j) v b below' top'
        → Sets (spread_row depth below) top j v b (spread_row depth below') top'
    sets_placed top v b below' top' s = record {
      accepted = s.accepted ∙ accepts_inside below (place depth (length below) j) top v inside ∙ sym (accepts_inside (spread_row depth below) j top v inside');
      after = ap (spread_row depth) s.after ∙ spread_replaced b v;
      kept = s.kept;
    }

    pub stands : Stands depth below j (place depth (length below) j)
    stands = record { gets = gets_placed; sets = sets_placed }

    pub stands_divided : divides depth (length below) ≡ true → Stands depth below j (j % depth * (length below / depth) + j / depth)
    stands_divided e = subst (λ (at : ℕ). Stands depth below j at) (place_divided depth (length below) j e) stands

  pub missing : length below ≤ j → Missing depth below j
  missing past =
      let past' : length (spread_row depth below) ≤ j = omega (arith, spread_row_length depth below) in
      record { gets = λ top. gets_past (spread_row depth below) j top past'; sets = λ top v. sets_past (spread_row depth below) j top past' v }

  stands_by : (b : Bool) → (b ≡ true → j < length below) → (b ≡ false → length below ≤ j) → MatchOption (cond b (Some (place depth (length below) j)) None) (Missing depth below j) (Stands depth below j)
  stands_by true here past = stands (here refl)
  stands_by false here past = missing (past refl)

  pub placed_stands : MatchOption (placed depth (length below) j) (Missing depth below j) (Stands depth below j)
  placed_stands = stands_by (ltb j (length below)) (ltb-true j (length below)) (ltb-false j (length below))
