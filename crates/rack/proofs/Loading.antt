-- Cells that are loaded into a table, and what the table says of a slot.
use Rattle.std.proofs.Common.{◌≡◌, ℕ, ◌+◌, ◌-◌, ◌*◌, ◌<◌, ◌≤◌, false, cond, List, length, get_or, replicate, take, drop, Some, None, sym, ap, ◌∙◌, arith}
use mathlib.Core.Path.{fun_ext}
use Rattle.std.proofs.lemmas.List.{drop-drop, drop-take, ext_get_or, get_or-drop, get_or-take, length-drop, length-replicate, length-take-le, take-take}
use Rattle.plan.specs.Limits.{most_total}
use Rattle.plan.specs.Schemes.{degree, start, word_length}
use Rattle.reader.specs.Arrivals.{received}
use Rattle.rack.specs.States.{State, account_of, cells_at, record_at}
use Rattle.rack.specs.Stored.{Loaded}
use Rattle.rack.proofs.Showing.{all_alike, position_room}

-- A part that lies within the front of a list is that part of the list.
part_of_front : (xs : List ℕ) (n from d : ℕ) → from + d ≤ n → take d (drop from (take n xs)) ≡ take d (drop from xs)
part_of_front xs n from d within =
    let m = n - from in
    let whole : n ≡ from + m = omega arith in
    ap (λ (k : ℕ). take d (drop from (take k xs))) whole
    ∙ ap (take d) (drop-take from m xs)
    ∙ take-take d m (drop from xs) (omega arith)

-- A table of zeros holds none of the cells yet.
pub loaded_none : (cells : List ℕ) (at : ℕ) → Loaded cells at 0 (replicate most_total 0)
loaded_none cells at =
    record {
      whole = length-replicate {A = ℕ} most_total 0;
      loaded = λ k below. absurd (omega (arith, below));
      rest = λ k past. all_alike most_total k 0;
    }

-- A loaded table begins with the cells, where there are so many.
pub loaded_front : (cells : List ℕ) (at count : ℕ) (table : List ℕ) → Loaded cells at count table → at + count ≤ length cells → count ≤ most_total
    → take count table ≡ take count (drop at cells)
loaded_front cells at count table is room few =
    let here : length (take count table) ≡ count = length-take-le count table (omega (arith, is.whole)) in
    let there : length (take count (drop at cells)) ≡ count = length-take-le count (drop at cells) (omega (arith, length-drop at cells)) in
    ext_get_or 0 (take count table) (take count (drop at cells)) (here ∙ sym there) (λ k below.
    let inside : k < count = omega (arith, here) in
    get_or-take count table k 0 inside
    ∙ is.loaded k inside
    ∙ sym (get_or-take count (drop at cells) k 0 inside ∙ get_or-drop at cells k 0))

-- So a table that holds the cells of a slot says of each position what the cells say.
pub slot_loaded : (r : State) (slot count : ℕ) (table : List ℕ) → count ≡ word_length r.scheme
    → take count table ≡ take count (drop (slot * count) r.cells)
    → received r.scheme table (record_at r slot).present ≡ account_of r slot
slot_loaded r slot count table count_is same =
    fun_ext (λ i. ap (λ (x : List ℕ). cond (get_or (record_at r slot).present i false) (Some x) None) (position i))
  where
    position : (i : ℕ) → take (degree r.scheme i) (drop (start r.scheme i) table) ≡ cells_at r.scheme r.cells slot i
    position i =
        let room : start r.scheme i + degree r.scheme i ≤ count = omega (arith, position_room r.scheme i, count_is) in
        sym (part_of_front table count (start r.scheme i) (degree r.scheme i) room)
        ∙ ap (λ (x : List ℕ). take (degree r.scheme i) (drop (start r.scheme i) x)) same
        ∙ part_of_front (drop (slot * count) r.cells) count (start r.scheme i) (degree r.scheme i) room
        ∙ ap (take (degree r.scheme i)) (drop-drop (start r.scheme i) (slot * count) r.cells)
        ∙ ap (λ (n : ℕ). take (degree r.scheme i) (drop (slot * n + start r.scheme i) r.cells)) count_is
