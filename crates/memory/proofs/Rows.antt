-- A row whose cells are a function of their places: one more function value replaces one cell.
use Rattle.std.proofs.Common.{◌≡◌, ℕ, ◌<◌, List, map, length, get_or, set, sym, ap, ◌∙◌, ⊎_elim, arith, length-set, get_or-set_other, get_or-set_same}
use Rattle.std.specs.List.{range_with_len}
use Rattle.std.proofs.lemmas.List.FromFn.{length-map-range_with_len, get_or-map-range_with_len, fill_by_all}
use Rattle.std.proofs.lemmas.Bool.{cases_eq}

module _ (f g : ℕ → ℕ) (n j v : ℕ) (inside : j < n) (there : g j ≡ v) (elsewhere : (k : ℕ) → k < n → (k ≡ j → ⊥) → g k ≡ f k) where
  row : List ℕ
  row = map f (range_with_len 0 n)

  pub row_set : map g (range_with_len 0 n) ≡ set (map f (range_with_len 0 n)) j v
  unfolding row
  row_set =
      let many : length row ≡ n = length-map-range_with_len f 0 n in
      let many' : length (set row j v) ≡ n = length-set row j v ∙ many in
      let within : j < length row = omega arith in
      sym
      (fill_by_all g (set row j v) n 0 many'
      (λ k h.
      ⊎_elim
      (λ (e : k ≡ j). ap (λ x. get_or (set row j v) x 0) e ∙ get_or-set_same row j v 0 within ∙ sym there ∙ ap g (sym e))
      (λ (ne : k ≡ j → ⊥). get_or-set_other row j k v 0 ne ∙ get_or-map-range_with_len f 0 n k k 0 h (omega arith) ∙ sym (elsewhere k h ne))
      (cases_eq k j)))
