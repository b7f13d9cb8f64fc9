-- Parts of a list, cut and joined.
use Rattle.std.proofs.Common.{◌≡◌, ℕ, suc, ◌+◌, ◌-◌, ◌<◌, ◌≤◌, List, ◌∷◌, ◌++◌, length, get_or, take, drop, ap, ◌∙◌, arith, drop-drop, take-add}
use Rattle.std.proofs.lemmas.List.{drop_more}
use Rattle.std.specs.List.{between}

pub part_first : (s : List ℕ) (i j : ℕ) → i < j → j ≤ length s → between i j s ≡ get_or s i 0 ∷ between (i + 1) j s
part_first s i j h w =
    let lt : i < length s = omega arith in
    let e : j - i ≡ suc (j - (i + 1)) = omega arith in
    ap (take (j - i)) (drop_more s i 0 lt) ∙ ap (λ m. take m (get_or s i 0 ∷ drop (i + 1) s)) e

pub part_join : (s : List ℕ) (i j k : ℕ) → i ≤ j → j ≤ k → between i k s ≡ between i j s ++ between j k s
part_join s i j k h w =
    let e : k - i ≡ (j - i) + (k - j) = omega arith in
    let d : i + (j - i) ≡ j = omega arith in
    ap (λ m. take m (drop i s)) e ∙ (take-add (j - i) (k - j) (drop i s)
    ∙ ap (λ l. between i j s ++ take (k - j) l) (drop-drop (j - i) i s ∙ ap (λ m. drop m s) d))
