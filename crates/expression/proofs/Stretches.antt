-- Stretches of a sheet, cut into a byte and what comes after it.
use Rattle.std.proofs.Common.{◌≡◌, ℕ, suc, ◌+◌, ◌-◌, ◌<◌, ◌≤◌, List, [], ◌∷◌, ◌++◌, length, get_or, take, drop, ap, ◌∙◌, arith, drop-drop, take-add}
use Rattle.std.proofs.lemmas.List.Edits.{between_more, between_none}
use Rattle.std.proofs.lemmas.List.{drop_more}
use Rattle.std.specs.List.{between}

-- A stretch begins with the byte at its place.
pub first_and_rest : (s : List ℕ) (i j : ℕ) → i < j → j ≤ length s → between i j s ≡ get_or s i 0 ∷ between (i + 1) j s
first_and_rest s i j h w =
    let inside : i < length s = omega arith in
    let count : j - i ≡ suc (j - (i + 1)) = omega arith in
    ap (take (j - i)) (drop_more s i 0 inside) ∙ ap (λ m. take m (get_or s i 0 ∷ drop (i + 1) s)) count

-- The same, where the byte is known.
pub first_is : (s : List ℕ) (i j b : ℕ) → i < j → j ≤ length s → get_or s i 0 ≡ b → between i j s ≡ b ∷ between (i + 1) j s
first_is s i j b h w e = first_and_rest s i j h w ∙ ap (λ c. c ∷ between (i + 1) j s) e

pub single : (s : List ℕ) (i : ℕ) → i < length s → between i (i + 1) s ≡ get_or s i 0 ∷ []
single s i h = between_more s i i 0 (omega arith) h ∙ ap (λ x. x ++ get_or s i 0 ∷ []) (between_none s i)

-- A stretch is cut at any place of it.
pub cut : (s : List ℕ) (i j k : ℕ) → i ≤ j → j ≤ k → between i k s ≡ between i j s ++ between j k s
cut s i j k h w =
    let count : k - i ≡ (j - i) + (k - j) = omega arith in
    let place : i + (j - i) ≡ j = omega arith in
    ap (λ m. take m (drop i s)) count
    ∙ (take-add (j - i) (k - j) (drop i s) ∙ ap (λ l. between i j s ++ take (k - j) l) (drop-drop (j - i) i s ∙ ap (λ m. drop m s) place))

-- A stretch with the byte c at j.
pub cut_at : (s : List ℕ) (i j k c : ℕ) → i ≤ j → j < k → k ≤ length s → get_or s j 0 ≡ c → between i k s ≡ between i j s ++ c ∷ between (j + 1) k s
cut_at s i j k c h w l e = cut s i j k h (omega arith) ∙ ap (λ x. between i j s ++ x) (first_is s j k c w l e)
