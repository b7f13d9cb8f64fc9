-- Counts as they are read: their digits as one part, and then the end of the line.
use Rattle.std.proofs.Common.{◌≡◌, ℕ, ◌+◌, ◌-◌, ◌*◌, ◌<◌, ◌≤◌, ◌⊎◌, List, [], ◌∷◌, length, get_or, sym, ap, ◌∙◌, subst, inl, inr, arith}
use Rattle.std.specs.List.{AllByRecursion, between}
use Rattle.expression.specs.Bytes.{Digit, first_digit, line_end}
use Rattle.expression.specs.Grammar.{numeral}
use Rattle.expression.specs.Readings.{DigitsTo}
use Rattle.expression.specs.Texts.{Got, Lost}
use Rattle.sheet.specs.Grammar.{IsCount}
use Rattle.sheet.specs.Parts.{AnyCount}
use Rattle.sheet.specs.declared.limits.Counts.{Counts}
use Rattle.sheet.proofs.Between.{part_first}
use Rattle.sheet.proofs.Decimals.{first_lost, one_got, second_lost, third_lost, two_got}

-- The digits that were found at i: none, one, or two.
abbrev pub Found : List ℕ → ℕ → List ℕ → Type 0
Found s i [] = i < length s → Digit (get_or s i 0) → ⊥
Found s i (b ∷ []) = (i < length s) × (get_or s i 0 ≡ b) × Digit b × (i + 1 < length s → Digit (get_or s (i + 1) 0) → ⊥)
Found s i (b ∷ c ∷ []) = (i + 1 < length s) × (get_or s i 0 ≡ b) × Digit b × (get_or s (i + 1) 0 ≡ c) × Digit c
Found s i (b ∷ c ∷ d ∷ x) = ⊥

found_at : {s : List ℕ} {i j : ℕ} (x : List ℕ) → DigitsTo 2 s i j → j ≡ i + length x → x ≡ between i j s → AllByRecursion Digit x → Found s i x
found_at {s} {i} {j} [] d ends is all =
    let here : j ≡ i = omega arith in
    λ h. subst (λ k. Digit (get_or s k 0) → ⊥) here (d.stops (omega arith) (omega arith))
found_at {s} {i} {j} (b ∷ []) d ends is all =
    let end : j ≡ i + 1 = omega arith in
    let h : i < length s = omega (arith, d.within) in
    let text : b ∷ [] ≡ get_or s i 0 ∷ between (i + 1) j s = is ∙ part_first s i j (omega arith) d.within in
    (h, sym (ap (λ y. get_or y 0 0) text), all.0, (λ k. subst (λ m. Digit (get_or s m 0) → ⊥) end (d.stops (omega arith) (omega arith))))
found_at {s} {i} {j} (b ∷ c ∷ []) d ends is all =
    let h : i + 1 < length s = omega (arith, d.within) in
    let text : b ∷ c ∷ [] ≡ get_or s i 0 ∷ get_or s (i + 1) 0 ∷ between (i + 1 + 1) j s =
    is ∙ (part_first s i j (omega arith) d.within ∙ ap (λ y. get_or s i 0 ∷ y) (part_first s (i + 1) j (omega arith) d.within)) in
    (h, sym (ap (λ y. get_or y 0 0) text), all.0, sym (ap (λ y. get_or y 1 0) text), all.1.0)
found_at {s} {i} {j} (b ∷ c ∷ e ∷ x) d ends is all = omega (arith, d.few)

-- So a part of the sheet that ends where the digits do has them.
pub found : {s x : List ℕ} {i j place : ℕ} → DigitsTo 2 s i j → place ≡ i → x ≡ between i j s → place + length x ≡ j → Found s i x
found {x = x} d here is ends = found_at x d (omega arith) is (subst (AllByRecursion Digit) (sym is) d.digits)

-- A digit by its value.
digit_is : {a b : ℕ} → a ≡ b → Digit b → a ≡ first_digit + (b - first_digit)
digit_is is d = omega (arith, d)

module _ (counts : Counts) {s : List ℕ} {i : ℕ} where
  pub no_count : (x : List ℕ) → i ≤ length s → Found s i x → length x < 1 → Lost (AnyCount counts.least counts.most) s i i
  no_count [] w f short = first_lost _ _ counts.low counts.some counts.few _ _ w (λ h d e is _ _. f h (omega (arith, is), omega (arith, is)))
  no_count (b ∷ x) w f short = absurd (omega arith)

  -- The first digit is no count and begins none.
  pub out_of_range : (x : List ℕ) {first : ℕ} → i ≤ length s → Found s i x → 1 ≤ length x → first ≡ get_or x 0 0 - first_digit
      → (counts.least ≤ first → first ≤ counts.most → ⊥) → Lost (AnyCount counts.least counts.most) s i i
  out_of_range [] w f long is out = absurd (omega arith)
  out_of_range (b ∷ []) w f long is out = first_lost _ _ counts.low counts.some counts.few _ _ w (λ h d e at k m. let (_, same, _, _) = f in out (omega arith) (omega arith))
  out_of_range (b ∷ c ∷ []) w f long is out = first_lost _ _ counts.low counts.some counts.few _ _ w (λ h d e at k m. let (_, same, _, _, _) = f in out (omega arith) (omega arith))
  out_of_range (b ∷ c ∷ d ∷ x) w f long is out = absurd f

  module _ {first count : ℕ} where
    -- The first digit begins a count, and with the second there is none.
    pub second_out : (x : List ℕ) → Found s i x → 1 ≤ length x → first ≡ get_or x 0 0 - first_digit → counts.least ≤ first → first ≤ counts.most → count ≡ numeral 0 x
        → ((get_or x 0 0 ≡ first_digit) × (2 ≤ length x)) ⊎ (counts.most < count) → Lost (AnyCount counts.least counts.most) s i (i + 1)
    second_out [] f long is k m all out = absurd (omega arith)
    second_out (b ∷ []) f long is k m all out = absurd (elim out [ inl p ↦ omega arith | inr p ↦ omega arith ])
    second_out (b ∷ c ∷ []) f long is k m all out =
        let (h, at, digit, at_2, digit_2) = f in
        second_lost _ _ counts.low counts.some counts.few _ _ first (omega arith) (omega (arith, digit)) (omega (arith, digit)) k m (λ _ e. omega (arith, digit_2))
        (λ _ e h g u v. elim out [ inl p ↦ omega arith | inr p ↦ omega (arith, digit_2) ])
    second_out (b ∷ c ∷ d ∷ x) f long is k m all out = absurd f

    -- The digits are a count, at the end j of which the line does not end.
    pub not_ended : (x : List ℕ) {j p : ℕ} → Found s i x → 1 ≤ length x → first ≡ get_or x 0 0 - first_digit → counts.least ≤ first → first ≤ counts.most → count ≡ numeral 0 x
        → ((get_or x 0 0 ≡ first_digit) × (2 ≤ length x) → ⊥) → count ≤ counts.most → j ≡ i + length x → (j < length s → get_or s j 0 ≡ line_end → ⊥) → p ≡ j
        → Lost (AnyCount counts.least counts.most) s i p
    not_ended [] f long is k m all zero in_range end none place = absurd (omega arith)
    not_ended (b ∷ []) {j} {p} f long is k m all zero in_range end none place =
        let (h, at, digit, over) = f in
        let there : j ≡ i + 1 = omega arith in
        let past : p ≡ i + 1 = omega arith in
        subst (Lost (AnyCount counts.least counts.most) s i) (sym past)
        (second_lost _ _ counts.low counts.some counts.few _ _ first (omega arith) (omega (arith, digit)) (omega (arith, digit)) k m (rw there at none)
        (λ h e g at_2 _ _. over h (omega arith, omega arith)))
    not_ended (b ∷ c ∷ []) {j} {p} f long is k m all zero in_range end none place =
        let (h, at, digit, at_2, digit_2) = f in
        let there : j ≡ i + 2 = omega arith in
        let past : p ≡ i + 2 = omega arith in
        let positive : 1 ≤ first = grind (arith, zero, digit) in
        subst (Lost (AnyCount counts.least counts.most) s i) (sym past)
        (third_lost _ _ counts.low counts.some counts.few _ _ first (omega arith) (omega (arith, digit)) (omega (arith, digit)) k m
        (c - first_digit) h (omega (arith, digit_2)) (digit_is at_2 digit_2) positive (omega (arith, digit, digit_2)) (rw there at none))
    not_ended (b ∷ c ∷ d ∷ x) f long is k m all zero in_range end none place = absurd f

    pub count_got : (x : List ℕ) {j p : ℕ} → Found s i x → 1 ≤ length x → first ≡ get_or x 0 0 - first_digit → counts.least ≤ first → first ≤ counts.most → count ≡ numeral 0 x
        → ((get_or x 0 0 ≡ first_digit) × (2 ≤ length x) → ⊥) → count ≤ counts.most → j ≡ i + length x → j < length s → get_or s j 0 ≡ line_end → p ≡ j + 1
        → Got (λ y. IsCount counts.least counts.most y count) s i p
    count_got [] f long is k m all zero in_range end inside ends place = absurd (omega arith)
    count_got (b ∷ []) {j} {p} f long is k m all zero in_range end inside ends place =
        let (h, at, digit, over) = f in
        let there : j ≡ i + 1 = omega arith in
        let past : p ≡ i + 2 = omega arith in
        let same : count ≡ first = omega arith in
        subst (Got (λ y. IsCount counts.least counts.most y count) s i) (sym past)
        (subst (λ n. Got (λ y. IsCount counts.least counts.most y n) s i (i + 2)) (sym same)
        (one_got _ _ counts.low counts.some counts.few _ _ first (omega arith) (omega (arith, digit)) (omega (arith, digit)) k m (omega arith) (rw there at ends)))
    count_got (b ∷ c ∷ []) {j} {p} f long is k m all zero in_range end inside ends place =
        let (h, at, digit, at_2, digit_2) = f in
        let there : j ≡ i + 2 = omega arith in
        let past : p ≡ i + 3 = omega arith in
        let positive : 1 ≤ first = grind (arith, zero, digit) in
        let same : count ≡ 10 * first + (c - first_digit) = omega (arith, digit, digit_2) in
        subst (Got (λ y. IsCount counts.least counts.most y count) s i) (sym past)
        (subst (λ n. Got (λ y. IsCount counts.least counts.most y n) s i (i + 3)) (sym same)
        (two_got _ _ counts.low counts.some counts.few _ _ first (omega arith) (omega (arith, digit)) (omega (arith, digit)) k m
        (c - first_digit) h (omega (arith, digit_2)) (digit_is at_2 digit_2) positive (omega (arith, digit, digit_2)) (omega arith) (rw there at ends)))
    count_got (b ∷ c ∷ d ∷ x) f long is k m all zero in_range end inside ends place = absurd f
