-- Counts of one and two digits, and where what is read for one fails.
use Rattle.std.proofs.Common.{◌≡◌, ℕ, ◌+◌, ◌*◌, ◌/◌, ◌%◌, ◌<◌, ◌≤◌, ◌⊎◌, List, [], ◌∷◌, ◌++◌, length, get_or, decimal, sym, refl, ap, ◌∙◌, subst, inl, inr, arith, lit≤}
use Rattle.std.proofs.lemmas.Fmt.{decimal_digit, decimal_step, decimal_injective}
use Rattle.std.proofs.lemmas.List.Edits.{between_more, between_none}
use Rattle.std.proofs.lemmas.List.{append_cancel_right}
use Rattle.std.specs.List.{between}
use Rattle.expression.specs.Bytes.{first_digit, line_end}
use Rattle.expression.specs.Texts.{Got, Lost}
use Rattle.sheet.specs.Grammar.{IsCount}
use Rattle.sheet.specs.Parts.{AnyCount}
use Rattle.sheet.proofs.Chains.{Told, lost}
use Rattle.sheet.proofs.Ended.{Ended, told_lines}

abbrev One : ℕ → List ℕ → Type 0
One n x = (n ≤ 9) × (x ≡ (first_digit + n) ∷ line_end ∷ [])

record Two (n : ℕ) (x : List ℕ) : Type 0 where
  tens : ℕ
  ones : ℕ
  some : 1 ≤ tens
  few : tens ≤ 9
  low : ones ≤ 9
  value : n ≡ 10 * tens + ones
  is : x ≡ (first_digit + tens) ∷ (first_digit + ones) ∷ line_end ∷ []

one_or_two : (n : ℕ) (x : List ℕ) → n ≤ 99 → x ≡ decimal n ++ line_end ∷ [] → One n x ⊎ Two n x
one_or_two n x h e = go split
  where
    split : (n ≤ 9) ⊎ (10 ≤ n)
    split = grind arith

    go : (n ≤ 9) ⊎ (10 ≤ n) → One n x ⊎ Two n x
    go (inl l) = inl (l, e ∙ ap (λ d. d ++ line_end ∷ []) (decimal_digit n (omega arith)))
    go (inr l) = inr (record {
      tens = n / 10;
      ones = n % 10;
      some = omega arith;
      few = omega arith;
      low = omega arith;
      value = omega arith;
      is = e ∙ ap (λ d. d ++ line_end ∷ []) (decimal_step n l (omega arith) ∙ ap (λ d. d ++ (first_digit + n % 10) ∷ []) (decimal_digit (n / 10) (omega arith)));
    })

pub from_one : (n : ℕ) → n ≤ 9 → (first_digit + n) ∷ line_end ∷ [] ≡ decimal n ++ line_end ∷ []
from_one n h = sym (ap (λ d. d ++ line_end ∷ []) (decimal_digit n (omega arith)))

from_two : (a b : ℕ) → 1 ≤ a → a ≤ 9 → b ≤ 9 → (first_digit + a) ∷ (first_digit + b) ∷ line_end ∷ [] ≡ decimal (10 * a + b) ++ line_end ∷ []
from_two a b h k l =
    let q : (10 * a + b) / 10 ≡ a = omega arith in
    let r : (10 * a + b) % 10 ≡ b = omega arith in
    sym (ap (λ d. d ++ line_end ∷ []) (decimal_step (10 * a + b) (omega arith) (omega arith)
    ∙ (ap (λ d. d ++ (first_digit + (10 * a + b) % 10) ∷ []) (decimal_digit ((10 * a + b) / 10) (omega arith))
    ∙ (ap (λ m. (first_digit + m) ∷ (first_digit + (10 * a + b) % 10) ∷ []) q ∙ ap (λ m. (first_digit + a) ∷ (first_digit + m) ∷ []) r))))

count_ended : (least most : ℕ) → most ≤ 99 → (n : ℕ) (x : List ℕ) → IsCount least most x n → Ended x
count_ended least most few n x c = elim (one_or_two n x (omega (arith, c.high)) c.is) [
  | inl (h, e) ↦ record { text = (first_digit + n) ∷ []; plain = ((λ f. omega arith), tt); is = e }
  | inr t ↦ record { text = (first_digit + t.tens) ∷ (first_digit + t.ones) ∷ []; plain = ((λ f. omega arith), ((λ f. omega arith), tt)); is = t.is }
]

pub told_count : (least most : ℕ) → most ≤ 99 → Told (λ n x. IsCount least most x n)
told_count least most few = told_lines (λ n x. IsCount least most x n) (count_ended least most few)
    (λ v w x a b. decimal_injective v w (omega (arith, a.high)) (omega (arith, b.high))
    (append_cancel_right (decimal v) (decimal w) (line_end ∷ []) (sym a.is ∙ b.is)))

module _ (least most : ℕ) (low : least ≤ 1) (some : 1 ≤ most) (few : most ≤ 99) (s : List ℕ) (i : ℕ) where
  first_byte : (b : ℕ) (t : List ℕ) → AnyCount least most (b ∷ t) → (d : ℕ) × (b ≡ first_digit + d) × (d ≤ 9) × (least ≤ d) × (d ≤ most)
  first_byte b t (n, c) = elim (one_or_two n (b ∷ t) (omega (arith, c.high)) c.is) [
    | inl (h, e) ↦ (n, cc, h, c.low, c.high)
    | inr u ↦ (u.tens, cc u.is, u.few, omega (arith, u.some), omega (arith, u.value, c.high))
  ]

  second_byte : (d b : ℕ) (t : List ℕ) → AnyCount least most ((first_digit + d) ∷ b ∷ t)
      → (b ≡ line_end) ⊎ ((e : ℕ) × (b ≡ first_digit + e) × (e ≤ 9) × (1 ≤ d) × (10 * d + e ≤ most))
  second_byte d b t (n, c) = elim (one_or_two n ((first_digit + d) ∷ b ∷ t) (omega (arith, c.high)) c.is) [
    | inl (h, e) ↦ inl (cc)
    | inr u ↦
        let f : first_digit + d ≡ first_digit + u.tens = cc u.is in
        inr (u.ones, cc u.is, u.low, omega (arith, u.some, f), omega (arith, u.value, c.high, f))
  ]

  third_byte : (d e b : ℕ) (t : List ℕ) → AnyCount least most ((first_digit + d) ∷ (first_digit + e) ∷ b ∷ t) → b ≡ line_end
  third_byte d e b t (n, c) = elim (one_or_two n ((first_digit + d) ∷ (first_digit + e) ∷ b ∷ t) (omega (arith, c.high)) c.is) [
    | inl (h, f) ↦ let g : first_digit + e ≡ line_end = cc in absurd (omega arith)
    | inr u ↦ cc u.is
  ]

  no_empty : AnyCount least most [] → ⊥
  no_empty (n, c) = elim (one_or_two n [] (omega (arith, c.high)) c.is) [
    | inl (h, e) ↦ cc
    | inr u ↦ cc u.is
  ]

  no_single : (d : ℕ) → AnyCount least most ((first_digit + d) ∷ []) → ⊥
  no_single d (n, c) = elim (one_or_two n ((first_digit + d) ∷ []) (omega (arith, c.high)) c.is) [
    | inl (h, e) ↦ cc
    | inr u ↦ cc u.is
  ]

  no_double : (d e : ℕ) → AnyCount least most ((first_digit + d) ∷ (first_digit + e) ∷ []) → ⊥
  no_double d e (n, c) = elim (one_or_two n ((first_digit + d) ∷ (first_digit + e) ∷ []) (omega (arith, c.high)) c.is) [
    | inl (h, f) ↦ let g : first_digit + e ≡ line_end = cc in omega arith
    | inr u ↦ cc u.is
  ]

  byte_more : (j k : ℕ) (w : List ℕ) (b : ℕ) → i ≤ j → k ≡ j + 1 → j < length s → between i j s ≡ w → get_or s j 0 ≡ b → between i k s ≡ w ++ b ∷ []
  byte_more j k w b h e l p q =
      ap (λ m. between i m s) e ∙ (between_more s i j 0 h l ∙ (ap (λ x. x ++ get_or s j 0 ∷ []) p ∙ ap (λ c. w ++ c ∷ []) q))

  pub first_lost : i ≤ length s → (i < length s → (d : ℕ) → d ≤ 9 → get_or s i 0 ≡ first_digit + d → least ≤ d → d ≤ most → ⊥) → Lost (AnyCount least most) s i i
  first_lost w none =
      lost (AnyCount least most) s i i (omega arith) w ((first_digit + 1) ∷ line_end ∷ [])
      (subst (λ x. AnyCount least most (x ++ (first_digit + 1) ∷ line_end ∷ [])) (sym (between_none s i)) (1, record { low = low; high = some; is = from_one 1 (lit≤ tt) }))
      (λ a. no_empty (subst (AnyCount least most) (between_none s i) a))
      (λ l t a. let (d, e, h, k, m) = first_byte (get_or s i 0) t (subst (λ x. AnyCount least most (x ++ get_or s i 0 ∷ t)) (between_none s i) a) in none l d h e k m)

  module _ (d : ℕ) (at : i < length s) (digit : d ≤ 9) (is : get_or s i 0 ≡ first_digit + d) (enough : least ≤ d) (not_more : d ≤ most) where
    one_read : between i (i + 1) s ≡ (first_digit + d) ∷ []
    one_read = byte_more i (i + 1) [] (first_digit + d) (omega arith) refl at (between_none s i) is

    pub one_got : i + 1 < length s → get_or s (i + 1) 0 ≡ line_end → Got (λ x. IsCount least most x d) s i (i + 2)
    one_got l e = record {
      more = omega arith;
      within = omega arith;
      is = record { low = enough; high = not_more; is = byte_more (i + 1) (i + 2) ((first_digit + d) ∷ []) line_end (omega arith) (omega arith) l one_read e ∙ from_one d digit };
    }

    pub second_lost : (i + 1 < length s → ¬ (get_or s (i + 1) 0 ≡ line_end))
        → (i + 1 < length s → (e : ℕ) → e ≤ 9 → get_or s (i + 1) 0 ≡ first_digit + e → 1 ≤ d → 10 * d + e ≤ most → ⊥) → Lost (AnyCount least most) s i (i + 1)
    second_lost no_end none =
        lost (AnyCount least most) s i (i + 1) (omega arith) (omega arith) (line_end ∷ [])
        (subst (λ x. AnyCount least most (x ++ line_end ∷ [])) (sym one_read) (d, record { low = enough; high = not_more; is = from_one d digit }))
        (λ a. no_single d (subst (AnyCount least most) one_read a))
        (λ l t a. elim (second_byte d (get_or s (i + 1) 0) t (subst (λ x. AnyCount least most (x ++ get_or s (i + 1) 0 ∷ t)) one_read a)) [
          | inl e ↦ no_end l e
          | inr (e, f, h, k, m) ↦ none l e h f k m
        ])

    module _ (e : ℕ) (then : i + 1 < length s) (digit_2 : e ≤ 9) (is_2 : get_or s (i + 1) 0 ≡ first_digit + e) (no_zero : 1 ≤ d) (in_range : 10 * d + e ≤ most) where
      two_read : between i (i + 2) s ≡ (first_digit + d) ∷ (first_digit + e) ∷ []
      two_read = byte_more (i + 1) (i + 2) ((first_digit + d) ∷ []) (first_digit + e) (omega arith) (omega arith) then one_read is_2

      is_count : IsCount least most ((first_digit + d) ∷ (first_digit + e) ∷ line_end ∷ []) (10 * d + e)
      is_count = record { low = omega arith; high = in_range; is = from_two d e no_zero digit digit_2 }

      pub two_got : i + 2 < length s → get_or s (i + 2) 0 ≡ line_end → Got (λ x. IsCount least most x (10 * d + e)) s i (i + 3)
      two_got l f = record {
        more = omega arith;
        within = omega arith;
        is = subst (λ x. IsCount least most x (10 * d + e)) (sym (byte_more (i + 2) (i + 3) ((first_digit + d) ∷ (first_digit + e) ∷ []) line_end (omega arith) (omega arith) l two_read f)) is_count;
      }

      pub third_lost : (i + 2 < length s → ¬ (get_or s (i + 2) 0 ≡ line_end)) → Lost (AnyCount least most) s i (i + 2)
      third_lost no_end =
          lost (AnyCount least most) s i (i + 2) (omega arith) (omega arith) (line_end ∷ [])
          (subst (λ x. AnyCount least most (x ++ line_end ∷ [])) (sym two_read) (10 * d + e, is_count))
          (λ a. no_double d e (subst (AnyCount least most) two_read a))
          (λ l t a. no_end l (third_byte d e (get_or s (i + 2) 0) t (subst (λ x. AnyCount least most (x ++ get_or s (i + 2) 0 ∷ t)) two_read a)))
