-- The digits that stand at a place, counted among the first few bytes from there on.
use Rattle.std.proofs.Common.{◌≡◌, ℕ, zero, suc, ◌+◌, ◌-◌, ◌<◌, ◌≤◌, Bool, true, false, cond, List, [], ◌∷◌, length, get_or, take, drop, sym, refl, ap, ◌∙◌, subst, arith}
use Rattle.std.proofs.lemmas.Bool.Decides.{nat_tests}
use Rattle.std.proofs.lemmas.List.{get_or-drop, get_or-take, length-drop, length-take}
use Rattle.std.proofs.lemmas.List.Sums.{prefix_len-le-length, prefix_len_stops}
use Rattle.std.specs.Char.{is_ascii_digit}
use Rattle.std.specs.List.{AllByRecursion, prefix_len}
use Rattle.expression.specs.Bytes.{Digit}
use Rattle.expression.specs.Readings.{DigitsTo}

digit_by_test : (b : ℕ) → is_ascii_digit b ≡ true → Digit b
digit_by_test b e = grind (arith, nat_tests)

none_by_test : (b : ℕ) → is_ascii_digit b ≡ false → Digit b → ⊥
none_by_test b e d = grind (arith, nat_tests)

-- How many of the first few are digits.
abbrev pub count : ℕ → List ℕ → ℕ
count most xs = prefix_len is_ascii_digit (take most xs)

one_more : (b : Bool) (x n : ℕ) (xs : List ℕ) → (b ≡ true → Digit x) → AllByRecursion Digit (take n xs)
    → AllByRecursion Digit (take (cond b (1 + n) 0) (x ∷ xs))
one_more true x n xs h a = let next : suc n ≡ 1 + n = omega arith in subst (λ m. AllByRecursion Digit (take m (x ∷ xs))) next (h refl, a)
one_more false x n xs h a = tt

all_digits : (most : ℕ) (xs : List ℕ) → AllByRecursion Digit (take (count most xs) xs)
all_digits zero xs = tt
all_digits (suc m) [] = tt
all_digits (suc m) (x ∷ xs) = one_more (is_ascii_digit x) x (count m xs) xs (digit_by_test x) (all_digits m xs)

-- They stand from i on, and no more of them could be taken.
pub digits_counted : (most : ℕ) (s : List ℕ) (i : ℕ) → i ≤ length s → DigitsTo most s i (i + count most (drop i s))
digits_counted most s i w =
    let few = prefix_len-le-length is_ascii_digit (take most (drop i s)) in
    let len = length-take most (drop i s) in
    let left = length-drop i s in
    let n = count most (drop i s) in
    let same : i + n - i ≡ n = omega arith in
    record {
      more = omega arith;
      few = omega (arith, few, len);
      within = omega (arith, few, len, left);
      digits = subst (λ m. AllByRecursion Digit (take m (drop i s))) (sym same) (all_digits most (drop i s));
      stops = λ h k d.
          let in_reach : n < length (take most (drop i s)) = omega (arith, len, left) in
          let below : n < most = omega arith in
          none_by_test (get_or s (i + n) 0)
          (ap is_ascii_digit (sym (get_or-take most (drop i s) n 0 below ∙ get_or-drop i s n 0)) ∙ prefix_len_stops is_ascii_digit (take most (drop i s)) 0 in_reach) d;
    }
