-- Factors: a number, a z, a power of z, a sum in brackets, and the places where none of them goes on.
use Rattle.std.proofs.Common.{◌≡◌, ℕ, zero, suc, ◌+◌, ◌-◌, ◌<◌, ◌≤◌, false, cond, eqb, ◌⊎◌, List, [], ◌∷◌, ◌++◌, length, get_or, sym, refl, ap, ◌∙◌, subst, inl, inr, ⊎_elim, append_assoc, arith, lit≤}
use Rattle.std.proofs.lemmas.List.Edits.{between_more, between_none, length-between}
use Rattle.std.proofs.lemmas.Bool.Decides.{nat_tests}
use Rattle.std.specs.List.{between}
use Rattle.algebra.specs.Field.{Arithmetic}
use Rattle.expression.specs.Bytes.{Digit, caret, first_digit, left_bracket, letter_z, right_bracket}
use Rattle.expression.specs.Grammar.{IsNumber, Phrase, a_number, a_power, a_z, factor, in_brackets, numeral, sum}
use Rattle.expression.specs.Limits.{most_brackets, most_digits}
use Rattle.expression.specs.Readings.{DigitsTo, Follows, Reading, Stopped}
use Rattle.expression.specs.Values.{Value, number, number_value, power, power_value}
use Rattle.expression.specs.Watch.{Watch, after_factor, broken, ended, fresh, inside, lettered, raised, step, watch, whole}
use Rattle.expression.proofs.Stretches.{first_is, single}
use Rattle.expression.proofs.Watching.{by_end, digit_no, passes, watch_++, watch_brackets, watch_exponent, watch_number}

-- The watch takes one byte more.
pub one_more : (n : ℕ) (s : List ℕ) (i j : ℕ) (w : Watch) → i ≤ j → j < length s → watch (inside n fresh) (between i j s) ≡ w
    → watch (inside n fresh) (between i (j + 1) s) ≡ step w (get_or s j 0)
one_more n s i j w h l e =
    ap (watch (inside n fresh)) (between_more s i j 0 h l)
    ∙ (watch_++ (inside n fresh) (between i j s) (get_or s j 0 ∷ []) ∙ ap (λ t. step t (get_or s j 0)) e)

-- The byte after a factor follows it, or breaks the line.
abbrev Over : Watch → ℕ → Type 0
Over w b = Follows factor b ⊎ (step w b ≡ broken)

sign_over : (n b : ℕ) → Follows factor b ⊎ (after_factor n b ≡ broken)
sign_over n b = grind (arith, nat_tests)

digits_over : (n k b : ℕ) → (0 < k → Digit b → ⊥) → Over (inside n (whole k)) b
digits_over n zero b h = sign_over n b
digits_over n (suc k) b h = rw (digit_no b (h (omega arith))) (sign_over n b)

letter_over : (n b : ℕ) → (b ≡ caret → ⊥) → Over (inside n lettered) b
letter_over n b h = grind (arith, nat_tests)

-- So a factor that the watch has passed stops at the byte after it.
over_at : (n : ℕ) (s : List ℕ) (i j : ℕ) (w : Watch) → i ≤ j → watch (inside n fresh) (between i j s) ≡ w → (j < length s → Over w (get_or s j 0))
    → j < length s → Follows factor (get_or s j 0) ⊎ (watch (inside n fresh) (between i (j + 1) s) ≡ broken)
over_at n s i j w h e over l = ⊎_elim inl (λ d. inr (one_more n s i j w h l e ∙ d)) (over l)

-- The digit 0 is a number: what can always go on where a number may begin.
zero_number : IsNumber (first_digit ∷ [])
zero_number = record { some = lit≤ tt; few = lit≤ tt; digits = ((lit≤ tt, lit≤ tt), tt) }

-- The digits of a token are a number.
pub token_number : (s : List ℕ) (i j : ℕ) → i < j → DigitsTo most_digits s i j → IsNumber (between i j s)
token_number s i j h d =
    let len = length-between s i j d.within in
    record { some = omega (arith, len); few = omega (arith, len, d.few); digits = d.digits }

-- After these digits comes no other that could be taken.
no_digit_left : (s : List ℕ) (i j : ℕ) → DigitsTo most_digits s i j → j < length s → 0 < most_digits - length (between i j s) → Digit (get_or s j 0) → ⊥
no_digit_left s i j d l left = let len = length-between s i j d.within in d.stops (omega (arith, len, left, d.more)) l

-- No factor begins here.
pub none_begins : (n : ℕ) (s : List ℕ) (i : ℕ) → i ≤ length s → (i < length s → step (inside n fresh) (get_or s i 0) ≡ broken) → Stopped factor n s i i
none_begins n s i w breaks = record {
  more = omega arith;
  within = w;
  rest = first_digit ∷ [];
  expression = number 0;
  phrase = subst (λ x. Phrase factor n x (number 0)) (ap (λ x. x ++ first_digit ∷ []) (sym (between_none s i))) (a_number zero_number);
  ends = λ h. ap (watch (inside n fresh)) (single s i h) ∙ breaks h;
}

pub no_factor : (n b : ℕ) → (Digit b → ⊥) → (b ≡ letter_z → ⊥) → (b ≡ left_bracket → ⊥) → step (inside n fresh) b ≡ broken
no_factor n b p q r = grind (arith, nat_tests)

-- A number.
pub number_read : (f : Arithmetic) (n : ℕ) (s : List ℕ) (i j : ℕ) → i < j → DigitsTo most_digits s i j
    → Reading factor factor f n s i j (number_value f (numeral 0 (between i j s)))
number_read f n s i j h d =
    let is_number = token_number s i j h d in
    record {
      expression = number (numeral 0 (between i j s));
      more = h;
      within = d.within;
      phrase = a_number is_number;
      value_is = refl;
      stops =
          over_at n s i j _ d.more (watch_number n (between i j s) is_number)
          (λ l. digits_over n (most_digits - length (between i j s)) (get_or s j 0) (no_digit_left s i j d l));
    }

-- A z with no caret after it.
pub letter_read : (f : Arithmetic) (n : ℕ) (s : List ℕ) (i : ℕ) → i < length s → get_or s i 0 ≡ letter_z → (i + 1 < length s → get_or s (i + 1) 0 ≡ caret → ⊥)
    → Reading factor factor f n s i (i + 1) (power_value 1)
letter_read f n s i w e none =
    let is : between i (i + 1) s ≡ letter_z ∷ [] = single s i w ∙ ap (λ b. b ∷ []) e in
    record {
      expression = power 1;
      more = omega arith;
      within = omega arith;
      phrase = subst (λ x. Phrase factor n x (power 1)) (sym is) a_z;
      value_is = refl;
      stops =
          over_at n s i (i + 1) (inside n lettered) (omega arith) (ap (watch (inside n fresh)) is)
          (λ l. letter_over n (get_or s (i + 1) 0) (none l));
    }

-- A z and a caret at the front.
raised_front : (s : List ℕ) (i j : ℕ) → i + 2 ≤ j → j ≤ length s → get_or s i 0 ≡ letter_z → get_or s (i + 1) 0 ≡ caret
    → between i j s ≡ letter_z ∷ caret ∷ between (i + 2) j s
raised_front s i j h w e d =
    let two : i + 1 + 1 ≡ i + 2 = omega arith in
    first_is s i j letter_z (omega arith) w e
    ∙ ap (λ x. letter_z ∷ x) (first_is s (i + 1) j caret (omega arith) w d ∙ ap (λ m. caret ∷ between m j s) two)

pub power_read : (f : Arithmetic) (n : ℕ) (s : List ℕ) (i j : ℕ) → get_or s i 0 ≡ letter_z → get_or s (i + 1) 0 ≡ caret → i + 2 < j → DigitsTo most_digits s (i + 2) j
    → Reading factor factor f n s i j (power_value (numeral 0 (between (i + 2) j s)))
power_read f n s i j e c h d =
    let is_number = token_number s (i + 2) j h d in
    let is = raised_front s i j (omega arith) d.within e c in
    record {
      expression = power (numeral 0 (between (i + 2) j s));
      more = omega arith;
      within = d.within;
      phrase = subst (λ x. Phrase factor n x (power (numeral 0 (between (i + 2) j s)))) (sym is) (a_power is_number);
      value_is = refl;
      stops =
          over_at n s i j _ (omega arith) (ap (watch (inside n fresh)) is ∙ watch_exponent n (between (i + 2) j s) is_number)
          (λ l. digits_over n (most_digits - length (between (i + 2) j s)) (get_or s j 0) (no_digit_left s (i + 2) j d l));
    }

-- After the caret stands no digit.
pub power_stopped : (n : ℕ) (s : List ℕ) (i : ℕ) → get_or s i 0 ≡ letter_z → get_or s (i + 1) 0 ≡ caret → i + 2 ≤ length s
    → (i + 2 < length s → Digit (get_or s (i + 2) 0) → ⊥) → Stopped factor n s i (i + 2)
power_stopped n s i e c w none =
    let is : between i (i + 2) s ≡ letter_z ∷ caret ∷ [] =
    raised_front s i (i + 2) (omega arith) w e c ∙ ap (λ x. letter_z ∷ caret ∷ x) (between_none s (i + 2)) in
    record {
      more = omega arith;
      within = w;
      rest = first_digit ∷ [];
      expression = power 0;
      phrase = subst (λ x. Phrase factor n x (power 0)) (ap (λ x. x ++ first_digit ∷ []) (sym is)) (a_power zero_number);
      ends = λ l.
          one_more n s i (i + 2) (inside n raised) (omega arith) l (ap (watch (inside n fresh)) is)
          ∙ ap (λ b. cond b (inside n (whole (most_digits - 1))) broken) (digit_no (get_or s (i + 2) 0) (none l));
    }

-- A bracket opens at i, and the watch goes on inside it.
opens : (n : ℕ) (s : List ℕ) (i j : ℕ) → i < j → j ≤ length s → get_or s i 0 ≡ left_bracket
    → watch (inside (suc n) fresh) (between i j s) ≡ watch (inside n fresh) (between (i + 1) j s)
opens n s i j h w e = ap (watch (inside (suc n) fresh)) (first_is s i j left_bracket h w e)

brackets_within : (f : Arithmetic) (n : ℕ) (s : List ℕ) (i j : ℕ) {codes : Value} → n < most_brackets → get_or s i 0 ≡ left_bracket
    → Reading sum sum f n s (i + 1) j codes → j < length s → get_or s j 0 ≡ right_bracket → Reading factor factor f (suc n) s i (j + 1) codes
brackets_within f n s i j few e r l c =
    let is : between i (j + 1) s ≡ left_bracket ∷ between (i + 1) j s ++ (right_bracket ∷ []) =
    first_is s i (j + 1) left_bracket (omega (arith, r.more)) (omega arith) e
    ∙ ap (λ x. left_bracket ∷ x) (between_more s (i + 1) j 0 (omega (arith, r.more)) l ∙ ap (λ b. between (i + 1) j s ++ b ∷ []) c) in
    let p : Phrase factor (suc n) (left_bracket ∷ between (i + 1) j s ++ (right_bracket ∷ [])) r.expression = in_brackets r.phrase in
    record {
      expression = r.expression;
      more = omega (arith, r.more);
      within = omega arith;
      phrase = subst (λ x. Phrase factor (suc n) x r.expression) (sym is) p;
      value_is = r.value_is;
      stops =
          over_at (suc n) s i (j + 1) (inside (suc n) (whole 0)) (omega (arith, r.more))
          (ap (watch (inside (suc n) fresh)) is ∙ watch_brackets n (between (i + 1) j s) few (passes r.phrase (omega arith)))
          (λ h. sign_over (suc n) (get_or s (j + 1) 0));
    }

stopped_within : (n : ℕ) (s : List ℕ) (i p : ℕ) → get_or s i 0 ≡ left_bracket → Stopped sum n s (i + 1) p → Stopped factor (suc n) s i p
stopped_within n s i p e t = record {
  more = omega (arith, t.more);
  within = t.within;
  rest = t.rest ++ right_bracket ∷ [];
  expression = t.expression;
  phrase =
      subst (λ x. Phrase factor (suc n) x t.expression)
      (ap (λ x. left_bracket ∷ x) (append_assoc (between (i + 1) p s) t.rest (right_bracket ∷ []))
      ∙ ap (λ x. x ++ (t.rest ++ right_bracket ∷ [])) (sym (first_is s i p left_bracket (omega (arith, t.more)) t.within e)))
      (in_brackets t.phrase);
  ends = λ h. opens n s i (p + 1) (omega (arith, t.more)) (omega arith) e ∙ t.ends h;
}

-- The sum inside is whole, and what follows does not close the bracket.
not_closed_within : (f : Arithmetic) (n : ℕ) (s : List ℕ) (i j : ℕ) {codes : Value} → n < most_brackets → get_or s i 0 ≡ left_bracket
    → Reading sum sum f n s (i + 1) j codes → (j < length s → get_or s j 0 ≡ right_bracket → ⊥) → Stopped factor (suc n) s i j
not_closed_within f n s i j few e r none =
    let p = passes r.phrase (omega arith) in
    let open_still : eqb n most_brackets ≡ false = grind (arith, nat_tests) in
    record {
      more = omega (arith, r.more);
      within = r.within;
      rest = right_bracket ∷ [];
      expression = r.expression;
      phrase =
          subst (λ x. Phrase factor (suc n) x r.expression)
          (ap (λ x. x ++ right_bracket ∷ []) (sym (first_is s i j left_bracket (omega (arith, r.more)) r.within e))) (in_brackets r.phrase);
      ends = λ h.
          opens n s i (j + 1) (omega (arith, r.more)) (omega arith) e
          ∙ elim (r.stops h) [
            | inl a ↦ elim a [
              | inl x ↦ absurd (none h x)
              | inr x ↦
                  one_more n s (i + 1) j _ (omega (arith, r.more)) h p.is
                  ∙ (ap (step (inside n p.spot)) x ∙ (by_end n p.spot p.is_whole ∙ ap (λ b. cond b ended broken) open_still))
            ]
            | inr x ↦ x
          ];
    }

-- The same, where `left` brackets may be opened before the one at i, and one less after it.
one_back : {n left : ℕ} → n + 1 ≡ left → suc n ≡ left
one_back one = omega arith

pub brackets_read : (f : Arithmetic) {n left : ℕ} → n + 1 ≡ left → (s : List ℕ) (i j : ℕ) {codes : Value} → left ≤ most_brackets → get_or s i 0 ≡ left_bracket
    → Reading sum sum f n s (i + 1) j codes → j < length s → get_or s j 0 ≡ right_bracket → Reading factor factor f left s i (j + 1) codes
brackets_read f {n} one s i j {codes} few e r l c =
    subst (λ m. Reading factor factor f m s i (j + 1) codes) (one_back one) (brackets_within f n s i j (omega arith) e r l c)

pub brackets_stopped : {n left : ℕ} → n + 1 ≡ left → (s : List ℕ) (i p : ℕ) → get_or s i 0 ≡ left_bracket → Stopped sum n s (i + 1) p → Stopped factor left s i p
brackets_stopped {n} one s i p e t = subst (λ m. Stopped factor m s i p) (one_back one) (stopped_within n s i p e t)

pub not_closed : (f : Arithmetic) {n left : ℕ} → n + 1 ≡ left → (s : List ℕ) (i j : ℕ) {codes : Value} → left ≤ most_brackets → get_or s i 0 ≡ left_bracket
    → Reading sum sum f n s (i + 1) j codes → (j < length s → get_or s j 0 ≡ right_bracket → ⊥) → Stopped factor left s i j
not_closed f {n} one s i j few e r none =
    subst (λ m. Stopped factor m s i j) (one_back one) (not_closed_within f n s i j (omega arith) e r none)
