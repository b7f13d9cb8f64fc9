-- The watch goes through every phrase, and leaves it where a sign may follow.
use Rattle.std.proofs.Common.{◌≡◌, ℕ, zero, suc, ◌-◌, ◌<◌, ◌≤◌, true, false, cond, eqb, ltb, List, [], ◌∷◌, ◌++◌, length, refl, ap, ◌∙◌, arith}
use Rattle.std.proofs.lemmas.Bool.Decides.{nat_tests}
use Rattle.std.specs.List.{AllByRecursion}
use Rattle.expression.specs.Bytes.{Digit, caret, left_bracket, line_end, plus_sign, right_bracket, times_sign}
use Rattle.expression.specs.Grammar.{IsNumber, Kind, Phrase, a_number, a_power, a_z, in_brackets, one_factor, one_term, plus, times}
use Rattle.expression.specs.Limits.{most_brackets, most_digits}
use Rattle.expression.specs.Values.{Expression}
use Rattle.expression.specs.Watch.{Spot, Watch, after_factor, broken, ended, fresh, inside, is_digit, lettered, raised, step, watch, whole}

pub watch_++ : (w : Watch) (x y : List ℕ) → watch w (x ++ y) ≡ watch (watch w x) y
watch_++ w [] y = refl
watch_++ w (b ∷ x) y = watch_++ (step w b) x y

-- What is broken stays so.
pub watch_broken : (x : List ℕ) → watch broken x ≡ broken
watch_broken [] = refl
watch_broken (b ∷ x) = watch_broken x

pub digit_yes : (b : ℕ) → Digit b → is_digit b ≡ true
digit_yes b h = grind (arith, nat_tests)

pub digit_no : (b : ℕ) → (Digit b → ⊥) → is_digit b ≡ false
digit_no b h = grind (arith, nat_tests)

-- The spots after a whole factor.
abbrev pub Whole : Spot → Type 0
Whole fresh = ⊥
Whole (whole k) = Unit {0}
Whole lettered = Unit {0}
Whole raised = ⊥

-- A byte that goes on with no factor: after a whole one it counts for itself.
abbrev Apart : ℕ → Type 0
Apart b = (is_digit b ≡ false) × (eqb b caret ≡ false)

by_sign : (n b : ℕ) → Apart b → (q : Spot) → Whole q → step (inside n q) b ≡ after_factor n b
by_sign n b a fresh h = absurd h
by_sign n b a (whole zero) h = refl
by_sign n b a (whole (suc k)) h = ap (λ t. cond t (inside n (whole k)) (after_factor n b)) a.0
by_sign n b a lettered h = ap (λ t. cond t (inside n raised) (after_factor n b)) a.1
by_sign n b a raised h = absurd h

-- A sign that leads to the next factor.
abbrev pub Leads : ℕ → Type 0
Leads b = (n : ℕ) (q : Spot) → Whole q → step (inside n q) b ≡ inside n fresh

pub times_leads : Leads times_sign
times_leads n q h = by_sign n times_sign (refl, refl) q h

pub plus_leads : Leads plus_sign
plus_leads n q h = by_sign n plus_sign (refl, refl) q h

pub by_close : (n : ℕ) (q : Spot) → Whole q → step (inside n q) right_bracket ≡ cond (ltb n most_brackets) (inside (suc n) (whole 0)) broken
by_close n q h = by_sign n right_bracket (refl, refl) q h

pub by_end : (n : ℕ) (q : Spot) → Whole q → step (inside n q) line_end ≡ cond (eqb n most_brackets) ended broken
by_end n q h = by_sign n line_end (refl, refl) q h

-- More digits, while they are few.
more_digits : (n k : ℕ) (x : List ℕ) → length x ≤ k → AllByRecursion Digit x → watch (inside n (whole k)) x ≡ inside n (whole (k - length x))
more_digits n k [] h a = ap (λ m. inside n (whole m)) (omega arith)
more_digits n zero (b ∷ x) h a = absurd (omega arith)
more_digits n (suc k) (b ∷ x) h a =
    rw (digit_yes b a.0) (more_digits n k x (omega arith) a.1 ∙ ap (λ m. inside n (whole m)) (omega arith))

-- A number, from a spot where a first digit may come.
digits_watched : (n : ℕ) (q : Spot) → ((b : ℕ) → Digit b → step (inside n q) b ≡ inside n (whole (most_digits - 1))) → (x : List ℕ) → IsNumber x
    → watch (inside n q) x ≡ inside n (whole (most_digits - length x))
digits_watched n q first [] h = absurd (omega (arith, h.some))
digits_watched n q first (b ∷ x) h =
    ap (λ w. watch w x) (first b h.digits.0)
    ∙ (more_digits n (most_digits - 1) x (omega (arith, h.few)) h.digits.1 ∙ ap (λ m. inside n (whole m)) (omega arith))

pub watch_number : (n : ℕ) (x : List ℕ) → IsNumber x → watch (inside n fresh) x ≡ inside n (whole (most_digits - length x))
watch_number n = digits_watched n fresh (λ b d. rw (digit_yes b d) refl)

pub watch_exponent : (n : ℕ) (x : List ℕ) → IsNumber x → watch (inside n raised) x ≡ inside n (whole (most_digits - length x))
watch_exponent n = digits_watched n raised (λ b d. rw (digit_yes b d) refl)

-- The watch passes a text and finds a whole factor at its end.
pub record Passes (n : ℕ) (x : List ℕ) : Type 0 where
  pub spot : Spot
  pub is_whole : Whole spot
  pub is : watch (inside n fresh) x ≡ inside n spot

passes_joined : (n c : ℕ) (x y : List ℕ) → Leads c → Passes n x → Passes n y → Passes n (x ++ c ∷ y)
passes_joined n c x y leads p q = record {
  spot = q.spot;
  is_whole = q.is_whole;
  is =
      watch_++ (inside n fresh) x (c ∷ y)
      ∙ (ap (λ w. watch (step w c) y) p.is ∙ (ap (λ w. watch w y) (leads n p.spot p.is_whole) ∙ q.is));
}

pub watch_brackets : (n : ℕ) (x : List ℕ) → n < most_brackets → Passes n x
    → watch (inside (suc n) fresh) (left_bracket ∷ x ++ (right_bracket ∷ [])) ≡ inside (suc n) (whole 0)
watch_brackets n x h p =
    let less : ltb n most_brackets ≡ true = grind (arith, nat_tests) in
    watch_++ (inside n fresh) x (right_bracket ∷ [])
    ∙ (ap (λ w. step w right_bracket) p.is
    ∙ (by_close n p.spot p.is_whole ∙ ap (λ b. cond b (inside (suc n) (whole 0)) broken) less))

pub passes : {k : Kind} {n : ℕ} {x : List ℕ} {e : Expression} → Phrase k n x e → n ≤ most_brackets → Passes n x
passes (a_number {n = n} {x = x} h) l = record { spot = whole (most_digits - length x); is_whole = tt; is = watch_number n x h }
passes a_z l = record { spot = lettered; is_whole = tt; is = refl }
passes (a_power {n = n} {x = x} h) l = record { spot = whole (most_digits - length x); is_whole = tt; is = watch_exponent n x h }
passes (in_brackets {n = n} {x = x} p) l =
    record { spot = whole 0; is_whole = tt; is = watch_brackets n x (omega arith) (passes p (omega arith)) }
passes (one_factor p) l = passes p l
passes (times {n = n} {x = x} {y = y} p q) l = passes_joined n times_sign x y times_leads (passes p l) (passes q l)
passes (one_term p) l = passes p l
passes (plus {n = n} {x = x} {y = y} p q) l = passes_joined n plus_sign x y plus_leads (passes p l) (passes q l)
