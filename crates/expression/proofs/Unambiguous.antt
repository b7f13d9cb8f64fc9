-- A line has one expression: a builder, a function of the bytes alone, forms the expression of every line.
use Rattle.std.proofs.Common.{◌≡◌, ℕ, zero, suc, ◌+◌, ◌-◌, ◌*◌, ◌≤◌, false, cond, eqb, List, [], ◌∷◌, ◌++◌, length, sym, refl, ap, ◌∙◌, arith}
use Rattle.std.specs.List.{AllByRecursion}
use Rattle.expression.specs.Bytes.{Digit, caret, first_digit, left_bracket, letter_z, line_end, plus_sign, right_bracket, times_sign}
use Rattle.expression.specs.Grammar.{IsModulusLine, IsNumber, Kind, OneExpression, Phrase, a_number, a_power, a_z, factor, in_brackets, numeral, one_factor, one_term, plus, sum, term, times}
use Rattle.expression.specs.Limits.{most_digits}
use Rattle.expression.specs.Values.{Expression, number, power, product_of, sum_of}
use Rattle.expression.specs.Watch.{is_digit}
use Rattle.expression.proofs.Watching.{digit_yes}

-- The factor in hand: not begun; digits, with what they write of a number, and how many may still come; a z; a z with its caret; or what
-- stood in brackets.
data Hand : Type 0 where
  empty : Hand
  digits : (ℕ → Expression) → ℕ → ℕ → Hand
  letter : Hand
  raised : Hand
  bracketed : Expression → Hand

-- What stands before it, to be joined with it.
data Before : Type 0 where
  none : Before
  so_far : Expression → Before

-- Between two brackets: the sum before the term in hand, and the product before the factor in hand.
record Level : Type 0 where
  terms : Before
  factors : Before

data Builder : Type 0 where
  failed : Builder
  built : Expression → Builder
  building : Hand → Level → List Level → Builder

abbrev first : Level
first = record { terms = none; factors = none }

abbrev added : Before → Expression → Expression
added none e = e
added (so_far a) e = sum_of a e

abbrev multiplied : Before → Expression → Expression
multiplied none e = e
multiplied (so_far a) e = product_of a e

abbrev total : Level → Expression → Expression
total l e = added l.terms (multiplied l.factors e)

-- The expression in hand, once it is whole.
abbrev in_hand : Hand → Expression
in_hand empty = number 0
in_hand (digits written k m) = written m
in_hand letter = power 1
in_hand raised = power 0
in_hand (bracketed e) = e

abbrev closed : Expression → List Level → Builder
closed e [] = failed
closed e (l ∷ ls) = building (bracketed e) l ls

abbrev finished : Expression → List Level → Builder
finished e [] = built e
finished e (l ∷ ls) = failed

-- A sign after a whole factor e.
abbrev signed : Expression → Level → List Level → ℕ → Builder
signed e l ls b =
    cond (eqb b times_sign) (building empty (record { terms = l.terms; factors = so_far (multiplied l.factors e) }) ls)
    (cond (eqb b plus_sign) (building empty (record { terms = so_far (total l e); factors = none }) ls)
    (cond (eqb b right_bracket) (closed (total l e) ls) (cond (eqb b line_end) (finished (total l e) ls) failed)))

abbrev step : Builder → ℕ → Builder
step failed b = failed
step (built e) b = failed
step (building empty l ls) b =
    cond (is_digit b) (building (digits number (most_digits - 1) (10 * 0 + (b - first_digit))) l ls)
    (cond (eqb b letter_z) (building letter l ls) (cond (eqb b left_bracket) (building empty first (l ∷ ls)) failed))
step (building (digits written zero m) l ls) b = signed (written m) l ls b
step (building (digits written (suc k) m) l ls) b =
    cond (is_digit b) (building (digits written k (10 * m + (b - first_digit))) l ls) (signed (written m) l ls b)
step (building letter l ls) b = cond (eqb b caret) (building raised l ls) (signed (power 1) l ls b)
step (building raised l ls) b = cond (is_digit b) (building (digits power (most_digits - 1) (10 * 0 + (b - first_digit))) l ls) failed
step (building (bracketed e) l ls) b = signed e l ls b

abbrev build : Builder → List ℕ → Builder
build w [] = w
build w (b ∷ x) = build (step w b) x

build_++ : (w : Builder) (x y : List ℕ) → build w (x ++ y) ≡ build (build w x) y
build_++ w [] y = refl
build_++ w (b ∷ x) y = build_++ (step w b) x y

-- A whole factor is in hand.
abbrev Whole : Hand → Type 0
Whole empty = ⊥
Whole (digits written k m) = Unit {0}
Whole letter = Unit {0}
Whole raised = ⊥
Whole (bracketed e) = Unit {0}

-- A byte that goes on with no number and no z counts as a sign.
by_sign : (b : ℕ) → is_digit b ≡ false → eqb b caret ≡ false → (h : Hand) → Whole h → (l : Level) (ls : List Level)
    → step (building h l ls) b ≡ signed (in_hand h) l ls b
by_sign b d c empty w l ls = absurd w
by_sign b d c (digits written zero m) w l ls = refl
by_sign b d c (digits written (suc k) m) w l ls = rw d refl
by_sign b d c letter w l ls = rw c refl
by_sign b d c raised w l ls = absurd w
by_sign b d c (bracketed e) w l ls = refl

-- Digits that are few go into the number in hand.
build_digits : (written : ℕ → Expression) (k m : ℕ) (x : List ℕ) (l : Level) (ls : List Level) → length x ≤ k → AllByRecursion Digit x
    → build (building (digits written k m) l ls) x ≡ building (digits written (k - length x) (numeral m x)) l ls
build_digits written k m [] l ls h a = ap (λ j. building (digits written j m) l ls) (omega arith)
build_digits written zero m (b ∷ x) l ls h a = absurd (omega arith)
build_digits written (suc k) m (b ∷ x) l ls h a =
    rw (digit_yes b a.0)
    (build_digits written k (10 * m + (b - first_digit)) x l ls (omega arith) a.1
    ∙ ap (λ j. building (digits written j (numeral (10 * m + (b - first_digit)) x)) l ls) (omega arith))

-- A text leads the builder from an empty hand at one level to a whole factor at another, whose expression is e by `worth`.
record Builds (x : List ℕ) (from : Level) (ls : List Level) (e : Expression) (worth : Level → Expression → Expression) (Kept : Level → Type 0) : Type 0 where
  hand : Hand
  is_whole : Whole hand
  level : Level
  kept : Kept level
  is_worth : worth level (in_hand hand) ≡ e
  is : build (building empty from ls) x ≡ building hand level ls

-- A factor leaves the level as it is, a term its sum, and a sum nothing.
abbrev Formed : Kind → List ℕ → Expression → Type 0
Formed factor x e = (l : Level) (ls : List Level) → Builds x l ls e (λ _ a. a) (λ m. m ≡ l)
Formed term x e =
    (t : Before) (ls : List Level)
    → Builds x (record { terms = t; factors = none }) ls e (λ m a. multiplied m.factors a) (λ m. m.terms ≡ t)
Formed sum x e = (ls : List Level) → Builds x first ls e total (λ _. Unit {0})

formed_number : (x : List ℕ) → IsNumber x → Formed factor x (number (numeral 0 x))
formed_number [] h l ls = absurd (omega (arith, h.some))
formed_number (b ∷ x) h l ls = record {
  hand = digits number (2 - length x) (numeral 0 (b ∷ x));
  is_whole = tt;
  level = l;
  kept = refl;
  is_worth = refl;
  is = rw (digit_yes b h.digits.0) (build_digits number 2 (10 * 0 + (b - first_digit)) x l ls (omega (arith, h.few)) h.digits.1);
}

formed_power : (x : List ℕ) → IsNumber x → Formed factor (letter_z ∷ caret ∷ x) (power (numeral 0 x))
formed_power [] h l ls = absurd (omega (arith, h.some))
formed_power (b ∷ x) h l ls = record {
  hand = digits power (2 - length x) (numeral 0 (b ∷ x));
  is_whole = tt;
  level = l;
  kept = refl;
  is_worth = refl;
  is = rw (digit_yes b h.digits.0) (build_digits power 2 (10 * 0 + (b - first_digit)) x l ls (omega (arith, h.few)) h.digits.1);
}

formed_brackets : (x : List ℕ) (e : Expression) → Formed sum x e → Formed factor (left_bracket ∷ x ++ (right_bracket ∷ [])) e
formed_brackets x e g l ls =
    let b = g (l ∷ ls) in
    record {
      hand = bracketed e;
      is_whole = tt;
      level = l;
      kept = refl;
      is_worth = refl;
      is =
          build_++ (building empty first (l ∷ ls)) x (right_bracket ∷ [])
          ∙ (ap (λ w. step w right_bracket) b.is
          ∙ (by_sign right_bracket refl refl b.hand b.is_whole b.level (l ∷ ls) ∙ ap (λ a. building (bracketed a) l ls) b.is_worth));
    }

formed_term : (x : List ℕ) (e : Expression) → Formed factor x e → Formed term x e
formed_term x e g t ls =
    let b = g (record { terms = t; factors = none }) ls in
    record {
      hand = b.hand;
      is_whole = b.is_whole;
      level = b.level;
      kept = ap (λ (m : Level). m.terms) b.kept;
      is_worth = ap (λ (m : Level). multiplied m.factors (in_hand b.hand)) b.kept ∙ b.is_worth;
      is = b.is;
    }

formed_sum : (x : List ℕ) (e : Expression) → Formed term x e → Formed sum x e
formed_sum x e g ls =
    let b = g none ls in
    record {
      hand = b.hand;
      is_whole = b.is_whole;
      level = b.level;
      kept = tt;
      is_worth = ap (λ t. added t (multiplied b.level.factors (in_hand b.hand))) b.kept ∙ b.is_worth;
      is = b.is;
    }

formed_times : (x y : List ℕ) (a e : Expression) → Formed term x a → Formed factor y e → Formed term (x ++ times_sign ∷ y) (product_of a e)
formed_times x y a e g h t ls =
    let b = g t ls in
    let next : Level = record { terms = t; factors = so_far a } in
    let c = h next ls in
    record {
      hand = c.hand;
      is_whole = c.is_whole;
      level = c.level;
      kept = ap (λ (m : Level). m.terms) c.kept;
      is_worth = ap (λ (m : Level). multiplied m.factors (in_hand c.hand)) c.kept ∙ ap (product_of a) c.is_worth;
      is =
          build_++ (building empty (record { terms = t; factors = none }) ls) x (times_sign ∷ y)
          ∙ (ap (λ w. build (step w times_sign) y) b.is
          ∙ (ap (λ w. build w y)
          (by_sign times_sign refl refl b.hand b.is_whole b.level ls
          ∙ (ap (λ u. building empty (record { terms = u; factors = so_far (multiplied b.level.factors (in_hand b.hand)) }) ls) b.kept
          ∙ ap (λ u. building empty (record { terms = t; factors = so_far u }) ls) b.is_worth))
          ∙ c.is));
    }

formed_plus : (x y : List ℕ) (a e : Expression) → Formed sum x a → Formed term y e → Formed sum (x ++ plus_sign ∷ y) (sum_of a e)
formed_plus x y a e g h ls =
    let b = g ls in
    let c = h (so_far a) ls in
    record {
      hand = c.hand;
      is_whole = c.is_whole;
      level = c.level;
      kept = tt;
      is_worth = ap (λ t. added t (multiplied c.level.factors (in_hand c.hand))) c.kept ∙ ap (sum_of a) c.is_worth;
      is =
          build_++ (building empty first ls) x (plus_sign ∷ y)
          ∙ (ap (λ w. build (step w plus_sign) y) b.is
          ∙ (ap (λ w. build w y)
          (by_sign plus_sign refl refl b.hand b.is_whole b.level ls
          ∙ ap (λ u. building empty (record { terms = so_far u; factors = none }) ls) b.is_worth)
          ∙ c.is));
    }

formed : {k : Kind} {n : ℕ} {x : List ℕ} {e : Expression} → Phrase k n x e → Formed k x e
formed (a_number {x = x} h) = formed_number x h
formed a_z = λ l ls. record { hand = letter; is_whole = tt; level = l; kept = refl; is_worth = refl; is = refl }
formed (a_power {x = x} h) = formed_power x h
formed (in_brackets {x = x} {e = e} p) = formed_brackets x e (formed p)
formed (one_factor {x = x} {e = e} p) = formed_term x e (formed p)
formed (times {x = x} {y = y} {a = a} {b = b} p q) = formed_times x y a b (formed p) (formed q)
formed (one_term {x = x} {e = e} p) = formed_sum x e (formed p)
formed (plus {x = x} {y = y} {a = a} {b = b} p q) = formed_plus x y a b (formed p) (formed q)

-- The builder makes the expression of the line.
line_built : (line : List ℕ) (e : Expression) → IsModulusLine line e → build (building empty first []) line ≡ built e
line_built line e l =
    let b = formed l.phrase [] in
    ap (build (building empty first [])) l.is
    ∙ (build_++ (building empty first []) l.text (line_end ∷ [])
    ∙ (ap (λ w. step w line_end) b.is ∙ (by_sign line_end refl refl b.hand b.is_whole b.level [] ∙ ap built b.is_worth)))

pub one_expression : OneExpression
one_expression line a b p q = let same : built a ≡ built b = sym (line_built line a p) ∙ line_built line b q in cc
