-- How expressions are written: a sum is terms joined by `+`, a term is factors joined by `*`, and a factor is
-- a number of one to three digits, `z`, `z^` and such a number, or a sum in brackets.
use Rattle.std.specs.Prelude.{◌≡◌, ℕ, suc, ◌+◌, ◌-◌, ◌*◌, ◌≤◌, List, [], ◌∷◌, ◌++◌, length}
use Rattle.std.specs.List.{AllByRecursion}
use Rattle.expression.specs.Bytes.{Digit, caret, first_digit, left_bracket, letter_z, line_end, plus_sign, right_bracket, times_sign}
use Rattle.expression.specs.Limits.{most_brackets, most_digits}
use Rattle.expression.specs.Values.{Expression, number, power, product_of, sum_of}

-- One digit or more, and at most that many.
pub record IsNumeral (most : ℕ) (x : List ℕ) : Type 0 where
  pub some : 1 ≤ length x
  pub few : length x ≤ most
  pub digits : AllByRecursion Digit x

-- One to three digits.
abbrev pub IsNumber : List ℕ → Type 0
IsNumber x = IsNumeral most_digits x

-- The number that digits write, where n is written before them.
abbrev pub numeral : ℕ → List ℕ → ℕ
numeral n [] = n
numeral n (b ∷ x) = numeral (10 * n + (b - first_digit)) x

pub data Kind : Type 0 where
  factor : Kind
  term : Kind
  sum : Kind

-- Phrase kind n x e: the text x is of the kind, with at most n brackets open together, and writes the expression e.
pub data Phrase : Kind → ℕ → List ℕ → Expression → Type 0 where
  a_number : {n : ℕ} {x : List ℕ} → IsNumber x → Phrase factor n x (number (numeral 0 x))
  a_z : {n : ℕ} → Phrase factor n (letter_z ∷ []) (power 1)
  a_power : {n : ℕ} {x : List ℕ} → IsNumber x → Phrase factor n (letter_z ∷ caret ∷ x) (power (numeral 0 x))
  in_brackets : {n : ℕ} {x : List ℕ} {e : Expression} → Phrase sum n x e → Phrase factor (suc n) (left_bracket ∷ x ++ (right_bracket ∷ [])) e
  one_factor : {n : ℕ} {x : List ℕ} {e : Expression} → Phrase factor n x e → Phrase term n x e
  times : {n : ℕ} {x y : List ℕ} {a b : Expression} → Phrase term n x a → Phrase factor n y b → Phrase term n (x ++ times_sign ∷ y) (product_of a b)
  one_term : {n : ℕ} {x : List ℕ} {e : Expression} → Phrase term n x e → Phrase sum n x e
  plus : {n : ℕ} {x y : List ℕ} {a b : Expression} → Phrase sum n x a → Phrase term n y b → Phrase sum n (x ++ plus_sign ∷ y) (sum_of a b)

-- A line that holds a modulus: a sum, with at most eight brackets open together, and the end of the line.
pub record IsModulusLine (line : List ℕ) (e : Expression) : Type 0 where
  pub text : List ℕ
  pub phrase : Phrase sum most_brackets text e
  pub is : line ≡ text ++ line_end ∷ []

-- A line has one expression.
abbrev pub OneExpression : Type 0
OneExpression = (line : List ℕ) (a b : Expression) → IsModulusLine line a → IsModulusLine line b → a ≡ b
