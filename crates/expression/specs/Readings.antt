-- Inner, but for `DigitsTo`, which the contract of `digits_end` cites: no other public contract cites this.
-- What the readers of a sum, a term and a factor promise each other: what was read, or where reading stopped.
use Rattle.std.specs.Prelude.{◌≡◌, ℕ, ◌+◌, ◌<◌, ◌≤◌, ◌⊎◌, List, ◌++◌, length, MatchResult, Result, slice_index}
use Rattle.std.specs.List.{between, AllByRecursion}
use Rattle.algebra.specs.Field.{Arithmetic}
use Rattle.expression.specs.Bytes.{Digit, line_end, plus_sign, right_bracket, times_sign}
use Rattle.expression.specs.Grammar.{Kind, Phrase, factor, sum, term}
use Rattle.expression.specs.Fields.{arithmetic_of}
use Rattle.expression.specs.Values.{Expression, Value, value}
use Rattle.expression.specs.Watch.{broken, fresh, inside, watch}
use Rattle.expression.specs.declared.cursors.Cursor.{Cursor}
use Rattle.expression.specs.declared.parsed.Parsed.{Parsed}
use Rattle.expression.specs.declared.parsed.Stop.{Stop}
use Rattle.expression.specs.declared.scopes.Scope.{Scope}

-- The bytes that may stand after a phrase of the kind and belong to no longer one.
abbrev AfterSum : ℕ → Type 0
AfterSum b = (b ≡ right_bracket) ⊎ (b ≡ line_end)

abbrev AfterTerm : ℕ → Type 0
AfterTerm b = (b ≡ plus_sign) ⊎ AfterSum b

abbrev pub Follows : Kind → ℕ → Type 0
Follows factor b = (b ≡ times_sign) ⊎ AfterTerm b
Follows term b = AfterTerm b
Follows sum b = AfterSum b

-- From i to j stands a phrase of the kind, and the codes are its value; the byte at j may stand after one of
-- the kind `follow`, or with it no line goes on.
pub record Reading (kind follow : Kind) (f : Arithmetic) (n : ℕ) (s : List ℕ) (i j : ℕ) (codes : Value) : Type 0 where
  pub expression : Expression
  pub more : i < j
  pub within : j ≤ length s
  pub phrase : Phrase kind n (between i j s) expression
  pub value_is : codes ≡ value f expression
  pub stops : j < length s → Follows follow (slice_index s j) ⊎ (watch (inside n fresh) (between i (j + 1) s) ≡ broken)

-- From i to p the bytes begin a phrase of the kind, and with the byte at p no line goes on.
pub record Stopped (kind : Kind) (n : ℕ) (s : List ℕ) (i p : ℕ) : Type 0 where
  pub more : i ≤ p
  pub within : p ≤ length s
  pub rest : List ℕ
  pub expression : Expression
  pub phrase : Phrase kind n (between i p s ++ rest) expression
  pub ends : p < length s → watch (inside n fresh) (between i (p + 1) s) ≡ broken

-- What a reader of phrases of the kind answers at a cursor.
abbrev pub Reads : Kind → Scope → Cursor → Result (Parsed Value) Stop → Type 0
Reads kind scope at result =
    MatchResult result (λ p. Reading kind kind (arithmetic_of scope.field) scope.left at.sheet.now at.place p.end p.value)
    (λ stop. Stopped kind scope.left at.sheet.now at.place stop.place)

-- From i to j stand digits, at most that many, and no more of them could be taken.
pub record DigitsTo (most : ℕ) (s : List ℕ) (i j : ℕ) : Type 0 where
  pub more : i ≤ j
  pub few : j ≤ i + most
  pub within : j ≤ length s
  pub digits : AllByRecursion Digit (between i j s)
  pub stops : j < i + most → j < length s → Digit (slice_index s j) → ⊥
