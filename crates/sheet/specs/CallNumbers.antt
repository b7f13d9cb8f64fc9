-- Inner: no public contract cites this.
-- What reading the numbers of a call answers.
use Rattle.std.specs.Prelude.{◌≡◌, ℕ, ◌+◌, ◌<◌, ◌≤◌, ◌⊎◌, List, [], ◌∷◌, ◌++◌, length, MatchResult, vec_items, Result, ◌≢◌, slice_index}
use Rattle.std.specs.Global.{Vec}
use Rattle.std.specs.List.{between}
use Rattle.expression.specs.Bytes.{Digit, blank_byte}
use Rattle.expression.specs.Grammar.{numeral}
use Rattle.expression.specs.declared.parsed.Parsed.{Parsed}
use Rattle.expression.specs.declared.parsed.Stop.{Stop}
use Rattle.expression.specs.declared.parts.Part.{Part}
use Rattle.sheet.specs.Grammar.{IsCallNumber}
use Rattle.sheet.specs.Limits.{most_call_digits}
use Rattle.sheet.specs.declared.numbers.Heading.{Heading}

-- From i to j stands a blank and a number, which is x in digits, and which the byte at j does not carry on.
pub record NumberText (s : List ℕ) (i j : ℕ) (x : List ℕ) : Type 0 where
  pub more : i < j
  pub within : j ≤ length s
  pub is : between i j s ≡ blank_byte ∷ x
  pub number : IsCallNumber x
  pub stops : length x < most_call_digits → j < length s → Digit (slice_index s j) → ⊥

-- No blank stands at i; or one does, and no digit after it. p is where what should stand there does not.
abbrev pub NoBlank : List ℕ → ℕ → Type 0
NoBlank s i = (i ≤ length s) × (i < length s → slice_index s i ≢ blank_byte)

abbrev pub NoDigit : List ℕ → ℕ → Type 0
NoDigit s i = (i < length s) × (slice_index s i ≡ blank_byte) × (i + 1 < length s → Digit (slice_index s (i + 1)) → ⊥)

abbrev pub NoNumber : List ℕ → ℕ → ℕ → Type 0
NoNumber s i p = ((p ≡ i) × NoBlank s i) ⊎ ((p ≡ i + 1) × NoDigit s i)

abbrev pub DigitsTold : List ℕ → ℕ → Result Part Stop → Type 0
DigitsTold s i r = MatchResult r (λ part. NumberText s i (part.place + length part.text.now) part.text.now) (λ stop. NoNumber s i stop.place)

-- From i to j stands a blank and a number.
pub record NumberAt (s : List ℕ) (i j n : ℕ) : Type 0 where
  pub digits : List ℕ
  pub text : NumberText s i j digits
  pub value : n ≡ numeral 0 digits

abbrev pub NumberTold : List ℕ → ℕ → Result (Parsed ℕ) Stop → Type 0
NumberTold s i r = MatchResult r (λ number. NumberAt s i number.end number.value) (λ stop. NoNumber s i stop.place)

-- From i to j stand numbers, each after its blank and read as far as it goes.
pub data NumbersAt (s : List ℕ) (i : ℕ) : ℕ → List ℕ → Type 0 where
  none_at : i ≤ length s → NumbersAt s i i []
  one_more_at : {j k n : ℕ} {ns : List ℕ} → NumbersAt s i j ns → NumberAt s j k n → NumbersAt s i k (ns ++ n ∷ [])

-- From i on stand numbers, and the next one is wanting at p: fewer than `least` of them and no blank, or
-- fewer than `most` and no digit after the blank.
pub record NumbersLost (least most : ℕ) (s : List ℕ) (i p : ℕ) : Type 0 where
  pub j : ℕ
  pub ns : List ℕ
  pub before : NumbersAt s i j ns
  pub wants : ((length ns < least) × (p ≡ j) × NoBlank s j) ⊎ ((length ns < most) × (p ≡ j + 1) × NoDigit s j)

-- The numbers are over at j, of which there are n: there may be no more, or no blank stands there.
abbrev pub Over : ℕ → ℕ → List ℕ → ℕ → Type 0
Over most n s j = n < most → NoBlank s j

abbrev pub HeadingAt : List ℕ → ℕ → Heading → ℕ → Type 0
HeadingAt s i heading j = NumbersAt s i j (heading.channel ∷ heading.slot ∷ [])

abbrev pub HeadingTold : List ℕ → ℕ → Result (Parsed Heading) Stop → Type 0
HeadingTold s i r = MatchResult r (λ heading. HeadingAt s i heading.value heading.end) (λ stop. NumbersLost 2 2 s i stop.place)

pub record CodesAt (s : List ℕ) (i most : ℕ) (j : ℕ) (ns : List ℕ) : Type 0 where
  pub numbers : NumbersAt s i j ns
  pub few : length ns ≤ most
  pub over : Over most (length ns) s j

abbrev pub CodesTold : List ℕ → ℕ → ℕ → Result (Parsed (Vec ℕ)) Stop → Type 0
CodesTold s i most r =
    MatchResult r (λ row. CodesAt s i most row.end (vec_items row.value)) (λ stop. NumbersLost 0 most s i stop.place)
