-- Inner: no public contract cites this.
-- What the readers of small parts answer.
use Rattle.std.specs.Prelude.{◌≡◌, ◌≢◌, ℕ, ◌<◌, List, length, slice_index, MatchResult, Result}
use Rattle.expression.specs.Fields.{field_word}
use Rattle.expression.specs.Signs.{sign_byte}
use Rattle.expression.specs.Texts.{Got, Lost}
use Rattle.expression.specs.Tokens.{ByteAt}
use Rattle.expression.specs.declared.names.FieldName.{FieldName}
use Rattle.expression.specs.declared.parsed.Parsed.{Parsed}
use Rattle.expression.specs.declared.parsed.Stop.{Stop}
use Rattle.expression.specs.declared.parts.Part.{Part}
use Rattle.expression.specs.declared.signs.Sign.{Sign}
use Rattle.sheet.specs.Grammar.{IsCount, IsFieldLine}
use Rattle.sheet.specs.Tables.{NamedAt}
use Rattle.sheet.specs.declared.words.Named.{Named}

-- Some count in its range.
abbrev pub AnyCount : ℕ → ℕ → List ℕ → Type 0
AnyCount least most line = (n : ℕ) × IsCount least most line n

abbrev pub AnyFieldLine : List ℕ → Type 0
AnyFieldLine line = (name : FieldName) × IsFieldLine line name

-- The sign stands at i; or it does not, and there it stops.
abbrev pub SignTold : Sign → List ℕ → ℕ → Result Part Stop → Type 0
SignTold sign s i r =
    MatchResult r (ByteAt (sign_byte sign) s i)
    (λ stop. (i < length s → slice_index s i ≢ sign_byte sign) × (stop.place ≡ i))

-- From i on stands a line of the kind; or the first place where no such line goes on.
abbrev pub CountTold : (least most : ℕ) → List ℕ → ℕ → Result (Parsed ℕ) Stop → Type 0
CountTold least most s i r =
    MatchResult r (λ line. Got (λ x. IsCount least most x line.value) s i line.end)
    (λ stop. Lost (AnyCount least most) s i stop.place)

abbrev pub FieldLineTold : List ℕ → ℕ → Result (Parsed FieldName) Stop → Type 0
FieldLineTold s i r =
    MatchResult r (λ line. Got (λ x. IsFieldLine x line.value) s i line.end) (λ stop. Lost AnyFieldLine s i stop.place)

-- The name of a field alone.
abbrev pub FieldNameTold : List ℕ → ℕ → Result (Named FieldName) Stop → Type 0
FieldNameTold s i r =
    MatchResult r (NamedAt (λ x name. x ≡ field_word name) s i) (λ stop. Lost AnyFieldLine s i stop.place)
