-- What a token says of the place that it was read at.
use Rattle.std.specs.Prelude.{◌≡◌, ℕ, ◌+◌, ◌<◌, ◌≤◌, List, [], ◌∷◌, length, ◌≢◌, slice_index, MatchOption, Option}
use Rattle.std.specs.List.{between}
use Rattle.expression.specs.Bytes.{Digit, letter_z}
use Rattle.expression.specs.Limits.{most_digits}
use Rattle.expression.specs.Readings.{DigitsTo}
use Rattle.expression.specs.Signs.{sign_byte}
use Rattle.expression.specs.Texts.{Stands}
use Rattle.expression.specs.declared.parts.Part.{Part}
use Rattle.expression.specs.declared.signs.Sign.{Sign}
use Rattle.expression.specs.declared.tokens.Token.{Token}
use Rattle.expression.specs.declared.tokens.Token.TheVariants.{End, Number, Sign as Mark, Word}

-- The part is what the sheet has at i, and its place is i.
pub record PartAt (s : List ℕ) (i : ℕ) (part : Part) : Type 0 where
  pub here : part.place ≡ i
  pub within : i + length part.text.now ≤ length s
  pub is : part.text.now ≡ between i (i + length part.text.now) s

-- The part is this one byte, which the sheet has at i.
pub record ByteAt (byte : ℕ) (s : List ℕ) (i : ℕ) (part : Part) : Type 0 where
  pub placed : PartAt s i part
  pub is : part.text.now ≡ byte ∷ []

abbrev pub TokenAt : List ℕ → ℕ → Token → Type 0
TokenAt s i (Number part) = PartAt s i part × (0 < length part.text.now) × DigitsTo most_digits s i (i + length part.text.now)
TokenAt s i (Word part) = ByteAt letter_z s i part
TokenAt s i (Mark part) = ByteAt (slice_index s i) s i part × (Digit (slice_index s i) → ⊥) × (slice_index s i ≢ letter_z)
TokenAt s i (End place) = (place ≡ i) × (length s ≤ i)

-- The sign's part at i; or the sign does not stand there.
abbrev pub SignTold : Sign → List ℕ → ℕ → Option Part → Type 0
SignTold sign s i r = MatchOption r (Stands (sign_byte sign) s i → ⊥) (ByteAt (sign_byte sign) s i)
