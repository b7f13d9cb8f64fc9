-- Factors read from tokens: a token's part is what the sheet has at the place that it was asked at.
use Rattle.std.proofs.Common.{◌≡◌, ℕ, ◌+◌, ◌<◌, List, length, get_or, sym, refl, ap, ◌∙◌, subst, arith}
use Rattle.algebra.specs.Field.{Arithmetic}
use Rattle.expression.specs.Bytes.{Digit, caret, letter_z}
use Rattle.expression.specs.Grammar.{factor, numeral}
use Rattle.expression.specs.Limits.{most_digits}
use Rattle.expression.specs.Readings.{DigitsTo, Reading}
use Rattle.expression.specs.Tokens.{ByteAt, PartAt, TokenAt}
use Rattle.expression.specs.Values.{Value, number_value, power_value}
use Rattle.expression.specs.declared.parts.Part.{Part}
use Rattle.expression.specs.declared.tokens.Token.{Token}
use Rattle.expression.specs.declared.tokens.Token.TheVariants.{End, Number, Sign, Word}
use Rattle.expression.proofs.Factors.{number_read, power_read}
use Rattle.expression.proofs.Moved.{byte_there}

pub number_placed : (f : Arithmetic) (n : ℕ) {s : List ℕ} {i j : ℕ} {part : Part} {codes : Value} → PartAt s i part → 0 < length part.text.now
    → DigitsTo most_digits s i (i + length part.text.now) → j ≡ part.place + length part.text.now → codes ≡ number_value f (numeral 0 part.text.now)
    → Reading factor factor f n s i j codes
number_placed f n {s} {i} {j} {part} {codes} p some d at e =
    subst (λ m. Reading factor factor f n s i m codes) (sym (at ∙ ap (λ m. m + length part.text.now) p.here))
    (subst (Reading factor factor f n s i (i + length part.text.now)) (sym (e ∙ ap (λ x. number_value f (numeral 0 x)) p.is))
    (number_read f n s i (i + length part.text.now) (omega arith) d))

pub power_placed : (f : Arithmetic) (n : ℕ) {s : List ℕ} {i j : ℕ} {part : Part} {codes : Value} → get_or s i 0 ≡ letter_z → get_or s (i + 1) 0 ≡ caret
    → PartAt s (i + 2) part → 0 < length part.text.now → DigitsTo most_digits s (i + 2) (i + 2 + length part.text.now) → j ≡ part.place + length part.text.now
    → codes ≡ power_value (numeral 0 part.text.now) → Reading factor factor f n s i j codes
power_placed f n {s} {i} {j} {part} {codes} l c p some d at e =
    subst (λ m. Reading factor factor f n s i m codes) (sym (at ∙ ap (λ m. m + length part.text.now) p.here))
    (subst (Reading factor factor f n s i (i + 2 + length part.text.now)) (sym (e ∙ ap (λ x. power_value (numeral 0 x)) p.is))
    (power_read f n s i (i + 2 + length part.text.now) l c (omega arith) d))

-- Another token than a number begins with no digit.
pub no_number : (s : List ℕ) (i : ℕ) (t : Token) → TokenAt s i t → ((part : Part) → t ≡ Number part → ⊥) → i < length s → Digit (get_or s i 0) → ⊥
no_number s i (Number part) told not h d = not part refl
no_number s i (Word part) p not h d = let (there, _) = byte_there p refl in omega (arith, there.1, d)
no_number s i (Sign part) (_, no_digit, _) not h d = no_digit d
no_number s i (End place) (_, past) not h d = omega arith

-- The one byte of a sign, where a test tells it.
pub sign_is : {s : List ℕ} {i b c d : ℕ} {part : Part} → ByteAt b s i part → get_or part.text.now 0 0 ≡ d → d ≡ c → ByteAt c s i part
sign_is {s} {i} {part = part} p e f = subst (λ b. ByteAt b s i part) (sym (ap (λ x. get_or x 0 0) p.is) ∙ (e ∙ f)) p
