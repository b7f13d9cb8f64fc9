-- A word holds the remainders of its message: by the relation of division, whatever computes them.
use Rattle.std.specs.Prelude.{◌≡◌, ℕ, ◌<◌, List, length, take, drop}
use Rattle.algebra.specs.Field.{FieldLaws}
use Rattle.algebra.specs.Polynomial.{coefficients}
use Rattle.algebra.specs.Remainder.{IsRemainder}
use Rattle.plan.specs.Refusals.{AreCodes}
use Rattle.plan.specs.Schemes.{Scheme, IsScheme, degree, modulus, positions, residue, start, word}

-- r is the remainder of the message by modulus i: message = quotient · modulus + r, and r is of lower degree
-- than the modulus.
abbrev pub RemainderAt : Scheme → List ℕ → ℕ → (ℕ → ℕ) → Type 0
RemainderAt s message i r = IsRemainder s.arithmetic (degree s i) (coefficients (modulus s i)) (coefficients message) r

-- Position i of the message's word: as many codes as its modulus has degree, which are that remainder, the
-- only one there is; and the word has them from the start of the position on.
pub record HoldsRemainder (s : Scheme) (message : List ℕ) (i : ℕ) : Type 0 where
  pub long : length (residue s message i) ≡ degree s i
  pub is : RemainderAt s message i (coefficients (residue s message i))
  pub only : (r : ℕ → ℕ) → RemainderAt s message i r → r ≡ coefficients (residue s message i)
  pub part : take (degree s i) (drop (start s i) (word s message)) ≡ residue s message i

-- So it is under every lawful scheme over every field, for every message, of any length.
abbrev pub WordHoldsRemainders : Type 0
WordHoldsRemainders =
    (s : Scheme) → FieldLaws s.arithmetic → IsScheme s → (message : List ℕ) → AreCodes s.arithmetic message
    → (i : ℕ) → i < positions s → HoldsRemainder s message i
