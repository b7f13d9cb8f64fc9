-- What has arrived of a word, and how far a message is from it.
use Rattle.std.specs.Prelude.{◌≡◌, ℕ, zero, suc, ◌+◌, ◌*◌, ◌<◌, Bool, true, false, cond, ◌&&◌, List, [], ◌∷◌, length, ℤ, pos, negsuc, ◌+ℤ◌, ◌-ℤ◌, ◌≤ℤ◌, Some, None, Option, ◌==◌}
use Rattle.algebra.specs.Field.{FieldLaws}
use Rattle.algebra.specs.Polynomial.{coefficients}
use Rattle.plan.specs.Schemes.{Scheme, IsScheme, IsMessage, positions, degree, residue, word_length, message_length}

-- An account gives each position a residue, or calls it missing; what it says past the last position counts
-- for nothing.
abbrev pub Account : Type 0
Account = ℕ → Option (List ℕ)

-- Two residues are the same, code by code.
abbrev pub same : List ℕ → List ℕ → Bool
same [] [] = true
same [] (y ∷ ys) = false
same (x ∷ xs) [] = false
same (x ∷ xs) (y ∷ ys) = x == y && same xs ys

-- The sum of an amount for each of the first n positions.
abbrev pub over_positions : (ℕ → ℕ) → ℕ → ℕ
over_positions amount zero = 0
over_positions amount (suc n) = over_positions amount n + amount n

module _ (s : Scheme) where
  -- What a position takes from the redundancy by being missing: its degree.
  abbrev pub lost : ℕ → Option (List ℕ) → ℕ
  lost i None = degree s i
  lost i (Some y) = 0

  -- What a present residue costs a message: the position's degree where it differs from the residue in the
  -- message's word.
  abbrev pub charge : List ℕ → ℕ → Option (List ℕ) → ℕ
  charge message i None = 0
  charge message i (Some y) = cond (same y (residue s message i)) 0 (degree s i)

  -- R, the degrees of the missing positions.
  abbrev pub missing : Account → ℕ
  missing account = over_positions (λ i. lost i (account i)) (positions s)

  -- e, the degrees of the present positions whose residue differs from the message's.
  abbrev pub wrong : Account → List ℕ → ℕ
  wrong account message = over_positions (λ i. charge message i (account i)) (positions s)

  -- The margin N - K - R - 2e.
  abbrev pub margin : Account → List ℕ → ℤ
  margin account message =
      pos (word_length s) -ℤ pos (message_length s) -ℤ pos (missing account) -ℤ pos (2 * wrong account message)

  -- The message lies within the allowance of the account.
  pub record Within (account : Account) (message : List ℕ) : Type 0 where
    pub is_message : IsMessage s message
    pub margin_enough : pos 0 ≤ℤ margin account message

-- A message lies within the allowance of its own word, nothing missing: so every message can be read. This
-- asks no law of the field.
abbrev pub OwnWordWithin : Type 0
OwnWordWithin =
    (s : Scheme) → IsScheme s → (message : List ℕ) → IsMessage s message → Within s (λ i. Some (residue s message i)) message

-- At most one message lies within the allowance of an account.
abbrev pub OneWithin : Type 0
OneWithin =
    (s : Scheme) → FieldLaws s.arithmetic → IsScheme s → (account : Account) (a b : List ℕ)
    → Within s account a → Within s account b → a ≡ b

-- The margins of two different messages sum to -2 or less.
abbrev pub MarginsApart : Type 0
MarginsApart =
    (s : Scheme) → FieldLaws s.arithmetic → IsScheme s → (account : Account) (a b : List ℕ)
    → IsMessage s a → IsMessage s b → ¬ (a ≡ b) → (margin s account a +ℤ margin s account b) ≤ℤ negsuc 1

-- What position i may hold in a word: as many numbers as its degree, all of them codes of the field.
pub record FitsPosition (s : Scheme) (i : ℕ) (y : List ℕ) : Type 0 where
  pub long : length y ≡ degree s i
  pub codes : (j : ℕ) → coefficients y j < s.arithmetic.order

-- A residue of another length, or with a number of q or more, is wrong for every message: it is charged the
-- position's degree.
abbrev pub MisfitIsWrong : Type 0
MisfitIsWrong =
    (s : Scheme) → FieldLaws s.arithmetic → (i : ℕ) (y : List ℕ) → ¬ (FitsPosition s i y)
    → (message : List ℕ) → charge s message i (Some y) ≡ degree s i
