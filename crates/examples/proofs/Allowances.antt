-- When a message lies within an account, and when no message of two bits does.
use Rattle.std.proofs.Common.{◌≡◌, ℕ, zero, suc, ◌<◌, List, [], ◌∷◌, length, pos, ◌≤ℤ◌, arith}
use Rattle.algebra.specs.Field.{FieldLaws}
use Rattle.algebra.specs.Polynomial.{coefficients}
use Rattle.plan.specs.Accounts.{Account, Within, margin}
use Rattle.plan.specs.Schemes.{Scheme, message_length}
use Rattle.examples.proofs.Places.{AllCodes, all_codes}

-- A message lies within an account if its length, its codes and its margin pass.
pub lies_within : (s : Scheme) → FieldLaws s.arithmetic → (account : Account) (message : List ℕ) → length message ≡ message_length s
    → AllCodes s.arithmetic message → pos 0 ≤ℤ margin s account message → Within s account message
lies_within s L account message long codes enough =
    record { is_message = record { long = long; codes = all_codes s.arithmetic L message codes }; margin_enough = enough }

-- What holds of the four lists of two bits holds of every message of two bits.
two_bits : (P : List ℕ → Type 0) → P (0 ∷ 0 ∷ []) → P (0 ∷ 1 ∷ []) → P (1 ∷ 0 ∷ []) → P (1 ∷ 1 ∷ [])
    → (message : List ℕ) → length message ≡ 2 → ((i : ℕ) → coefficients message i < 2) → P message
two_bits P p q r s (zero ∷ zero ∷ []) long codes = p
two_bits P p q r s (zero ∷ suc zero ∷ []) long codes = q
two_bits P p q r s (suc zero ∷ zero ∷ []) long codes = r
two_bits P p q r s (suc zero ∷ suc zero ∷ []) long codes = s
two_bits P p q r s [] long codes = absurd (omega arith)
two_bits P p q r s (x ∷ []) long codes = absurd (omega arith)
two_bits P p q r s (x ∷ y ∷ m ∷ ms) long codes = absurd (omega arith)
two_bits P p q r s (suc (suc x) ∷ y ∷ []) long codes = absurd (omega (arith, codes 0))
two_bits P p q r s (zero ∷ suc (suc y) ∷ []) long codes = absurd (omega (arith, codes 1))
two_bits P p q r s (suc zero ∷ suc (suc y) ∷ []) long codes = absurd (omega (arith, codes 1))

-- Under a scheme over bits with K = 2, no message lies within an account for which the margins of all four are negative.
pub none_within : (s : Scheme) (account : Account) → s.arithmetic.order ≡ 2 → message_length s ≡ 2
    → ¬ (pos 0 ≤ℤ margin s account (0 ∷ 0 ∷ [])) → ¬ (pos 0 ≤ℤ margin s account (0 ∷ 1 ∷ []))
    → ¬ (pos 0 ≤ℤ margin s account (1 ∷ 0 ∷ [])) → ¬ (pos 0 ≤ℤ margin s account (1 ∷ 1 ∷ []))
    → (message : List ℕ) → ¬ (Within s account message)
none_within s account q k a b c d message within =
    two_bits (λ m. ¬ (pos 0 ≤ℤ margin s account m)) a b c d message (omega (arith, within.is_message.long))
    (λ i. omega (arith, within.is_message.codes i)) within.margin_enough
