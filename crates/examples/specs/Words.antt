-- Words under the plans.
use Rattle.std.specs.Prelude.{◌≡◌, ℕ, List, [], ◌∷◌, length, Ok, Err}
use Rattle.algebra.specs.Arithmetics.{modulo}
use Rattle.plan.specs.Refusals.{Encoded}
use Rattle.plan.specs.declared.faults.EncodeFault.TheVariants.{MessageLength}
use Rattle.plan.specs.Schemes.{handed_in, joined, message_length, word, word_length}
use Rattle.examples.specs.Plans.{P, Q}

pub record WordExamples : Type 0 where
  -- P is the scheme of its moduli's codes, one after the other
  pub handed : handed_in (modulo 2) 2 (joined P.moduli) ≡ P
  -- N and K of P
  pub seven_codes : word_length P ≡ 7
  pub two_codes : message_length P ≡ 2
  -- 1 + z leaves 1|0|1 1|1 1 0
  pub in_bits : word P (1 ∷ 1 ∷ []) ≡ 1 ∷ 0 ∷ 1 ∷ 1 ∷ 1 ∷ 1 ∷ 0 ∷ []
  -- so it is encoded, whatever the buffer of seven codes held; a message of one code is refused, and the
  -- right length told
  pub encoded :
      (buffer : List ℕ) → length buffer ≡ 7
      → Encoded P (1 ∷ 1 ∷ []) buffer (1 ∷ 0 ∷ 1 ∷ 1 ∷ 1 ∷ 1 ∷ 0 ∷ []) (Ok tt)
  pub not_encoded : (buffer : List ℕ) → Encoded P (1 ∷ []) buffer buffer (Err (MessageLength 2))
  -- the values of 1 + 2z at 0, 1, 2 and 3
  pub in_bytes : word Q (1 ∷ 2 ∷ []) ≡ 1 ∷ 3 ∷ 5 ∷ 7 ∷ []
