-- No message lies within the allowance of 1|3|0|0 under Q. Beside a message near enough at most one of the four residues is wrong, so that
-- the first two are right or the last two. The first two are those of 1 + 2z and the last two those of 0, and of no other message; but both
-- are too far.
use Rattle.std.proofs.Common.{◌≡◌, ℕ, zero, suc, ◌+◌, ◌*◌, ◌<◌, Bool, true, false, cond, eqb, ◌⊎◌, List, [], ◌∷◌, length, pos, ◌-ℤ◌, ◌≤ℤ◌, Some, None, refl, subst, inl, inr, arith}
use Rattle.algebra.specs.Arithmetics.{byte_arithmetic}
use Rattle.algebra.specs.BitPolynomials.{byte_product, carry_less, reduce}
use Rattle.algebra.specs.Moduli.{one}
use Rattle.algebra.specs.Polynomial.{ShareFactor, add, coefficients, multiply}
use Rattle.algebra.specs.Remainder.{remainder}
use Rattle.algebra.proofs.Bytes.{bytes}
use Rattle.algebra.proofs.Computed.{all_below}
use Rattle.plan.specs.Accounts.{Account, Within, same}
use Rattle.plan.specs.Schemes.{AreModuli, Clash, IsScheme, residue}
use Rattle.plan.proofs.Uniqueness.{one_within}
use Rattle.examples.specs.Plans.{Q, z, z+1, z+2, z+3}
use Rattle.examples.specs.Readings.{arrived, two_changed}
use Rattle.examples.proofs.Allowances.{lies_within}
use Rattle.examples.proofs.Places.{AllCodes, is_modulus, not_shared_by_places}

moduli : AreModuli Q
moduli zero l = is_modulus byte_arithmetic bytes z 1 refl refl (omega arith) refl
moduli (suc zero) l = is_modulus byte_arithmetic bytes z+1 1 refl refl (omega arith) refl
moduli (suc (suc zero)) l = is_modulus byte_arithmetic bytes z+2 1 refl refl (omega arith) refl
moduli (suc (suc (suc zero))) l = is_modulus byte_arithmetic bytes z+3 1 refl refl (omega arith) refl
moduli (suc (suc (suc (suc i)))) l = absurd (omega arith)

-- k · (z + c) + k · (z + d) = 1 where k is the inverse of c + d: 1 of 1, 142 of 2 and 244 of 3.
not_shared : (ms ns : List ℕ) (k : ℕ) → length ms ≡ 9 → length ns ≡ 9 → AllCodes byte_arithmetic ms → AllCodes byte_arithmetic ns
    → AllCodes byte_arithmetic (k ∷ [])
    → all_below (λ i. eqb (add byte_arithmetic (multiply byte_arithmetic (coefficients (k ∷ [])) (coefficients ms)) (multiply byte_arithmetic (coefficients (k ∷ [])) (coefficients ns)) i) (one i)) 10 ≡ true
    → ¬ (ShareFactor byte_arithmetic (coefficients ms) (coefficients ns))
not_shared ms ns k l g hm hn hk =
    not_shared_by_places byte_arithmetic bytes ms ns (k ∷ []) (k ∷ []) hm hn hk hk 9 (omega (arith, l)) (omega (arith, g))

apart : (i j : ℕ) → i < j → j < 4 → ¬ (Clash Q i j)
unfolding byte_product carry_less reduce multiply
apart i zero l h = absurd (omega arith)
apart zero (suc zero) l h = not_shared z z+1 1 refl refl refl refl refl refl
apart (suc i) (suc zero) l h = absurd (omega arith)
apart zero (suc (suc zero)) l h = not_shared z z+2 142 refl refl refl refl refl refl
apart (suc zero) (suc (suc zero)) l h = not_shared z+1 z+2 244 refl refl refl refl refl refl
apart (suc (suc i)) (suc (suc zero)) l h = absurd (omega arith)
apart zero (suc (suc (suc zero))) l h = not_shared z z+3 244 refl refl refl refl refl refl
apart (suc zero) (suc (suc (suc zero))) l h = not_shared z+1 z+3 142 refl refl refl refl refl refl
apart (suc (suc zero)) (suc (suc (suc zero))) l h = not_shared z+2 z+3 1 refl refl refl refl refl refl
apart (suc (suc (suc i))) (suc (suc (suc zero))) l h = absurd (omega arith)
apart i (suc (suc (suc (suc j)))) l h = absurd (omega arith)

lawful : IsScheme Q
lawful =
    record {
      enough = omega arith;
      few = omega arith;
      carrying = omega arith;
      spare = omega arith;
      moduli_lawful = moduli;
      short = omega arith;
      apart = apart;
    }

abbrev first_two : Account
first_two = arrived (Some (1 ∷ []) ∷ Some (3 ∷ []) ∷ None ∷ None ∷ [])

abbrev last_two : Account
last_two = arrived (None ∷ None ∷ Some (0 ∷ []) ∷ Some (0 ∷ []) ∷ [])

-- With one wrong residue at most, one of the pairs is right.
right_pair : (p q r s : Bool)
    → pos 0 ≤ℤ (pos 4 -ℤ pos 2 -ℤ pos 0 -ℤ pos (2 * (0 + cond p 0 1 + cond q 0 1 + cond r 0 1 + cond s 0 1)))
    → (pos 0 ≤ℤ (pos 4 -ℤ pos 2 -ℤ pos 2 -ℤ pos (2 * (0 + cond p 0 1 + cond q 0 1 + 0 + 0))))
    ⊎ (pos 0 ≤ℤ (pos 4 -ℤ pos 2 -ℤ pos 2 -ℤ pos (2 * (0 + 0 + 0 + cond r 0 1 + cond s 0 1))))
right_pair true true r s h = inl (record { le = tt })
right_pair true false true true h = inr (record { le = tt })
right_pair false true true true h = inr (record { le = tt })
right_pair false false true true h = inr (record { le = tt })
right_pair true false true false h = absurd h.le
right_pair true false false true h = absurd h.le
right_pair true false false false h = absurd h.le
right_pair false true true false h = absurd h.le
right_pair false true false true h = absurd h.le
right_pair false true false false h = absurd h.le
right_pair false false true false h = absurd h.le
right_pair false false false true h = absurd h.le
right_pair false false false false h = absurd h.le

split : (message : List ℕ) → Within Q two_changed message → Within Q first_two message ⊎ Within Q last_two message
split message within =
    elim (right_pair (same (1 ∷ []) (residue Q message 0)) (same (3 ∷ []) (residue Q message 1)) (same (0 ∷ []) (residue Q message 2))
    (same (0 ∷ []) (residue Q message 3)) within.margin_enough) [
      | inl first ↦ inl (record { is_message = within.is_message; margin_enough = first })
      | inr last ↦ inr (record { is_message = within.is_message; margin_enough = last })
    ]

-- Each pair's message, and that it is too far from all four.
first_read : Within Q first_two (1 ∷ 2 ∷ [])
unfolding byte_product carry_less reduce remainder
first_read = lies_within Q bytes first_two (1 ∷ 2 ∷ []) refl refl (record { le = tt })

last_read : Within Q last_two (0 ∷ 0 ∷ [])
unfolding byte_product carry_less reduce remainder
last_read = lies_within Q bytes last_two (0 ∷ 0 ∷ []) refl refl (record { le = tt })

first_far : ¬ (Within Q two_changed (1 ∷ 2 ∷ []))
unfolding byte_product carry_less reduce remainder
first_far within = within.margin_enough.le

last_far : ¬ (Within Q two_changed (0 ∷ 0 ∷ []))
unfolding byte_product carry_less reduce remainder
last_far within = within.margin_enough.le

pub none_in_bytes : (message : List ℕ) → ¬ (Within Q two_changed message)
none_in_bytes message within =
    elim (split message within) [
      | inl first ↦ first_far (subst (Within Q two_changed) (one_within Q bytes lawful first_two message (1 ∷ 2 ∷ []) first first_read) within)
      | inr last ↦ last_far (subst (Within Q two_changed) (one_within Q bytes lawful last_two message (0 ∷ 0 ∷ []) last last_read) within)
    ]
