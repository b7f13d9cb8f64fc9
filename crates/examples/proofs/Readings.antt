use Rattle.std.proofs.Common.{◌≡◌, ℕ, ◌+◌, ◌-◌, List, [], ◌∷◌, ℤ, Err, refl, arith}
use Rattle.algebra.specs.BitPolynomials.{byte_product, carry_less, reduce}
use Rattle.algebra.specs.Remainder.{remainder}
use Rattle.algebra.proofs.Bytes.{bytes}
use Rattle.algebra.proofs.Modular.{bit_laws}
use Rattle.plan.specs.Accounts.{Account, Within, margin, missing, wrong}
use Rattle.plan.specs.Schemes.{Scheme, message_length, word_length}
use Rattle.reader.specs.Answers.{Answered}
use Rattle.reader.specs.declared.answers.ReaderFault.{ReaderFault}
use Rattle.reader.specs.declared.answers.ReaderFault.TheVariants.{NoMessage}
use Rattle.examples.specs.Plans.{P, Q, T}
use Rattle.examples.specs.Readings.{ReadRefused, ReadingExamples, Reads, carriers_alone, first_wrong, in_conflict, last_changed, last_missing, last_wrong, one_present, two_changed}
use Rattle.examples.proofs.Allowances.{lies_within, none_within}
use Rattle.examples.proofs.TwoChanged.{none_in_bytes}

-- A reading is accepted with a message within the allowance, and refused for the cause that the account shows.
pub accepted : (s : Scheme) (account : Account) (message : List ℕ) (m : ℤ) (w : ℕ) → Within s account message
    → m ≡ margin s account message → w ≡ wrong s account message → Reads s account message m w
accepted s account message m w within margin_is wrong_is slot buffer = (within, margin_is, wrong_is)

pub refused : (s : Scheme) (account : Account) (cause : ReaderFault) → Answered s account (Err cause) → ReadRefused s account cause
refused s account cause says slot buffer = (refl, (cause, refl, says))

-- With no message within the allowance, and few enough positions missing, the cause is that there is none.
pub none_answered : (s : Scheme) (account : Account) (R spare : ℕ) → missing s account ≡ R → word_length s - message_length s ≡ R + spare
    → ((message : List ℕ) → ¬ (Within s account message)) → Answered s account (Err NoMessage)
none_answered s account R spare gone room none = (omega (arith, gone, room), none)

last_wrong_none : (message : List ℕ) → ¬ (Within P last_wrong message)
unfolding remainder
last_wrong_none = none_within P last_wrong refl refl (λ h. h.le) (λ h. h.le) (λ h. h.le) (λ h. h.le)

in_conflict_none : (message : List ℕ) → ¬ (Within T in_conflict message)
unfolding remainder
in_conflict_none = none_within T in_conflict refl refl (λ h. h.le) (λ h. h.le) (λ h. h.le) (λ h. h.le)

pub readings : ReadingExamples
unfolding byte_product carry_less reduce remainder
readings =
    let spare_within = lies_within P bit_laws last_missing (1 ∷ 1 ∷ []) refl refl (record { le = tt }) in
    let carriers_within = lies_within P bit_laws carriers_alone (1 ∷ 1 ∷ []) refl refl (record { le = tt }) in
    let first_within = lies_within P bit_laws first_wrong (0 ∷ 0 ∷ []) refl refl (record { le = tt }) in
    let last_within = lies_within Q bytes last_changed (1 ∷ 2 ∷ []) refl refl (record { le = tt }) in
    let gone : missing P one_present ≡ 6 = refl in
    let room : word_length P - message_length P ≡ 5 = refl in
    record {
      spare_margin = refl;
      spare_read = accepted P last_missing (1 ∷ 1 ∷ []) _ _ spare_within refl refl;
      no_margin = refl;
      carriers_suffice = carriers_within;
      carriers_read = accepted P carriers_alone (1 ∷ 1 ∷ []) _ _ carriers_within refl refl;
      too_few = refl;
      ground_eighteen = refused P one_present _ (omega (arith, gone, room), refl);
      margin_one = refl;
      margin_other = refl;
      none_near = last_wrong_none;
      ground_nineteen = refused P last_wrong NoMessage (none_answered P last_wrong 0 5 refl refl last_wrong_none);
      margin_used = refl;
      one_wrong = first_within;
      read_beside_wrong = accepted P first_wrong (0 ∷ 0 ∷ []) _ _ first_within refl refl;
      margin_in_bytes = refl;
      within_in_bytes = last_within;
      read_in_bytes = accepted Q last_changed (1 ∷ 2 ∷ []) _ _ last_within refl refl;
      margin_of_first = refl;
      margin_of_last = refl;
      none_in_bytes = none_in_bytes;
      refused_in_bytes = refused Q two_changed NoMessage (none_answered Q two_changed 0 2 refl refl none_in_bytes);
      margin_in_conflict = refl;
      none_in_conflict = in_conflict_none;
      refused_in_conflict = refused T in_conflict NoMessage (none_answered T in_conflict 0 2 refl refl in_conflict_none);
    }
