use Rattle.std.proofs.Common.{◌≡◌, ℕ, List, [], ◌∷◌, Some, None, Err, refl}
use Rattle.algebra.specs.Remainder.{remainder}
use Rattle.algebra.proofs.Modular.{bit_laws}
use Rattle.plan.specs.Accounts.{Within}
use Rattle.reader.specs.declared.answers.ReaderFault.TheVariants.{NoMessage}
use Rattle.rack.specs.Ledger.{Ledger, Request, account_in, judge}
use Rattle.rack.specs.Told.{Outcome, Passed, Told}
use Rattle.rack.specs.declared.faults.RackFault.{RackFault}
use Rattle.examples.specs.Ledger.{LedgerExamples, lesson_ledger}
use Rattle.examples.specs.Plans.{P}
use Rattle.examples.proofs.Allowances.{lies_within, none_within}
use Rattle.examples.proofs.Readings.{accepted, none_answered, refused}

-- A call that the ledger passes is told by what it says of it, and one that meets a ground by that ground.
told_passed : (l : Ledger) (request : Request) (outcome : Outcome) (given : Request) → judge P 4 l request ≡ None
    → Passed P l request outcome given → Told P 4 l request outcome given
told_passed l request outcome given none passed = record { refused = λ fault met. cc; passed = λ e. passed }

told_refused : (l : Ledger) (request : Request) (fault : RackFault) → judge P 4 l request ≡ Some fault → Told P 4 l request (Err fault) request
told_refused l request fault found = record { refused = λ other met. (cc, refl); passed = λ e. cc }

second_within : (message : List ℕ) → ¬ (Within P (account_in (lesson_ledger 5 1)) message)
unfolding remainder
second_within = none_within P (account_in (lesson_ledger 5 1)) refl refl (λ h. h.le) (λ h. h.le) (λ h. h.le) (λ h. h.le)

pub ledger : LedgerExamples
unfolding remainder
ledger =
    let first_account = account_in (lesson_ledger 3 1) in
    let first_message = lies_within P bit_laws first_account (1 ∷ 1 ∷ []) refl refl (record { le = tt }) in
    let none = none_answered P (account_in (lesson_ledger 5 1)) 3 2 refl refl second_within in
    record {
      gathered_first = refl;
      gathered_second = refl;
      gathered_none = refl;
      first_reads = refl;
      second_reads = refl;
      first_message = first_message;
      second_none = second_within;
      first_told =
          told_passed (lesson_ledger 3) _ _ _ refl (1 ∷ 1 ∷ [], refl, accepted P first_account (1 ∷ 1 ∷ []) _ _ first_message refl refl 1 (0 ∷ 0 ∷ []));
      second_told = told_passed (lesson_ledger 5) _ _ _ refl (0 ∷ 0 ∷ [], refl, refused P (account_in (lesson_ledger 5 1)) NoMessage none 1 (0 ∷ 0 ∷ []));
      intrusion = refl;
      intrusion_told = told_refused (lesson_ledger 6) _ _ refl;
      untouched = refl;
      shut = refl;
      ten = refl;
      eleven = refl;
      twelve = refl;
      thirteen = refl;
      fourteen = refl;
      fifteen = refl;
      sixteen = refl;
      seventeen = refl;
      any_buffer = refl;
    }
