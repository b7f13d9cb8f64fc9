-- A call's answer is determined by the ledger: a reading of an account has one outcome and leaves one buffer, and so has every call.
use Rattle.std.proofs.Common.{◌≡◌, ℕ, ◌-◌, ◌*◌, ◌≤◌, List, pos, ◌-ℤ◌, ◌≤ℤ◌, Some, None, Ok, Err, Option, sym, refl, ap, ◌∙◌, arith}
use Rattle.std.proofs.lemmas.Int.{ints}
use Rattle.algebra.specs.Field.{FieldLaws}
use Rattle.plan.specs.Accounts.{Account, Within, margin, missing, wrong}
use Rattle.plan.specs.Schemes.{IsScheme, Scheme, message_length, word_length}
use Rattle.plan.proofs.Sizes.{start_most}
use Rattle.plan.proofs.Uniqueness.{one_within}
use Rattle.reader.specs.Answers.{Answered}
use Rattle.reader.specs.declared.answers.ReaderFault.{ReaderFault}
use Rattle.reader.specs.declared.answers.ReaderFault.TheVariants.{NoMessage, TooMuchMissing}
use Rattle.rack.specs.Laws.{OneAnswer}
use Rattle.rack.specs.Ledger.{Ledger, Request, account_in, closes, judge, measures, opens, puts, reads, strikes}
use Rattle.rack.specs.Told.{Outcome, Passed, ReadAs, found_for}
use Rattle.rack.specs.declared.call.Answer.TheVariants.{Done, Margin, Message}
use Rattle.rack.specs.declared.call.Found.{Found}
use Rattle.rack.specs.declared.faults.RackFault.{RackFault}
use Rattle.rack.specs.declared.faults.RackFault.TheVariants.{Slot}
use Rattle.rack.specs.declared.faults.SlotFault.TheVariants.{Unread}

-- A margin of 0 or more leaves the missing positions within the redundancy.
missing_within : (N K R e : ℕ) → K ≤ N → pos 0 ≤ℤ (pos N -ℤ pos K -ℤ pos R -ℤ pos (2 * e)) → R ≤ N - K
missing_within N K R e k l = omega (arith, ints)

module _ (s : Scheme) (a : Account) where
  -- An account that a message is within is not refused.
  pub not_refused : (m : List ℕ) (cause : ReaderFault) → Within s a m → Answered s a (Err cause) → ⊥
  not_refused m (TooMuchMissing excess) w says =
      let few = missing_within (word_length s) (message_length s) (missing s a) (wrong s a m) (start_most s s.carriers) w.margin_enough in
      omega (arith, says.0)
  not_refused m NoMessage w says = says.1 m w

  -- One that is refused is refused for one cause.
  one_cause : (cause cause' : ReaderFault) → Answered s a (Err cause) → Answered s a (Err cause') → cause ≡ cause'
  one_cause (TooMuchMissing excess) (TooMuchMissing excess') says says' = ap TooMuchMissing (says.1 ∙ sym says'.1)
  one_cause (TooMuchMissing excess) NoMessage says says' = absurd (omega (arith, says.0, says'.0))
  one_cause NoMessage (TooMuchMissing excess) says says' = absurd (omega (arith, says.0, says'.0))
  one_cause NoMessage NoMessage says says' = refl

  module _ (L : FieldLaws s.arithmetic) (h : IsScheme s) (slot : ℕ) (old : List ℕ) where
    -- A reading of an account that a message is within is accepted with that message.
    pub read_gives : (m new : List ℕ) (outcome : Outcome) → Within s a m → ReadAs s a slot old new outcome
        → (outcome ≡ Ok (Message (found_for s a m))) × (new ≡ m)
    read_gives m new (Ok (Message found)) w (within, margin_is, wrong_is) =
        let same : new ≡ m = one_within s L h a new m within w in
        let says : found ≡ found_for s a new = rw (← margin_is, ← wrong_is) in
        (ap (λ (x : Found). Ok (Message x)) says ∙ ap (λ (x : List ℕ). Ok (Message (found_for s a x))) same, same)
    read_gives m new (Ok Done) w says = absurd says
    read_gives m new (Ok (Margin margin)) w says = absurd says
    read_gives m new (Err fault) w (same, (cause, fault_is, says)) = absurd (not_refused m cause w says)

    -- Two readings of an account end alike.
    one_reading : (new new' : List ℕ) (outcome outcome' : Outcome) → ReadAs s a slot old new outcome → ReadAs s a slot old new' outcome'
        → (outcome ≡ outcome') × (new ≡ new')
    one_reading new new' (Ok (Message found)) outcome' says says' =
        let first = read_gives new new (Ok (Message found)) says.0 says in
        let second = read_gives new new' outcome' says.0 says' in
        (first.0 ∙ sym second.0, sym second.1)
    one_reading new new' (Ok Done) outcome' says says' = absurd says
    one_reading new new' (Ok (Margin margin)) outcome' says says' = absurd says
    one_reading new new' (Err fault) (Ok (Message found)) (same, (cause, fault_is, says)) says' = absurd (not_refused new' cause says'.0 says)
    one_reading new new' (Err fault) (Ok Done) says says' = absurd says'
    one_reading new new' (Err fault) (Ok (Margin margin)) says says' = absurd says'
    one_reading new new' (Err fault) (Err fault') (same, (cause, fault_is, says)) (same', (cause', fault_is', says')) =
        let one = one_cause cause cause' says says' in
        (ap Err (fault_is ∙ ap (λ (x : ReaderFault). Slot slot (Unread x)) one ∙ sym fault_is'), same ∙ sym same')

module _ (s : Scheme) (L : FieldLaws s.arithmetic) (h : IsScheme s) (l : Ledger) where
  -- Two answers to a call that the ledger passes are one.
  one_passed : (request : Request) (outcome outcome' : Outcome) (given given' : Request)
      → Passed s l request outcome given → Passed s l request outcome' given' → (outcome ≡ outcome') × (given ≡ given')
  one_passed (opens channel slot) outcome outcome' given given' says says' = (says.0 ∙ sym says'.0, says.1 ∙ sym says'.1)
  one_passed (puts channel slot position residue) outcome outcome' given given' says says' = (says.0 ∙ sym says'.0, says.1 ∙ sym says'.1)
  one_passed (strikes channel slot position) outcome outcome' given given' says says' = (says.0 ∙ sym says'.0, says.1 ∙ sym says'.1)
  one_passed (reads channel slot old) outcome outcome' given given' (new, is, says) (new', is', says') =
      let one = one_reading s (account_in (l slot)) L h slot old new new' outcome outcome' says says' in
      (one.0, is ∙ ap (reads channel slot) one.1 ∙ sym is')
  one_passed (measures channel slot message) outcome outcome' given given' says says' = (says.0 ∙ sym says'.0, says.1 ∙ sym says'.1)
  one_passed (closes channel slot) outcome outcome' given given' says says' = (says.0 ∙ sym says'.0, says.1 ∙ sym says'.1)

pub one_answer : OneAnswer
one_answer s L h S l request outcome outcome' given given' told told' = go (judge s S l request) refl
  where
    go : (found : Option RackFault) → judge s S l request ≡ found → (outcome ≡ outcome') × (given ≡ given')
    go (Some fault) e =
        let first = told.refused fault e in
        let second = told'.refused fault e in
        (first.0 ∙ sym second.0, first.1 ∙ sym second.1)
    go None e = one_passed s L h l request outcome outcome' given given' (told.passed e) (told'.passed e)
