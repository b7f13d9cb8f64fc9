-- What a call is answered, by a ledger, and what becomes of the residue, the message or the buffer that it was given.
use Rattle.std.specs.Prelude.{◌≡◌, ℕ, List, Some, None, Ok, Err, Result}
use Rattle.plan.specs.Accounts.{Account, Within, margin, wrong}
use Rattle.plan.specs.Schemes.{Scheme}
use Rattle.reader.specs.Answers.{Answered}
use Rattle.reader.specs.declared.answers.ReaderFault.{ReaderFault}
use Rattle.rack.specs.Ledger.{Ledger, Request, account_in, closes, judge, measures, opens, puts, reads, strikes}
use Rattle.rack.specs.declared.call.Answer.{Answer}
use Rattle.rack.specs.declared.call.Answer.TheVariants.{Done, Margin, Message}
use Rattle.rack.specs.declared.call.Found.{Found}
use Rattle.rack.specs.declared.faults.RackFault.{RackFault}
use Rattle.rack.specs.declared.faults.RackFault.TheVariants.{Slot}
use Rattle.rack.specs.declared.faults.SlotFault.TheVariants.{Unread}

-- How a call ends: with an answer, or refused.
abbrev pub Outcome : Type 0
Outcome = Result Answer RackFault

module _ (s : Scheme) where
  -- What an accepted reading of an account says of its message.
  abbrev pub found_for : Account → List ℕ → Found
  found_for account message = record { margin = margin s account message; wrong = wrong s account message }

  -- A reading of an account. Accepted: the buffer then holds the message within the allowance, and margin and
  -- e are that message's. Refused: the buffer is as it was, and the account says why there is no message.
  abbrev pub ReadAs : Account → (slot : ℕ) → (before buffer : List ℕ) → Outcome → Type 0
  ReadAs account slot before buffer (Ok (Message found)) =
      Within s account buffer × (found.margin ≡ margin s account buffer) × (found.wrong ≡ wrong s account buffer)
  ReadAs account slot before buffer (Ok Done) = ⊥
  ReadAs account slot before buffer (Ok (Margin m)) = ⊥
  ReadAs account slot before buffer (Err fault) =
      (buffer ≡ before) × ((cause : ReaderFault) × (fault ≡ Slot slot (Unread cause)) × Answered s account (Err cause))

  -- A call that the ledger passes; the last argument is what it was given, as that is afterwards.
  abbrev pub Passed : Ledger → Request → Outcome → Request → Type 0
  Passed l (opens channel slot) outcome given = (outcome ≡ Ok Done) × (given ≡ opens channel slot)
  Passed l (puts channel slot position residue) outcome given = (outcome ≡ Ok Done) × (given ≡ puts channel slot position residue)
  Passed l (strikes channel slot position) outcome given = (outcome ≡ Ok Done) × (given ≡ strikes channel slot position)
  Passed l (reads channel slot before) outcome given =
      (buffer : List ℕ) × (given ≡ reads channel slot buffer) × ReadAs (account_in (l slot)) slot before buffer outcome
  Passed l (measures channel slot message) outcome given =
      (outcome ≡ Ok (Margin (margin s (account_in (l slot)) message))) × (given ≡ measures channel slot message)
  Passed l (closes channel slot) outcome given = (outcome ≡ Ok Done) × (given ≡ closes channel slot)

  -- A call on a rack of S slots: refused by the first of the grounds 10 to 17 that the ledger finds, what it
  -- was given being as it was; else answered by the ledger's account, by which a read may still be refused on
  -- ground 18 or 19.
  pub record Told (S : ℕ) (l : Ledger) (request : Request) (outcome : Outcome) (given : Request) : Type 0 where
    pub refused : (fault : RackFault) → judge s S l request ≡ Some fault → (outcome ≡ Err fault) × (given ≡ request)
    pub passed : judge s S l request ≡ None → Passed l request outcome given
