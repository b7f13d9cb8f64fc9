-- What follows from the promise about arrangements, and that a list of calls has one end.
use Rattle.std.specs.Prelude.{◌≡◌, ℕ, ◌<◌, List, map, length, Some, Ok, Err, Option}
use Rattle.algebra.specs.Field.{FieldLaws}
use Rattle.plan.specs.Accounts.{Account, Within}
use Rattle.plan.specs.Schemes.{IsScheme, Scheme, message_length}
use Rattle.reader.specs.Answers.{Answered}
use Rattle.reader.specs.declared.answers.ReaderFault.{ReaderFault}
use Rattle.rack.specs.CanRead.{HoldsAccount}
use Rattle.rack.specs.Channels.{channel_number}
use Rattle.rack.specs.Ledger.{Ledger, Request, open_for, reads}
use Rattle.rack.specs.States.{Agrees, IsRack, Performs, State}
use Rattle.rack.specs.Told.{Outcome, found_for}
use Rattle.rack.specs.declared.call.Answer.TheVariants.{Message}
use Rattle.rack.specs.declared.channel.Channel.{Channel}
use Rattle.rack.specs.declared.faults.RackFault.TheVariants.{Slot}
use Rattle.rack.specs.declared.faults.SlotFault.TheVariants.{Unread}
use Rattle.batch.specs.Lists.{Ran, entry_at, request_at, requests}
use Rattle.batch.specs.Promise.{IsReading, Kept, Load, ledger_at, ledger_left, rack_at}
use Rattle.batch.specs.declared.entry.Entry.{Entry}

module _ (s : Scheme) where
  -- Call i, a read of this slot, was refused on ground 18 or 19, as the account says, and its buffer is as it was.
  pub record GaveNone (load : Load) (i slot : ℕ) (account : Account) : Type 0 where
    pub cause : ReaderFault
    pub refused : (entry_at load.done i).outcome ≡ Some (Err (Slot slot (Unread cause)))
    pub says : Answered s account (Err cause)
    pub unfilled : request_at load.done i ≡ request_at load.before i

  -- The cells of each slot that the ledger has open hold the account's residue at each position present there.
  abbrev pub HoldAccounts : Ledger → List ℕ → Type 0
  HoldAccounts l cells =
      (slot : ℕ) (channel : Channel) (account : Account) → l slot ≡ open_for channel account
      → HoldsAccount s cells slot account

  -- What a list that kept the promise says of the rack at every moment, and of each reading. The rack was `start` when
  -- it was made.
  pub record Says (load : Load) (start : State) : Type 0 where
    -- After the first n calls, for every n, the rack is a rack and agrees with the ledger; and the cells of each slot
    -- open there hold the slot's account, whether a message is within its allowance or not. So it is after the list.
    pub is_rack_at : (n : ℕ) → IsRack (rack_at load start n)
    pub agrees_at : (n : ℕ) → Agrees (rack_at load start n) (ledger_at s load n)
    pub holds_at : (n : ℕ) → HoldAccounts (ledger_at s load n) (rack_at load start n).cells
    pub holds : HoldAccounts (ledger_left s load) load.rack.cells
    -- A reading of an account that no message is within is refused as the account says.
    pub unread :
        (i : ℕ) (account : Account) (reading : IsReading s load i account)
        → ((message : List ℕ) → ¬ (Within s account message)) → GaveNone load i reading.slot account
    -- A read of the list by the slot's channel, with a buffer of K codes, gives the message within the allowance, with
    -- its margin and e.
    pub gives :
        (i : ℕ) → i < length load.before
        → (channel : Channel) (slot : ℕ) (buffer : List ℕ)
        → request_at load.before i ≡ reads (channel_number channel) slot buffer → length buffer ≡ message_length s
        → (account : Account) → ledger_at s load i slot ≡ open_for channel account
        → (message : List ℕ) → Within s account message
        → ((entry_at load.done i).outcome ≡ Some (Ok (Message (found_for s account message))))
        × (request_at load.done i ≡ reads (channel_number channel) slot message)
    -- So does a read made next on the rack that is given back, by the account that the list leaves.
    pub gives_next :
        (channel : Channel) (slot : ℕ) (buffer : List ℕ) → length buffer ≡ message_length s
        → (account : Account) → ledger_left s load slot ≡ open_for channel account
        → (message : List ℕ) → Within s account message
        → (outcome : Outcome) (r' : State) (given : Request)
        → Performs load.rack (reads (channel_number channel) slot buffer) outcome r' given
        → (outcome ≡ Ok (Message (found_for s account message)))
        × (given ≡ reads (channel_number channel) slot message)

abbrev pub KeptSays : Type 0
KeptSays =
    (s : Scheme) → FieldLaws s.arithmetic → IsScheme s
    → (load : Load) (kept : Kept s load) → Says s load kept.start

-- How the calls of a list ended.
abbrev pub outcomes : List Entry → List (Option Outcome)
outcomes entries = map (λ entry. entry.outcome) entries

-- A list has one end: run on any two racks that agree with one ledger, its calls end alike, and their buffers then hold
-- the same.
abbrev pub OneEnd : Type 0
OneEnd =
    (s : Scheme) → FieldLaws s.arithmetic → IsScheme s → (S : ℕ) (l : Ledger) (before done done' : List Entry)
    → Ran s S l before done → Ran s S l before done'
    → (outcomes done ≡ outcomes done') × (requests done ≡ requests done')
