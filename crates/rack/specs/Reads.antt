-- Inner: no public contract cites this.
-- What is loaded of a slot, and what the reader makes of its account, its fault taken up into the rack's.
use Rattle.std.specs.Prelude.{◌≡◌, ℕ, ◌*◌, List, Ok, Err, Result}
use Rattle.plan.specs.Accounts.{Account}
use Rattle.plan.specs.Schemes.{Scheme, word_length}
use Rattle.reader.specs.Answers.{Answered}
use Rattle.reader.specs.Arrivals.{received}
use Rattle.reader.specs.declared.answers.ReaderFault.{ReaderFault}
use Rattle.reader.specs.declared.answers.Reading.{Reading}
use Rattle.rack.specs.States.{State, account_of, record_at}
use Rattle.rack.specs.Stored.{Loaded}
use Rattle.rack.specs.declared.faults.SlotFault.{SlotFault}
use Rattle.rack.specs.declared.faults.SlotFault.TheVariants.{Unread}

-- The cells of a slot, zeros after them; with the slot's marks they say what its account does.
pub record WordOf (r : State) (slot : ℕ) (word : List ℕ) : Type 0 where
  pub loaded : Loaded r.cells (slot * word_length r.scheme) (word_length r.scheme) word
  pub account : received r.scheme word (record_at r slot).present ≡ account_of r slot

abbrev pub SlotRead : Scheme → Account → Result Reading SlotFault → Type 0
SlotRead s account (Ok reading) = Answered s account (Ok reading)
SlotRead s account (Err fault) = (cause : ReaderFault) × (fault ≡ Unread cause) × Answered s account (Err cause)
