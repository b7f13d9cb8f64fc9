-- When a channel can read a message in a slot of a rack.
use Rattle.std.specs.Prelude.{◌≡◌, ℕ, List, length, Some, Ok}
use Rattle.plan.specs.Accounts.{Account}
use Rattle.plan.specs.Schemes.{Scheme, message_length}
use Rattle.rack.specs.Channels.{channel_number}
use Rattle.rack.specs.Ledger.{Request, reads}
use Rattle.rack.specs.States.{Performs, State, cells_at}
use Rattle.rack.specs.Told.{Outcome, found_for}
use Rattle.rack.specs.declared.call.Answer.TheVariants.{Message}
use Rattle.rack.specs.declared.channel.Channel.{Channel}

-- The cells of a slot hold the account's residue at each position present there.
abbrev pub HoldsAccount : Scheme → List ℕ → ℕ → Account → Type 0
HoldsAccount s cells slot account =
    (i : ℕ) (residue : List ℕ) → account i ≡ Some residue → cells_at s cells slot i ≡ residue

-- The channel can read the message in the slot: the slot's cells hold the account's residue at each position present
-- there; and a read of the slot by that channel as the next call, with a buffer of K codes, gives that message, with
-- margin and e by the account.
pub record CanRead (r : State) (slot : ℕ) (channel : Channel) (account : Account) (message : List ℕ) : Type 0 where
  pub holds : HoldsAccount r.scheme r.cells slot account
  pub gives :
      (buffer : List ℕ) → length buffer ≡ message_length r.scheme
      → (outcome : Outcome) (r' : State) (given : Request)
      → Performs r (reads (channel_number channel) slot buffer) outcome r' given
      → (outcome ≡ Ok (Message (found_for r.scheme account message)))
      × (given ≡ reads (channel_number channel) slot message)
