-- The ledger: what calls make of each slot, by the plan, S and what each call is given alone. It sees no
-- answer, no record and no cell.
use Rattle.std.specs.Prelude.{ℕ, suc, Bool, cond, not, List, [], ◌∷◌, length, is_some, Some, None, fold, Option, ◌==◌, nat_le, nat_lt}
use Rattle.std.specs.Option.{option_map}
use Rattle.plan.specs.Accounts.{Account}
use Rattle.plan.specs.Schemes.{Scheme, degree, message_length, positions}
use Rattle.rack.specs.Channels.{channel_number, channel_numbered, channels}
use Rattle.rack.specs.declared.channel.Channel.{Channel}
use Rattle.rack.specs.declared.faults.RackFault.{RackFault}
use Rattle.rack.specs.declared.faults.RackFault.TheVariants.{NoChannel, Slot}
use Rattle.rack.specs.declared.faults.SlotFault.TheVariants.{Closed, NoCode, NoPosition, NoSlot, OpenAlready, OtherChannel, WrongLength}

-- What a call is given: the numbers of a channel, a slot and a position, and a residue, a message or a buffer
-- of any length.
pub data Request : Type 0 where
  opens : (channel slot : ℕ) → Request
  puts : (channel slot position : ℕ) (residue : List ℕ) → Request
  strikes : (channel slot position : ℕ) → Request
  reads : (channel slot : ℕ) (buffer : List ℕ) → Request
  measures : (channel slot : ℕ) (message : List ℕ) → Request
  closes : (channel slot : ℕ) → Request

-- A slot in the ledger: closed, or open for a channel, with an account of what has been put there.
pub data SlotState : Type 0 where
  closed : SlotState
  open_for : Channel → Account → SlotState

abbrev pub Ledger : Type 0
Ledger = ℕ → SlotState

-- The account of a slot; a closed one has none, and every position counts as missing.
abbrev pub account_in : SlotState → Account
account_in closed = λ _. None
account_in (open_for channel account) = account

-- A ground that is met gives its fault, and of several grounds the first that is met counts.
abbrev pub met : Bool → RackFault → Option RackFault
met test fault = cond test (Some fault) None

abbrev pub first_of : Option RackFault → Option RackFault → Option RackFault
first_of (Some fault) later = Some fault
first_of None later = later

abbrev pub first_met : List (Option RackFault) → Option RackFault
first_met [] = None
first_met (first ∷ later) = first_of first (first_met later)

-- 10: the channel is neither 0 nor 1.
abbrev pub no_channel : ℕ → Option RackFault
no_channel channel = met (nat_le channels channel) NoChannel

-- 11: the slot is S or more.
abbrev pub no_slot : ℕ → ℕ → Option RackFault
no_slot S slot = met (nat_le S slot) (Slot slot NoSlot)

-- 12: the slot is closed.
abbrev pub is_closed : ℕ → SlotState → Option RackFault
is_closed slot closed = Some (Slot slot Closed)
is_closed slot (open_for owner account) = None

-- 13: the slot is open already.
abbrev pub open_already : ℕ → SlotState → Option RackFault
open_already slot closed = None
open_already slot (open_for owner account) = Some (Slot slot OpenAlready)

-- 14: the slot belongs to the other channel.
abbrev pub other_channel : ℕ → ℕ → SlotState → Option RackFault
other_channel channel slot closed = None
other_channel channel slot (open_for owner account) = met (not (channel_number owner == channel)) (Slot slot OtherChannel)

-- 15: the position is n or more.
abbrev pub no_position : Scheme → ℕ → ℕ → Option RackFault
no_position s slot position = met (nat_le (positions s) position) (Slot slot (NoPosition position))

-- 16: a residue, a message or a buffer has not the right length.
abbrev pub wrong_length : ℕ → ℕ → List ℕ → Option RackFault
wrong_length slot right codes = met (not (length codes == right)) (Slot slot (WrongLength right))

-- The place of the first number that is q or more.
abbrev pub first_beyond : ℕ → List ℕ → Option ℕ
first_beyond q [] = None
first_beyond q (x ∷ xs) = cond (nat_lt x q) (option_map suc (first_beyond q xs)) (Some 0)

abbrev pub code_fault : ℕ → Option ℕ → Option RackFault
code_fault slot None = None
code_fault slot (Some index) = Some (Slot slot (NoCode index))

-- 17: a number of a residue or a message is q or more.
abbrev pub no_code : Scheme → ℕ → List ℕ → Option RackFault
no_code s slot codes = code_fault slot (first_beyond s.arithmetic.order codes)

module _ (s : Scheme) (S : ℕ) where
  -- The first of the grounds 10 to 17 that a call meets: those that concern it, in rising order. A call that
  -- meets none of them passes.
  abbrev pub judge : Ledger → Request → Option RackFault
  judge l (opens channel slot) = first_met (no_channel channel ∷ no_slot S slot ∷ open_already slot (l slot) ∷ [])
  judge l (puts channel slot position residue) =
      first_met (no_channel channel ∷ no_slot S slot ∷ is_closed slot (l slot) ∷ other_channel channel slot (l slot)
      ∷ no_position s slot position ∷ wrong_length slot (degree s position) residue ∷ no_code s slot residue ∷ [])
  judge l (strikes channel slot position) =
      first_met (no_channel channel ∷ no_slot S slot ∷ is_closed slot (l slot) ∷ other_channel channel slot (l slot)
      ∷ no_position s slot position ∷ [])
  judge l (reads channel slot buffer) =
      first_met (no_channel channel ∷ no_slot S slot ∷ is_closed slot (l slot) ∷ other_channel channel slot (l slot)
      ∷ wrong_length slot (message_length s) buffer ∷ [])
  judge l (measures channel slot message) =
      first_met (no_channel channel ∷ no_slot S slot ∷ is_closed slot (l slot) ∷ other_channel channel slot (l slot)
      ∷ wrong_length slot (message_length s) message ∷ no_code s slot message ∷ [])
  judge l (closes channel slot) =
      first_met (no_channel channel ∷ no_slot S slot ∷ is_closed slot (l slot) ∷ other_channel channel slot (l slot) ∷ [])

-- The ledger with another state of one slot; the others stay.
abbrev pub write : Ledger → ℕ → SlotState → Ledger
write l slot entry = λ t. cond (t == slot) entry (l t)

-- A slot with another residue at one position, or none; the others stay. A closed slot stays closed.
abbrev pub with_position : SlotState → ℕ → Option (List ℕ) → SlotState
with_position closed position residue = closed
with_position (open_for channel account) position residue =
    open_for channel (λ i. cond (i == position) residue (account i))

-- What a call that meets none of the grounds 10 to 17 makes of the ledger.
abbrev pub ledger_changed : Ledger → Request → Ledger
ledger_changed l (opens channel slot) = write l slot (open_for (channel_numbered channel) (λ _. None))
ledger_changed l (puts channel slot position residue) = write l slot (with_position (l slot) position (Some residue))
ledger_changed l (strikes channel slot position) = write l slot (with_position (l slot) position None)
ledger_changed l (reads channel slot buffer) = l
ledger_changed l (measures channel slot message) = l
ledger_changed l (closes channel slot) = write l slot closed

module _ (s : Scheme) (S : ℕ) where
  -- The ledger after a call: one that meets a ground changes nothing.
  abbrev pub step : Ledger → Request → Ledger
  step l request = cond (is_some (judge s S l request)) l (ledger_changed l request)

  -- The ledger after a list of calls.
  abbrev pub after : Ledger → List Request → Ledger
  after l requests = fold step l requests

-- At first every slot is closed.
abbrev pub blank : Ledger
blank = λ _. closed
