-- Inner: no public contract cites this.
-- The checks of a call, in the parts in which the rack makes them. Of a ledger, the grounds 10 to 14 need
-- only who holds the slot.
use Rattle.std.specs.Prelude.{ℕ, not, List, [], Some, None, Ok, Err, Option, Result, ◌==◌, slice_index_or}
use Rattle.plan.specs.Schemes.{Scheme, degree, message_length}
use Rattle.rack.specs.Channels.{channel_number, channel_numbered}
use Rattle.rack.specs.Ledger.{first_of, met, no_channel, no_code, no_position, no_slot, wrong_length}
use Rattle.rack.specs.declared.channel.Channel.{Channel}
use Rattle.rack.specs.declared.faults.RackFault.{RackFault}
use Rattle.rack.specs.declared.faults.RackFault.TheVariants.{Slot}
use Rattle.rack.specs.declared.faults.SlotFault.TheVariants.{Closed, OpenAlready, OtherChannel}
use Rattle.rack.specs.declared.records.SlotRecord.{SlotRecord}

-- Who holds each slot.
abbrev pub owners : List SlotRecord → ℕ → Option Channel
owners records slot = (slice_index_or records slot (record { owner = None; present = [] })).owner

-- 12 and 14, by the holder of the slot.
abbrev pub holder_ground : ℕ → ℕ → Option Channel → Option RackFault
holder_ground channel slot None = Some (Slot slot Closed)
holder_ground channel slot (Some owner) = met (not (channel_number owner == channel)) (Slot slot OtherChannel)

-- 13, by the holder of the slot.
abbrev pub opening_ground : ℕ → Option Channel → Option RackFault
opening_ground slot None = None
opening_ground slot (Some owner) = Some (Slot slot OpenAlready)

-- 10 and 11, which every call is checked for first.
abbrev pub named_ground : ℕ → ℕ → ℕ → Option RackFault
named_ground S channel slot = first_of (no_channel channel) (no_slot S slot)

-- 10, 11, 12 and 14.
abbrev pub use_ground : ℕ → (ℕ → Option Channel) → ℕ → ℕ → Option RackFault
use_ground S holders channel slot =
    first_of (no_channel channel) (first_of (no_slot S slot) (holder_ground channel slot (holders slot)))

-- 10, 11 and 13.
abbrev pub open_ground : ℕ → (ℕ → Option Channel) → ℕ → ℕ → Option RackFault
open_ground S holders channel slot =
    first_of (no_channel channel) (first_of (no_slot S slot) (opening_ground slot (holders slot)))

-- 15, 16 and 17 of a residue, and 16 and 17 of a message.
abbrev pub residue_ground : Scheme → ℕ → ℕ → List ℕ → Option RackFault
residue_ground s slot position residue =
    first_of (no_position s slot position) (first_of (wrong_length slot (degree s position) residue) (no_code s slot residue))

abbrev pub message_ground : Scheme → ℕ → List ℕ → Option RackFault
message_ground s slot message = first_of (wrong_length slot (message_length s) message) (no_code s slot message)

-- A check by the ground that it finds, if any; one that finds none gives x.
abbrev pub checked : {X : Type 0} → X → Option RackFault → Result X RackFault
checked x None = Ok x
checked x (Some fault) = Err fault

-- The check of a use gives nothing more, and that of an open the channel.
abbrev pub settled : Option RackFault → Result (Unit {0}) RackFault
settled = checked tt

abbrev pub granted : ℕ → Option RackFault → Result Channel RackFault
granted number = checked (channel_numbered number)
