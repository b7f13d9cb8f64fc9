-- Number, layer and places of each refusal of a rack.
use Rattle.std.specs.Prelude.{ℕ}
use Rattle.fault.specs.declared.Ground.{Ground}
use Rattle.fault.specs.declared.Layer.TheVariants as layer
use Rattle.reader.specs.Answers.{reader_ground}
use Rattle.rack.specs.declared.faults.RackFault.{RackFault}
use Rattle.rack.specs.declared.faults.RackFault.TheVariants.{NoChannel, Slot}
use Rattle.rack.specs.declared.faults.SlotFault.{SlotFault}
use Rattle.rack.specs.declared.faults.SlotFault.TheVariants.{NoSlot, Closed, OpenAlready, OtherChannel, NoPosition, WrongLength, NoCode, Unread}

abbrev pub fit_ground : Ground
fit_ground = record { number = 9; layer = layer.Memory; first = 0; second = 0 }

-- A fault of the reader keeps its number, its letter and its second place, and gets the slot as the first.
abbrev pub at_slot : ℕ → Ground → Ground
at_slot slot cause = record { number = cause.number; layer = cause.layer; first = slot; second = cause.second }

abbrev pub slot_ground : ℕ → SlotFault → Ground
slot_ground slot NoSlot = record { number = 11; layer = layer.Rack; first = slot; second = 0 }
slot_ground slot Closed = record { number = 12; layer = layer.Rack; first = slot; second = 0 }
slot_ground slot OpenAlready = record { number = 13; layer = layer.Rack; first = slot; second = 0 }
slot_ground slot OtherChannel = record { number = 14; layer = layer.Rack; first = slot; second = 0 }
slot_ground slot (NoPosition position) = record { number = 15; layer = layer.Rack; first = slot; second = position }
slot_ground slot (WrongLength right) = record { number = 16; layer = layer.Rack; first = slot; second = right }
slot_ground slot (NoCode index) = record { number = 17; layer = layer.Rack; first = slot; second = index }
slot_ground slot (Unread cause) = at_slot slot (reader_ground cause)

abbrev pub rack_ground : RackFault → Ground
rack_ground NoChannel = record { number = 10; layer = layer.Rack; first = 0; second = 0 }
rack_ground (Slot slot fault) = slot_ground slot fault
