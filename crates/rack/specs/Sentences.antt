-- What is said of a rack that is not made and of a call that is refused, in a sentence without its full stop;
-- places are counted from 0.
use Rattle.std.specs.Prelude.{ℕ, List, ◌++◌, codes, decimal}
use Rattle.reader.specs.Sentences.{reader_sentence}
use Rattle.rack.specs.declared.faults.RackFault.{RackFault}
use Rattle.rack.specs.declared.faults.RackFault.TheVariants.{NoChannel, Slot}
use Rattle.rack.specs.declared.faults.SlotFault.{SlotFault}
use Rattle.rack.specs.declared.faults.SlotFault.TheVariants.{NoSlot, Closed, OpenAlready, OtherChannel, NoPosition, WrongLength, NoCode, Unread}

abbrev pub fit_sentence : List ℕ
fit_sentence = codes "the number of slots is out of its range, the memory has too few cells, or its top is too low"

-- What is wrong at a slot.
abbrev pub slot_sentence : SlotFault → List ℕ
slot_sentence NoSlot = codes "the rack has no such slot"
slot_sentence Closed = codes "it is closed"
slot_sentence OpenAlready = codes "it is open already"
slot_sentence OtherChannel = codes "it belongs to the other channel"
slot_sentence (NoPosition position) = codes "the plan has no position " ++ decimal position
slot_sentence (WrongLength right) = codes "the codes that it is given should be " ++ decimal right
slot_sentence (NoCode index) = codes "number " ++ decimal index ++ codes " of those that it is given is no code of the field"
slot_sentence (Unread cause) = reader_sentence cause

abbrev pub rack_sentence : RackFault → List ℕ
rack_sentence NoChannel = codes "there is no such channel"
rack_sentence (Slot slot fault) = codes "slot " ++ decimal slot ++ codes ": " ++ slot_sentence fault

-- No sentence on what is wrong at a slot has more bytes.
abbrev pub longest_at_slot : ℕ
longest_at_slot = 100
