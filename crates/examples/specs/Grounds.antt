-- The nineteen grounds in one table: number, letter and places of each fault, by what it holds.
use Rattle.std.specs.Prelude.{◌≡◌, ℕ, List, [], ◌∷◌, codes}
use Rattle.fault.specs.Shown.{letter_of}
use Rattle.fault.specs.declared.Ground.{Ground}
use Rattle.plan.specs.Refusals.{encode_ground, plan_ground}
use Rattle.plan.specs.declared.faults.EncodeFault.TheVariants as encode
use Rattle.plan.specs.declared.faults.PlanFault.TheVariants.{Modulus, Shape, SharedFactor, TotalDegree}
use Rattle.rack.specs.Grounds.{fit_ground, rack_ground}
use Rattle.rack.specs.declared.faults.RackFault.TheVariants.{NoChannel, Slot}
use Rattle.rack.specs.declared.faults.SlotFault.TheVariants.{Closed, NoCode, NoPosition, NoSlot, OpenAlready, OtherChannel, Unread, WrongLength}
use Rattle.reader.specs.Answers.{reader_ground}
use Rattle.reader.specs.declared.answers.ReaderFault.TheVariants.{NoMessage, TooMuchMissing}
use Rattle.sheet.specs.Refusals.{sheet_ground}
use Rattle.sheet.specs.declared.faults.SheetFault.TheVariants.{NoModulus, NotASheet, TooLong}
use Rattle.spread.specs.Place.{depth_ground}

-- A ground has this number, its layer this letter, and these are its places.
pub record Is (ground : Ground) (number : ℕ) (letter : List ℕ) (first second : ℕ) : Type 0 where
  pub number_is : ground.number ≡ number
  pub letter_is : letter_of ground.layer ∷ [] ≡ letter
  pub first_is : ground.first ≡ first
  pub second_is : ground.second ≡ second

pub record GroundTable : Type 0 where
  -- S, a sheet: the byte where its longest beginning ends, and the line
  pub too_long : Is (sheet_ground TooLong) 1 (codes "S") 0 0
  pub not_a_sheet : (byte : ℕ) → Is (sheet_ground (NotASheet byte)) 2 (codes "S") byte 0
  pub no_modulus : (line : ℕ) → Is (sheet_ground (NoModulus line)) 3 (codes "S") line 0
  -- P, a plan: the position, and the pair of positions
  pub shape : Is (plan_ground Shape) 4 (codes "P") 0 0
  pub modulus : (position : ℕ) → Is (plan_ground (Modulus position)) 5 (codes "P") position 0
  pub total_degree : Is (plan_ground TotalDegree) 6 (codes "P") 0 0
  pub shared_factor : (i j : ℕ) → Is (plan_ground (SharedFactor i j)) 7 (codes "P") i j
  -- M, a memory: the spreading layer, and the rack
  pub depth : Is depth_ground 8 (codes "M") 0 0
  pub no_fit : Is fit_ground 9 (codes "M") 0 0
  -- R, a call: the slot, and then the position, the right length or the index
  pub no_channel : Is (rack_ground NoChannel) 10 (codes "R") 0 0
  pub no_slot : (slot : ℕ) → Is (rack_ground (Slot slot NoSlot)) 11 (codes "R") slot 0
  pub is_closed : (slot : ℕ) → Is (rack_ground (Slot slot Closed)) 12 (codes "R") slot 0
  pub open_already : (slot : ℕ) → Is (rack_ground (Slot slot OpenAlready)) 13 (codes "R") slot 0
  pub other_channel : (slot : ℕ) → Is (rack_ground (Slot slot OtherChannel)) 14 (codes "R") slot 0
  pub no_position :
      (slot position : ℕ) → Is (rack_ground (Slot slot (NoPosition position))) 15 (codes "R") slot position
  pub wrong_length : (slot right : ℕ) → Is (rack_ground (Slot slot (WrongLength right))) 16 (codes "R") slot right
  pub no_code : (slot index : ℕ) → Is (rack_ground (Slot slot (NoCode index))) 17 (codes "R") slot index
  -- 16 and 17 are also those of encoding, which has no slot
  pub message_length : (right : ℕ) → Is (encode_ground (encode.MessageLength right)) 16 (codes "P") 0 right
  pub word_length : (right : ℕ) → Is (encode_ground (encode.WordLength right)) 16 (codes "P") 0 right
  pub message_code : (index : ℕ) → Is (encode_ground (encode.NoCode index)) 17 (codes "P") 0 index
  -- D, a reading: the slot, if a rack reads, and by how much R passes N - K
  pub too_much_missing :
      (slot excess : ℕ) → Is (rack_ground (Slot slot (Unread (TooMuchMissing excess)))) 18 (codes "D") slot excess
  pub no_message : (slot : ℕ) → Is (rack_ground (Slot slot (Unread NoMessage))) 19 (codes "D") slot 0
  pub reader_missing : (excess : ℕ) → Is (reader_ground (TooMuchMissing excess)) 18 (codes "D") 0 excess
  pub reader_none : Is (reader_ground NoMessage) 19 (codes "D") 0 0
