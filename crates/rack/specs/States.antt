-- What a rack holds, the ledger that its records and cells show, and what each call makes of it.
use Rattle.std.specs.Prelude.{◌≡◌, ℕ, ◌+◌, ◌*◌, ◌<◌, ◌≤◌, Bool, true, false, cond, List, [], ◌++◌, length, take, drop, replicate, is_some, Some, None, Option, nat_lt, slice_index_or, slice_set}
use Rattle.plan.specs.Accounts.{Account}
use Rattle.plan.specs.Limits.{most_positions}
use Rattle.plan.specs.Schemes.{IsScheme, Scheme, degree, start, word_length}
use Rattle.rack.specs.Told.{Outcome, Told}
use Rattle.rack.specs.Channels.{channel_numbered}
use Rattle.rack.specs.Ledger.{SlotState, Ledger, Request, closed, closes, open_for, judge, measures, opens, puts, reads, step, strikes}
use Rattle.rack.specs.Limits.{most_slots}
use Rattle.rack.specs.declared.channel.Channel.{Channel}
use Rattle.rack.specs.declared.records.SlotRecord.{SlotRecord}
use Rattle.rack.specs.declared.records.Slots.{Slots}

-- The record of a closed slot, as a rack has it at first.
abbrev pub closed_record : SlotRecord
closed_record = record { owner = None; present = replicate most_positions false }

-- What a rack holds: the scheme of its plan, S, the slot records, and the cells and the top of its memory.
pub record State : Type 0 where
  pub scheme : Scheme
  pub slots : ℕ
  pub records : List SlotRecord
  pub cells : List ℕ
  pub top : ℕ

-- The same by a rack's parts.
abbrev pub held_by : Scheme → Slots → List ℕ → ℕ → State
held_by s slots cells top = record { scheme = s; slots = slots.count; records = slots.records; cells = cells; top = top }

-- The record of a slot; past the table one that nobody holds.
abbrev pub record_at : State → ℕ → SlotRecord
record_at r slot = slice_index_or r.records slot (record { owner = None; present = [] })

-- Where position i of a slot begins among the cells: a slot has the cells from its number × N on.
abbrev pub cell_of : Scheme → ℕ → ℕ → ℕ
cell_of s slot i = slot * word_length s + start s i

-- What the cells of position i of a slot hold.
abbrev pub cells_at : Scheme → List ℕ → ℕ → ℕ → List ℕ
cells_at s cells slot i = take (degree s i) (drop (cell_of s slot i) cells)

-- The account of a slot as its record and cells stand: a position that is present has what its cells hold.
abbrev pub account_of : State → ℕ → Account
account_of r slot i = cond (slice_index_or (record_at r slot).present i false) (Some (cells_at r.scheme r.cells slot i)) None

-- A slot by its holder: with none it is closed.
abbrev pub slot_state : Option Channel → Account → SlotState
slot_state None account = closed
slot_state (Some channel) account = open_for channel account

-- The ledger that the records and cells show; a number from S on is closed.
abbrev pub shown : State → Ledger
shown r slot = cond (nat_lt slot r.slots) (slot_state (record_at r slot).owner (account_of r slot)) closed

-- The rack and the ledger agree: each slot is in the ledger what the rack shows.
abbrev pub Agrees : State → Ledger → Type 0
Agrees r l = (slot : ℕ) → shown r slot ≡ l slot

-- One record becomes another, and nothing else changes.
abbrev pub with_record : State → ℕ → SlotRecord → State
with_record r slot entry =
    record { scheme = r.scheme; slots = r.slots; records = slice_set r.records slot entry; cells = r.cells; top = r.top }

-- The cells change, and nothing else.
abbrev pub with_cells : State → List ℕ → State
with_cells r cells = record { scheme = r.scheme; slots = r.slots; records = r.records; cells = cells; top = r.top }

-- The numbers from place `at` on become the codes, and the others stay; used only where there is a number for
-- each code.
abbrev pub overwritten : List ℕ → ℕ → List ℕ → List ℕ
overwritten cells at codes = take at cells ++ (codes ++ drop (at + length codes) cells)

-- The record with one position present, or missing.
abbrev pub marked : SlotRecord → ℕ → Bool → SlotRecord
marked entry position mark = record { owner = entry.owner; present = slice_set entry.present position mark }

-- What a call that meets none of the grounds 10 to 17 makes of the rack. What is present in a closed slot
-- stays noted, and counts for nothing.
abbrev pub rack_changed : State → Request → State
rack_changed r (opens channel slot) =
    with_record r slot (record { owner = Some (channel_numbered channel); present = replicate most_positions false })
rack_changed r (puts channel slot position residue) =
    with_cells (with_record r slot (marked (record_at r slot) position true)) (overwritten r.cells (cell_of r.scheme slot position) residue)
rack_changed r (strikes channel slot position) = with_record r slot (marked (record_at r slot) position false)
rack_changed r (reads channel slot buffer) = r
rack_changed r (measures channel slot message) = r
rack_changed r (closes channel slot) = with_record r slot (record { owner = None; present = (record_at r slot).present })

-- What a call makes of the rack: one that meets a ground alters nothing.
abbrev pub state_after : State → Request → State
state_after r request = cond (is_some (judge r.scheme r.slots (shown r) request)) r (rack_changed r request)

-- S is 1 to 16, there are S × N cells at least, and a cell can hold every code.
pub record Fits (s : Scheme) (S : ℕ) (cells : List ℕ) (top : ℕ) : Type 0 where
  pub some : 1 ≤ S
  pub few : S ≤ most_slots
  pub room : S * word_length s ≤ length cells
  pub wide : s.arithmetic.order ≤ top + 1

-- What holds of every rack: a lawful plan, S and a memory that fit, and tables as long as their types say.
pub record IsRack (r : State) : Type 0 where
  pub lawful : IsScheme r.scheme
  pub fits : Fits r.scheme r.slots r.cells r.top
  pub table : length r.records ≡ most_slots
  pub marks : (slot : ℕ) → slot < r.slots → length (record_at r slot).present ≡ most_positions

-- A call on a rack: the answer by what the records and cells show, what the rack is afterwards, that it stays
-- a rack, and that a ledger which agreed with it before the call agrees with it again once the call is
-- written there, and gives the same answer.
pub record Performs (r : State) (request : Request) (outcome : Outcome) (r' : State) (given : Request) : Type 0 where
  pub told : Told r.scheme r.slots (shown r) request outcome given
  pub left : r' ≡ state_after r request
  pub stays : IsRack r'
  pub agrees :
      (l : Ledger) → Agrees r l
      → Told r.scheme r.slots l request outcome given × Agrees r' (step r.scheme r.slots l request)
