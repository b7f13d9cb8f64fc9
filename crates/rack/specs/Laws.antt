-- Laws of every ledger, and of what a call makes of every rack, in the subject's words.
use Rattle.std.specs.Prelude.{◌≡◌, ℕ, ◌+◌, ◌<◌, ◌≤◌, ◌⊎◌, Bool, true, false, List, ◌∷◌, ◌++◌, length, take, Some, None, Ok, fold, slice_index, slice_index_or}
use Rattle.algebra.specs.Field.{FieldLaws}
use Rattle.plan.specs.Accounts.{Account, Within}
use Rattle.plan.specs.Schemes.{IsScheme, Scheme, degree}
use Rattle.rack.specs.CanRead.{CanRead}
use Rattle.rack.specs.Channels.{channel_number}
use Rattle.rack.specs.Ledger.{Ledger, Request, SlotState, account_in, after, blank, closed, closes, judge, measures, open_for, opens, puts, reads, strikes}
use Rattle.rack.specs.Making.{Made}
use Rattle.rack.specs.States.{Agrees, IsRack, Performs, State, account_of, cell_of, cells_at, record_at, shown, state_after}
use Rattle.rack.specs.Told.{Outcome, Told, found_for}
use Rattle.rack.specs.declared.call.Answer.TheVariants.{Message}
use Rattle.rack.specs.declared.call.Found.{Found}
use Rattle.rack.specs.declared.channel.Channel.{Channel}
use Rattle.rack.specs.declared.faults.RackFault.{RackFault}
use Rattle.rack.specs.declared.records.SlotRecord.{SlotRecord}

-- A call's answer is determined: by ledger and call there is one outcome, and one content of the residue, the message
-- or the buffer that it was given.
abbrev pub OneAnswer : Type 0
OneAnswer =
    (s : Scheme) → FieldLaws s.arithmetic → IsScheme s → (S : ℕ) (l : Ledger) (request : Request)
    → (outcome outcome' : Outcome) (given given' : Request)
    → Told s S l request outcome given → Told s S l request outcome' given' → (outcome ≡ outcome') × (given ≡ given')

-- The slot is open for the channel, and its account has the residue at position i.
abbrev pub Stands : SlotState → Channel → ℕ → List ℕ → Type 0
Stands closed channel i residue = ⊥
Stands (open_for owner account) channel i residue = (owner ≡ channel) × (account i ≡ Some residue)

module _ (s : Scheme) (S : ℕ) where
  -- One of the calls put the residue at position i of the slot: it was this channel's, the ledger passed it,
  -- and ever since the slot has been open for the channel with the residue there. `take n later` are the
  -- first n calls after it.
  pub record PutBy (calls : List Request) (slot : ℕ) (channel : Channel) (i : ℕ) (residue : List ℕ) : Type 0 where
    pub earlier : List Request
    pub later : List Request
    pub among : calls ≡ earlier ++ (puts (channel_number channel) slot i residue ∷ later)
    pub passes : judge s S (after s S blank earlier) (puts (channel_number channel) slot i residue) ≡ None
    pub since :
        (n : ℕ)
        → Stands (after s S blank (earlier ++ (puts (channel_number channel) slot i residue ∷ take n later)) slot) channel i residue

-- Every residue in the account of an open slot was put there by the channel that has the slot; none is the
-- other channel's.
abbrev pub OwnResidues : Type 0
OwnResidues =
    (s : Scheme) (S : ℕ) (calls : List Request) (slot : ℕ) (channel : Channel) (i : ℕ) (residue : List ℕ)
    → Stands (after s S blank calls slot) channel i residue → PutBy s S calls slot channel i residue

-- So a read that the ledger passes finds in its slot's account no residue but those that its own channel put there.
abbrev pub ReadsItsOwn : Type 0
ReadsItsOwn =
    (s : Scheme) (S : ℕ) (calls : List Request) (channel slot : ℕ) (buffer : List ℕ)
    → judge s S (after s S blank calls) (reads channel slot buffer) ≡ None
    → (i : ℕ) (residue : List ℕ) → account_in (after s S blank calls slot) i ≡ Some residue
    → (reader : Channel) × (channel_number reader ≡ channel) × PutBy s S calls slot reader i residue

-- A read of a rack that is accepted: the message is within the allowance of the account that the slot's marks and cells
-- show, margin and e are by that account, and each residue in it was put there by the reading channel itself.
pub record ReadItsOwn (s : Scheme) (S : ℕ) (calls : List Request) (r : State) (channel slot : ℕ) (found : Found)
    (message : List ℕ) : Type 0 where
  pub within : Within s (account_of r slot) message
  pub says : found ≡ found_for s (account_of r slot) message
  pub reader : Channel
  pub number : channel_number reader ≡ channel
  pub own :
      (i : ℕ) (residue : List ℕ) → account_of r slot i ≡ Some residue → PutBy s S calls slot reader i residue

-- So it is of racks: no read of a rack, after any calls from its making, is accepted with a residue that another
-- channel put.
abbrev pub RacksReadTheirOwn : Type 0
RacksReadTheirOwn =
    (s : Scheme) (S : ℕ) (cells : List ℕ) (top : ℕ) (start : State) → Made s S cells top start
    → (calls : List Request) (channel slot : ℕ) (buffer : List ℕ) (found : Found) (r' : State) (given : Request)
    → Performs (fold state_after start calls) (reads channel slot buffer) (Ok (Message found)) r' given
    → (message : List ℕ) × (given ≡ reads channel slot message)
    × ReadItsOwn s S calls (fold state_after start calls) channel slot found message

-- On every rack that agrees with a ledger, the channel that has a slot open there can read each message within the
-- allowance of the slot's account.
abbrev pub OpenSlotsCanBeRead : Type 0
OpenSlotsCanBeRead =
    (r : State) → FieldLaws r.scheme.arithmetic → IsRack r → (l : Ledger) → Agrees r l
    → (slot : ℕ) (channel : Channel) (account : Account) → l slot ≡ open_for channel account
    → (message : List ℕ) → Within r.scheme account message → CanRead r slot channel account message

-- The slot that a call names.
abbrev pub slot_of : Request → ℕ
slot_of (opens channel slot) = slot
slot_of (puts channel slot position residue) = slot
slot_of (strikes channel slot position) = slot
slot_of (reads channel slot buffer) = slot
slot_of (measures channel slot message) = slot
slot_of (closes channel slot) = slot

-- The cells of position i of a slot hold the residue, and there are as many cells as before, all others as they were.
pub record Replaced (s : Scheme) (cells : List ℕ) (slot i : ℕ) (residue cells' : List ℕ) : Type 0 where
  pub long : length cells' ≡ length cells
  pub here : cells_at s cells' slot i ≡ residue
  pub beside :
      (j : ℕ) → (j < cell_of s slot i) ⊎ (cell_of s slot i + degree s i ≤ j) → slice_index cells' j ≡ slice_index cells j

-- What an accepted call leaves as the cells: a put replaces those of its position, and no other call alters any.
abbrev pub CellsLeft : State → Request → List ℕ → Type 0
CellsLeft r (opens channel slot) cells = cells ≡ r.cells
CellsLeft r (puts channel slot position residue) cells = Replaced r.scheme r.cells slot position residue cells
CellsLeft r (strikes channel slot position) cells = cells ≡ r.cells
CellsLeft r (reads channel slot buffer) cells = cells ≡ r.cells
CellsLeft r (measures channel slot message) cells = cells ≡ r.cells
CellsLeft r (closes channel slot) cells = cells ≡ r.cells

-- Whether a position is marked as present in a record.
abbrev pub mark_at : SlotRecord → ℕ → Bool
mark_at entry i = slice_index_or entry.present i false

-- One position's mark becomes another. The owner and the marks of all other positions stay.
pub record Remarked (before : SlotRecord) (position : ℕ) (mark : Bool) (after : SlotRecord) : Type 0 where
  pub owner : after.owner ≡ before.owner
  pub here : mark_at after position ≡ mark
  pub beside : (i : ℕ) → ¬ (i ≡ position) → mark_at after i ≡ mark_at before i

-- What an accepted call leaves as the record of its slot. Open makes the channel its owner, and every position missing;
-- put makes its position present, and strike missing; close leaves no owner, and the marks, which count for nothing
-- then; read and measure alter nothing.
abbrev pub RecordLeft : SlotRecord → Request → SlotRecord → Type 0
RecordLeft before (opens channel slot) after =
    ((owner : Channel) × (after.owner ≡ Some owner) × (channel_number owner ≡ channel))
    × ((i : ℕ) → mark_at after i ≡ false)
RecordLeft before (puts channel slot position residue) after = Remarked before position true after
RecordLeft before (strikes channel slot position) after = Remarked before position false after
RecordLeft before (reads channel slot buffer) after = after ≡ before
RecordLeft before (measures channel slot message) after = after ≡ before
RecordLeft before (closes channel slot) after = (after.owner ≡ None) × (after.present ≡ before.present)

-- What a call alters of a rack.
pub record AltersItsOwn (r : State) (call : Request) : Type 0 where
  -- Where it meets one of the grounds 10 to 17, nothing.
  pub refused : (fault : RackFault) → judge r.scheme r.slots (shown r) call ≡ Some fault → state_after r call ≡ r
  -- Of the records that of its own slot, and no other.
  pub own_record : (slot : ℕ) → ¬ (slot ≡ slot_of call) → record_at (state_after r call) slot ≡ record_at r slot
  -- Of that record the owner, if it opens or closes the slot; and of the marks that of its position alone, if it is a
  -- put or a strike, or all, if it is an open.
  pub in_record :
      judge r.scheme r.slots (shown r) call ≡ None
      → RecordLeft (record_at r (slot_of call)) call (record_at (state_after r call) (slot_of call))
  -- Of the cells those of its position, if it is a put, and no others.
  pub own_cells : judge r.scheme r.slots (shown r) call ≡ None → CellsLeft r call (state_after r call).cells
  -- Of the plan, S and the top, nothing; and there are as many records as before.
  pub scheme_stays : (state_after r call).scheme ≡ r.scheme
  pub slots_stay : (state_after r call).slots ≡ r.slots
  pub top_stays : (state_after r call).top ≡ r.top
  pub table_stays : length (state_after r call).records ≡ length r.records

abbrev pub CallsAlterTheirOwn : Type 0
CallsAlterTheirOwn = (r : State) → IsRack r → (call : Request) → AltersItsOwn r call
