-- What a rack shows after a call is what the ledger makes of what it showed before.
use Rattle.std.proofs.Common.{◌≡◌, ℕ, ◌+◌, ◌*◌, ◌<◌, ◌≤◌, Bool, true, false, cond, eqb, ltb, ◌≢◌, ◌⊎◌, List, [], length, get_or, take, drop, replicate, is_some, Some, None, Option, sym, refl, ap, ◌∙◌, inl, inr, arith}
use mathlib.Core.Path.{fun_ext}
use Rattle.std.proofs.lemmas.Nat.{mul-le}
use Rattle.std.proofs.lemmas.List.{get_or_past, get_or-replicate, get_or-set_other, get_or-set_same, length-replicate}
use Rattle.std.proofs.lemmas.Bool.{cases_lt, cond-true, eqb-true, eqb-false, lt-ltb}
use Rattle.plan.specs.Accounts.{Account}
use Rattle.plan.specs.Limits.{most_positions}
use Rattle.plan.specs.Schemes.{Scheme, degree, degree_of, positions, start, word_length}
use Rattle.plan.proofs.Sizes.{start_monotone, start_next, start_past, start_room}
use Rattle.rack.specs.Channels.{channel_numbered}
use Rattle.rack.specs.Ledger.{SlotState, Ledger, Request, ledger_changed, closed, closes, open_for, judge, measures, opens, puts, reads, step, strikes, with_position, write}
use Rattle.rack.specs.States.{IsRack, State, rack_changed, cell_of, cells_at, slot_state, marked, overwritten, record_at, shown, state_after, with_cells, with_record}
use Rattle.rack.specs.declared.channel.Channel.{Channel}
use Rattle.rack.specs.declared.faults.RackFault.{RackFault}
use Rattle.rack.specs.declared.records.SlotRecord.{SlotRecord}
use Rattle.rack.proofs.Overwriting.{overwritten_beside, overwritten_here}
use Rattle.rack.proofs.Passing.{close_judged, open_judged, put_judged, strike_judged}

-- A slot ends where the next one begins, or before.
pub slot_room : (N t u : ℕ) → t < u → t * N + N ≤ u * N
slot_room N t u l = omega (arith, mul-le (t + 1) N u N (omega arith) (omega arith))

module _ (s : Scheme) where
  -- Every position ends within the word; past the last one there is nothing.
  pub position_room : (i : ℕ) → start s i + degree s i ≤ word_length s
  position_room i =
      elim (cases_lt i (positions s)) [
        | inl l ↦ start_room s i l
        | inr l ↦ omega (arith, start_past s i l, ap degree_of (get_or_past s.moduli i [] l))
      ]

  -- A position of a slot below S lies within the cells.
  pub cells_room : (S slot position : ℕ) → slot < S → cell_of s slot position + degree s position ≤ S * word_length s
  cells_room S slot position l = omega (arith, slot_room (word_length s) slot S l, position_room position)

-- One position of a slot, with a residue for it.
module _ (s : Scheme) (slot position : ℕ) (residue : List ℕ) (long : length residue ≡ degree s position) where
  -- The cells of position i of slot t end before those, or begin after them.
  abbrev Apart : ℕ → ℕ → Type 0
  Apart t i = (cell_of s t i + degree s i ≤ cell_of s slot position) ⊎ (cell_of s slot position + length residue ≤ cell_of s t i)

  -- So it is in every other slot, and at every other position of this one.
  other_slot : (t i : ℕ) → t ≢ slot → Apart t i
  other_slot t i other =
      elim (cases_lt t slot) [
        | inl l ↦ inl (omega (arith, slot_room (word_length s) t slot l, position_room s i))
        | inr l ↦ inr (omega (arith, slot_room (word_length s) slot t (omega arith), position_room s position))
      ]

  other_position : (i : ℕ) → position < positions s → i ≢ position → Apart slot i
  other_position i there other =
      elim (cases_lt i position) [
        | inl l ↦ inl (omega (arith, start_next s i (omega arith), start_monotone s (i + 1) position (omega arith)))
        | inr l ↦ inr (omega (arith, start_next s position there, start_monotone s (position + 1) i (omega arith)))
      ]

  module _ (cells : List ℕ) (room : cell_of s slot position + length residue ≤ length cells) where
    -- Once the residue is written, the position holds it, and what lies apart from it is as it was.
    pub put_here : cells_at s (overwritten cells (cell_of s slot position) residue) slot position ≡ residue
    put_here =
        ap (λ (d : ℕ). take d (drop (cell_of s slot position) (overwritten cells (cell_of s slot position) residue))) (sym long)
        ∙ overwritten_here cells (cell_of s slot position) residue room

    put_beside : (t i : ℕ) → Apart t i → cells_at s (overwritten cells (cell_of s slot position) residue) t i ≡ cells_at s cells t i
    put_beside t i apart = overwritten_beside cells (cell_of s slot position) residue room (cell_of s t i) (degree s i) apart

-- What a mark and the cells show of a position.
abbrev seen : Bool → List ℕ → Option (List ℕ)
seen mark held = cond mark (Some held) None

-- What a record and the cells show of a slot.
abbrev account_by : Scheme → List ℕ → ℕ → SlotRecord → Account
account_by s cells slot entry i = seen (get_or entry.present i false) (cells_at s cells slot i)

abbrev shown_by : Scheme → List ℕ → ℕ → SlotRecord → SlotState
shown_by s cells slot entry = slot_state entry.owner (account_by s cells slot entry)

-- A slot below S shows what its record and the cells say.
shown_inside : (r : State) (slot : ℕ) (entry : SlotRecord) → slot < r.slots → record_at r slot ≡ entry
    → shown r slot ≡ shown_by r.scheme r.cells slot entry
shown_inside r slot entry inside e =
    cond-true (ltb slot r.slots) (shown_by r.scheme r.cells slot (record_at r slot)) closed (lt-ltb slot r.slots inside)
    ∙ ap (shown_by r.scheme r.cells slot) e

-- Cells that hold the same at each position of a slot show the same there.
shown_cells : (s : Scheme) (cells cells' : List ℕ) (slot : ℕ) (entry : SlotRecord)
    → ((i : ℕ) → cells_at s cells' slot i ≡ cells_at s cells slot i)
    → shown_by s cells' slot entry ≡ shown_by s cells slot entry
shown_cells s cells cells' slot entry same =
    ap (slot_state entry.owner) (fun_ext (λ i. ap (seen (get_or entry.present i false)) (same i)))

-- A position becomes another in what is shown, as it does in the ledger, whoever holds the slot.
state_position : (owner : Option Channel) (account : Account) (position : ℕ) (residue : Option (List ℕ))
    → slot_state owner (λ i. cond (eqb i position) residue (account i)) ≡ with_position (slot_state owner account) position residue
state_position None account position residue = refl
state_position (Some channel) account position residue = refl

-- So it becomes where one position is marked, and the cells of the others hold the same.
module _ (s : Scheme) (cells cells' : List ℕ) (slot : ℕ) (entry : SlotRecord) (position : ℕ) (mark : Bool) (residue : Option (List ℕ))
    (inside : position < length entry.present)
    (here : seen mark (cells_at s cells' slot position) ≡ residue)
    (beside : (i : ℕ) → i ≢ position → cells_at s cells' slot i ≡ cells_at s cells slot i) where
  account_marked : (i : ℕ)
      → account_by s cells' slot (marked entry position mark) i ≡ cond (eqb i position) residue (account_by s cells slot entry i)
  account_marked i = go (eqb i position) refl
    where
      go : (same : Bool) → eqb i position ≡ same
          → account_by s cells' slot (marked entry position mark) i ≡ cond same residue (account_by s cells slot entry i)
      go true e =
          let same = eqb-true i position e in
          ap (account_by s cells' slot (marked entry position mark)) same
          ∙ ap (λ (m : Bool). seen m (cells_at s cells' slot position)) (get_or-set_same entry.present position mark false inside)
          ∙ here
      go false e =
          let other = eqb-false i position e in
          ap (λ (m : Bool). seen m (cells_at s cells' slot i)) (get_or-set_other entry.present position i mark false other)
          ∙ ap (seen (get_or entry.present i false)) (beside i other)

  shown_marked : shown_by s cells' slot (marked entry position mark) ≡ with_position (shown_by s cells slot entry) position residue
  shown_marked =
      ap (slot_state entry.owner) (fun_ext account_marked)
      ∙ state_position entry.owner (account_by s cells slot entry) position residue

-- A ledger that is as told at one slot, and as before at the others, is written there.
written : (l l' : Ledger) (slot : ℕ) (entry : SlotState) → l' slot ≡ entry → ((t : ℕ) → t ≢ slot → l' t ≡ l t)
    → (t : ℕ) → l' t ≡ write l slot entry t
written l l' slot entry here beside t = go (eqb t slot) refl
  where
    go : (same : Bool) → eqb t slot ≡ same → l' t ≡ cond same entry (l t)
    go true e = ap l' (eqb-true t slot e) ∙ here
    go false e = beside t (eqb-false t slot e)

-- A list of one value has that value at each place, and past its end too where that is what a place past the end is taken for.
pub all_alike : {A : Type 0} (n i : ℕ) (x : A) → get_or (replicate n x) i x ≡ x
all_alike n i x =
    elim (cases_lt i n) [
      | inl l ↦ get_or-replicate n i x x l
      | inr l ↦ get_or_past (replicate n x) i x (omega (arith, length-replicate n x))
    ]

module _ (r : State) (rack : IsRack r) where
  -- There is a record of each slot, and a mark of each position.
  recorded : (slot : ℕ) → slot < r.slots → slot < length r.records
  recorded slot inside = omega (arith, rack.fits.few, rack.table)

  pub markable : (slot position : ℕ) → slot < r.slots → position < positions r.scheme → position < length (record_at r slot).present
  markable slot position inside there = omega (arith, rack.lawful.few, rack.marks slot inside)

  -- A residue of the right length has its place among the cells.
  pub put_room : (slot position : ℕ) (residue : List ℕ) → slot < r.slots → length residue ≡ degree r.scheme position
      → cell_of r.scheme slot position + length residue ≤ length r.cells
  put_room slot position residue inside long = omega (arith, cells_room r.scheme r.slots slot position inside, rack.fits.room)

  module _ (slot : ℕ) (inside : slot < r.slots) (entry : SlotRecord) where
    -- The record that is written stands at its slot, and those of the others are as they were.
    pub record_here : record_at (with_record r slot entry) slot ≡ entry
    record_here = get_or-set_same r.records slot entry (record { owner = None; present = [] }) (recorded slot inside)

    pub record_beside : (t : ℕ) → t ≢ slot → record_at (with_record r slot entry) t ≡ record_at r t
    record_beside t other = get_or-set_other r.records slot t entry (record { owner = None; present = [] }) other

    -- With another record of a slot, and cells that hold the same for every other slot: that slot shows what they say, the others what they did.
    module _ (cells : List ℕ) (same : (t : ℕ) → t ≢ slot → (i : ℕ) → cells_at r.scheme cells t i ≡ cells_at r.scheme r.cells t i) where
      shown_beside : (t : ℕ) → t ≢ slot → shown (with_cells (with_record r slot entry) cells) t ≡ shown r t
      shown_beside t other =
          ap (λ (x : SlotRecord). cond (ltb t r.slots) (shown_by r.scheme cells t x) closed) (record_beside t other)
          ∙ ap (λ (x : SlotState). cond (ltb t r.slots) x closed) (shown_cells r.scheme r.cells cells t (record_at r t) (same t other))

      record_shown : (t : ℕ)
          → shown (with_cells (with_record r slot entry) cells) t ≡ write (shown r) slot (shown_by r.scheme cells slot entry) t
      record_shown =
          written (shown r) (shown (with_cells (with_record r slot entry) cells)) slot (shown_by r.scheme cells slot entry)
          (shown_inside (with_cells (with_record r slot entry) cells) slot entry inside record_here) shown_beside

  -- The same, of a record with one position marked.
  position_shown : (slot position : ℕ) (mark : Bool) (residue : Option (List ℕ)) (cells : List ℕ)
      → slot < r.slots → position < positions r.scheme
      → seen mark (cells_at r.scheme cells slot position) ≡ residue
      → ((i : ℕ) → i ≢ position → cells_at r.scheme cells slot i ≡ cells_at r.scheme r.cells slot i)
      → ((t : ℕ) → t ≢ slot → (i : ℕ) → cells_at r.scheme cells t i ≡ cells_at r.scheme r.cells t i)
      → (t : ℕ)
      → shown (with_cells (with_record r slot (marked (record_at r slot) position mark)) cells) t
      ≡ write (shown r) slot (with_position (shown r slot) position residue) t
  position_shown slot position mark residue cells inside there here beside same t =
      let marks = markable slot position inside there in
      let becomes = shown_marked r.scheme r.cells cells slot (record_at r slot) position mark residue marks here beside in
      let before = shown_inside r slot (record_at r slot) inside refl in
      record_shown slot inside (marked (record_at r slot) position mark) cells same t
      ∙ ap (λ (x : SlotState). write (shown r) slot x t) (becomes ∙ ap (λ (x : SlotState). with_position x position residue) (sym before))

  -- What a call that meets no ground makes of the rack shows what it makes of the ledger.
  shown_changed : (q : Request) → judge r.scheme r.slots (shown r) q ≡ None → (t : ℕ) → shown (rack_changed r q) t ≡ ledger_changed (shown r) q t
  shown_changed (opens channel slot) e t =
      record_shown slot (open_judged r.scheme r.slots (shown r) channel slot e)
      (record { owner = Some (channel_numbered channel); present = replicate most_positions false }) r.cells (λ t other i. refl) t
      ∙ ap (λ (x : Account). write (shown r) slot (open_for (channel_numbered channel) x) t)
      (fun_ext (λ i. ap (λ (m : Bool). seen m (cells_at r.scheme r.cells slot i)) (all_alike most_positions i false)))
  shown_changed (puts channel slot position residue) e t =
      let judged = put_judged r.scheme r.slots (shown r) channel slot position residue e in
      let long = judged.2 in
      let room = put_room slot position residue judged.0 long in
      let beside = put_beside r.scheme slot position residue long r.cells room in
      position_shown slot position true (Some residue) (overwritten r.cells (cell_of r.scheme slot position) residue) judged.0 judged.1
      (ap Some (put_here r.scheme slot position residue long r.cells room))
      (λ i other. beside slot i (other_position r.scheme slot position residue long i judged.1 other))
      (λ t other i. beside t i (other_slot r.scheme slot position residue long t i other))
      t
  shown_changed (strikes channel slot position) e t =
      let judged = strike_judged r.scheme r.slots (shown r) channel slot position e in
      position_shown slot position false None r.cells judged.0 judged.1 refl (λ i other. refl) (λ t other i. refl) t
  shown_changed (reads channel slot buffer) e t = refl
  shown_changed (measures channel slot message) e t = refl
  shown_changed (closes channel slot) e t =
      record_shown slot (close_judged r.scheme r.slots (shown r) channel slot e)
      (record { owner = None; present = (record_at r slot).present }) r.cells (λ t other i. refl) t

  -- So it is after every call; one that meets a ground leaves both as they were.
  pub shown_after : (q : Request) (t : ℕ) → shown (state_after r q) t ≡ step r.scheme r.slots (shown r) q t
  shown_after q t = go (judge r.scheme r.slots (shown r) q) refl
    where
      go : (found : Option RackFault) → judge r.scheme r.slots (shown r) q ≡ found
          → shown (cond (is_some found) r (rack_changed r q)) t ≡ cond (is_some found) (shown r) (ledger_changed (shown r) q) t
      go (Some fault) e = refl
      go None e = shown_changed q e t
