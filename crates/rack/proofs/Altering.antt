-- What a call alters of a rack: the record of its own slot, and a put the cells of its position.
use Rattle.std.proofs.Common.{◌≡◌, ℕ, ◌<◌, ◌≢◌, Bool, true, false, leb, List, [], length, get_or, take, drop, replicate, is_some, Some, None, cond, Option, sym, refl, ap, ◌∙◌, inl, inr, add-zero, arith}
use Rattle.std.proofs.lemmas.Bool.{cases_eq, leb-false}
use Rattle.std.proofs.lemmas.List.{get_or-drop, get_or-set_other, get_or-set_same, get_or-take, length-set}
use Rattle.plan.specs.Limits.{most_positions}
use Rattle.rack.specs.Channels.{channel_number, channel_numbered, channels}
use Rattle.rack.specs.Laws.{CallsAlterTheirOwn, CellsLeft, RecordLeft, Remarked, Replaced, slot_of}
use Rattle.rack.specs.Ledger.{Request, closes, judge, measures, no_channel, opens, puts, reads, strikes}
use Rattle.rack.specs.States.{IsRack, State, cell_of, marked, overwritten, rack_changed, record_at, shown, state_after, with_record}
use Rattle.rack.specs.declared.faults.RackFault.{RackFault}
use Rattle.rack.specs.declared.faults.RackFault.TheVariants.{NoChannel}
use Rattle.rack.specs.declared.records.SlotRecord.{SlotRecord}
use Rattle.rack.proofs.Overwriting.{overwritten_beside, overwritten_length}
use Rattle.rack.proofs.Passing.{close_judged, first_none, met_none, open_judged, parts_pass, put_judged, strike_judged}
use Rattle.rack.proofs.Performing.{state_same}
use Rattle.rack.proofs.Showing.{all_alike, markable, put_here, put_room, record_here}

-- Lists with the same one number from place j on have the same number there.
number_at : (xs : List ℕ) (j : ℕ) → get_or (take 1 (drop j xs)) 0 0 ≡ get_or xs j 0
number_at xs j =
    get_or-take 1 (drop j xs) 0 0 (omega arith) ∙ get_or-drop j xs 0 0 ∙ ap (λ (n : ℕ). get_or xs n 0) (add-zero j)

same_number : (xs ys : List ℕ) (j : ℕ) → take 1 (drop j xs) ≡ take 1 (drop j ys) → get_or xs j 0 ≡ get_or ys j 0
same_number xs ys j e = sym (number_at xs j) ∙ ap (λ (x : List ℕ). get_or x 0 0) e ∙ number_at ys j

-- A record that is written leaves the others as they were.
others_kept : (r : State) (slot : ℕ) (entry : SlotRecord) (t : ℕ) → t ≢ slot → record_at (with_record r slot entry) t ≡ record_at r t
others_kept r slot entry t other = get_or-set_other r.records slot t entry (record { owner = None; present = [] }) other

-- A number that ground 10 does not refuse is the channel's that it names.
number_back : (channel : ℕ) → no_channel channel ≡ None → channel_number (channel_numbered channel) ≡ channel
number_back channel e =
    let known : channel < channels = leb-false channels channel (met_none (leb channels channel) NoChannel e) in
    elim (cases_eq channel 0) [
      | inl none ↦ rw none refl
      | inr other ↦ let one : channel ≡ 1 = omega (arith, known) in rw one refl
    ]

-- A record with one position marked differs from it there alone.
remarked : (before : SlotRecord) (position : ℕ) (mark : Bool) → position < length before.present
    → Remarked before position mark (marked before position mark)
remarked before position mark inside =
    record {
      owner = refl;
      here = get_or-set_same before.present position mark false inside;
      beside = λ i other. get_or-set_other before.present position i mark false other;
    }

module _ (r : State) where
  changed_record : (call : Request) (t : ℕ) → t ≢ slot_of call → record_at (rack_changed r call) t ≡ record_at r t
  changed_record (opens channel slot) t other = others_kept r slot _ t other
  changed_record (puts channel slot position residue) t other = others_kept r slot _ t other
  changed_record (strikes channel slot position) t other = others_kept r slot _ t other
  changed_record (reads channel slot buffer) t other = refl
  changed_record (measures channel slot message) t other = refl
  changed_record (closes channel slot) t other = others_kept r slot _ t other

  module _ (rack : IsRack r) where
    put_replaces : (channel slot position : ℕ) (residue : List ℕ)
        → judge r.scheme r.slots (shown r) (puts channel slot position residue) ≡ None
        → Replaced r.scheme r.cells slot position residue (overwritten r.cells (cell_of r.scheme slot position) residue)
    put_replaces channel slot position residue e =
        let judged = put_judged r.scheme r.slots (shown r) channel slot position residue e in
        let at = cell_of r.scheme slot position in
        let room = put_room r rack slot position residue judged.0 judged.2 in
        record {
          long = overwritten_length r.cells at residue room;
          here = put_here r.scheme slot position residue judged.2 r.cells room;
          beside = λ j apart.
              same_number (overwritten r.cells at residue) r.cells j
              (overwritten_beside r.cells at residue room j 1 (elim apart [
                | inl before ↦ inl (omega arith)
                | inr after ↦ inr (omega (arith, judged.2))
              ]));
        }

    changed_cells : (call : Request) → judge r.scheme r.slots (shown r) call ≡ None → CellsLeft r call (rack_changed r call).cells
    changed_cells (opens channel slot) e = refl
    changed_cells (puts channel slot position residue) e = put_replaces channel slot position residue e
    changed_cells (strikes channel slot position) e = refl
    changed_cells (reads channel slot buffer) e = refl
    changed_cells (measures channel slot message) e = refl
    changed_cells (closes channel slot) e = refl

    -- The record of its own slot, by the call.
    own_changed : (call : Request) → judge r.scheme r.slots (shown r) call ≡ None
        → RecordLeft (record_at r (slot_of call)) call (record_at (rack_changed r call) (slot_of call))
    own_changed (opens channel slot) e =
        let here = record_here r rack slot (open_judged r.scheme r.slots (shown r) channel slot e)
        (record { owner = Some (channel_numbered channel); present = replicate most_positions false }) in
        let known = (first_none _ _ (parts_pass r.scheme r.slots (shown r) (opens channel slot) e)).0 in
        rw here ((channel_numbered channel, refl, number_back channel known), λ i. all_alike most_positions i false)
    own_changed (puts channel slot position residue) e =
        let judged = put_judged r.scheme r.slots (shown r) channel slot position residue e in
        rw (record_here r rack slot judged.0 (marked (record_at r slot) position true))
        (remarked (record_at r slot) position true (markable r rack slot position judged.0 judged.1))
    own_changed (strikes channel slot position) e =
        let judged = strike_judged r.scheme r.slots (shown r) channel slot position e in
        rw (record_here r rack slot judged.0 (marked (record_at r slot) position false))
        (remarked (record_at r slot) position false (markable r rack slot position judged.0 judged.1))
    own_changed (reads channel slot buffer) e = refl
    own_changed (measures channel slot message) e = refl
    own_changed (closes channel slot) e =
        rw (record_here r rack slot (close_judged r.scheme r.slots (shown r) channel slot e) (record { owner = None; present = (record_at r slot).present }))
        (refl, refl)

  -- The top, and how many records there are.
  rest_changed : (call : Request) → ((rack_changed r call).top ≡ r.top) × (length (rack_changed r call).records ≡ length r.records)
  rest_changed (opens channel slot) = (refl, length-set r.records slot _)
  rest_changed (puts channel slot position residue) = (refl, length-set r.records slot _)
  rest_changed (strikes channel slot position) = (refl, length-set r.records slot _)
  rest_changed (reads channel slot buffer) = (refl, refl)
  rest_changed (measures channel slot message) = (refl, refl)
  rest_changed (closes channel slot) = (refl, length-set r.records slot _)

  -- What the call leaves, by the ground that it meets, if any.
  after_by : (call : Request) (found : Option RackFault) → judge r.scheme r.slots (shown r) call ≡ found
      → state_after r call ≡ cond (is_some found) r (rack_changed r call)
  after_by call found e = ap (λ (o : Option RackFault). cond (is_some o) r (rack_changed r call)) e

pub calls_alter_their_own : CallsAlterTheirOwn
calls_alter_their_own r rack call =
    record {
      refused = λ fault e. after_by r call (Some fault) e;
      own_record = λ t other. go (judge r.scheme r.slots (shown r) call) t other;
      in_record = λ e. rw (after_by r call None e) (own_changed r rack call e);
      own_cells = λ e. rw (after_by r call None e) (changed_cells r rack call e);
      scheme_stays = (state_same r call).0;
      slots_stay = (state_same r call).1;
      top_stays = (rest (is_some (judge r.scheme r.slots (shown r) call))).0;
      table_stays = (rest (is_some (judge r.scheme r.slots (shown r) call))).1;
    }
  where
    rest : (refused : Bool)
        → ((cond refused r (rack_changed r call)).top ≡ r.top) × (length (cond refused r (rack_changed r call)).records ≡ length r.records)
    rest true = (refl, refl)
    rest false = rest_changed r call

    go : (found : Option RackFault) (t : ℕ) → t ≢ slot_of call
        → record_at (cond (is_some found) r (rack_changed r call)) t ≡ record_at r t
    go (Some fault) t other = refl
    go None t other = changed_record r call t other
