-- What the calls that look at a slot's account or put a residue there rest on.
use Rattle.std.proofs.Common.{◌≡◌, ℕ, ◌+◌, ◌<◌, ◌≤◌, true, ltb, List, length, get_or, set, Some, None, Ok, Err, MatchResult, Option, Result, sym, refl, ap, ◌∙◌, subst, arith}
use Rattle.std.proofs.lemmas.Bool.{cond-true, lt-ltb}
use Rattle.plan.specs.Accounts.{Account}
use Rattle.plan.specs.Schemes.{Scheme, degree, positions}
use Rattle.reader.specs.Answers.{Answered, message_of}
use Rattle.reader.specs.declared.answers.Reading.{Reading}
use Rattle.rack.specs.Checks.{holder_ground, owners, residue_ground, settled, use_ground}
use Rattle.rack.specs.Ledger.{account_in, code_fault, no_channel, no_code, no_position, puts, wrong_length}
use Rattle.rack.specs.Reads.{SlotRead}
use Rattle.rack.specs.States.{IsRack, Performs, State, account_of, cell_of, marked, overwritten, record_at, shown, slot_state}
use Rattle.rack.specs.Stored.{Stored}
use Rattle.rack.specs.Told.{ReadAs}
use Rattle.rack.specs.declared.call.Answer.TheVariants.{Done, Message}
use Rattle.rack.specs.declared.call.Found.{Found}
use Rattle.rack.specs.declared.channel.Channel.{Channel}
use Rattle.rack.specs.declared.faults.RackFault.{RackFault}
use Rattle.rack.specs.declared.faults.RackFault.TheVariants.{Slot}
use Rattle.rack.specs.declared.faults.SlotFault.{SlotFault}
use Rattle.rack.specs.declared.records.SlotRecord.{SlotRecord}
use Rattle.rack.proofs.Judging.{later_passes, ok_checked, passes, use_allowed}
use Rattle.rack.proofs.Numbers.{none_beyond}
use Rattle.rack.proofs.Passing.{first_none, put_passes}
use Rattle.rack.proofs.Showing.{put_room}

-- The account of a slot that is in use, in the ledger that the rack shows, is the one by its marks and cells.
pub account_used : (r : State) (channel slot : ℕ) → Ok tt ≡ settled (use_ground r.slots (owners r.records) channel slot)
    → account_in (shown r slot) ≡ account_of r slot
account_used r channel slot e =
    ap account_in (cond-true (ltb slot r.slots) _ _ (lt-ltb slot r.slots (use_allowed r channel slot e)))
    ∙ go (record_at r slot).owner (first_none _ _ (first_none (no_channel channel) _ (ok_checked tt tt _ e).0).1).1
  where
    go : (owner : Option Channel) → holder_ground channel slot owner ≡ None → account_in (slot_state owner (account_of r slot)) ≡ account_of r slot
    go None none = cc
    go (Some owner) none = refl

-- A reading of the slot's account, as the rack takes it up: one that the reader gives, and one that it refuses.
module _ (s : Scheme) (account shown_account : Account) (same : shown_account ≡ account) (slot : ℕ) (before : List ℕ) where
  pub reading_found : (result : Result Reading SlotFault) (reading : Reading) (buffer : List ℕ) (found : Found)
      → MatchResult result (λ x. ◌≡◌ {A = Result Reading RackFault} (Ok reading) (Ok x)) (λ cause. ⊥)
      → SlotRead s account result → buffer ≡ message_of reading
      → found.margin ≡ reading.margin → found.wrong ≡ reading.wrong → ReadAs s shown_account slot before buffer (Ok (Message found))
  reading_found (Ok x) reading buffer found is answered filled margin_is wrong_is =
      let given : reading ≡ x = cc in
      rw (same, filled, margin_is, wrong_is, given) answered
  reading_found (Err cause) reading buffer found is answered filled margin_is wrong_is = absurd is

  pub reading_refused : (result : Result Reading SlotFault) (fault : RackFault)
      → MatchResult result (λ x. ◌≡◌ {A = Result Reading RackFault} (Err fault) (Ok x)) (λ cause. fault ≡ Slot slot cause)
      → SlotRead s account result → ReadAs s shown_account slot before before (Err fault)
  reading_refused (Ok x) fault is answered = cc
  reading_refused (Err cause) fault is answered =
      (refl, (answered.0, is ∙ ap (Slot slot) answered.1, subst (λ (a : Account). Answered s a (Err answered.0)) (sym same) answered.2))

code_none : (slot : ℕ) (o : Option ℕ) → code_fault slot o ≡ None → o ≡ None
code_none slot None e = refl
code_none slot (Some index) e = cc

-- A residue that passes its checks has its place among the cells, and each of its codes is within the top.
pub record Placed (r : State) (slot position : ℕ) (residue : List ℕ) : Type 0 where
  pub inside : slot < r.slots
  pub there : position < positions r.scheme
  pub room : cell_of r.scheme slot position + length residue ≤ length r.cells
  pub codes : (i : ℕ) → i < length residue → get_or residue i 0 ≤ r.top

pub placed : (r : State) (channel slot position : ℕ) (residue : List ℕ) → IsRack r
    → Ok tt ≡ settled (use_ground r.slots (owners r.records) channel slot) → Ok tt ≡ settled (residue_ground r.scheme slot position residue)
    → Placed r slot position residue
placed r channel slot position residue rack allowed fitting =
    let fits = (ok_checked tt tt _ fitting).0 in
    let passes = put_passes r.scheme slot position residue fits in
    let inside = use_allowed r channel slot allowed in
    let right = wrong_length slot (degree r.scheme position) residue in
    let codes = (first_none right (no_code r.scheme slot residue) (first_none (no_position r.scheme slot position) _ fits).1).1 in
    record {
      inside = inside;
      there = passes.0;
      room = put_room r rack slot position residue inside passes.1;
      codes = λ i below. omega (arith, none_beyond r.scheme.arithmetic.order residue (code_none slot _ codes) i below, rack.fits.wide);
    }

-- Where the residue is stored and its position marked, the put is performed.
pub put_performs : (r : State) (channel slot position : ℕ) (residue : List ℕ) → IsRack r
    → Ok tt ≡ settled (use_ground r.slots (owners r.records) channel slot) → Ok tt ≡ settled (residue_ground r.scheme slot position residue)
    → (at : ℕ) → at ≡ cell_of r.scheme slot position → (cells : List ℕ) (top : ℕ) → Stored r.cells r.top at residue cells top
    → (entry : SlotRecord) → entry ≡ marked (record_at r slot) position true
    → Performs r (puts channel slot position residue) (Ok Done)
    (record { scheme = r.scheme; slots = r.slots; records = set r.records slot entry; cells = cells; top = top }) (puts channel slot position residue)
put_performs r channel slot position residue rack allowed fitting at at_is cells top stored entry entry_is =
    let request = puts channel slot position residue in
    let fits = placed r channel slot position residue rack allowed fitting in
    let written : cells ≡ overwritten r.cells (cell_of r.scheme slot position) residue =
    stored.written (omega (arith, fits.room, at_is)) fits.codes ∙ ap (λ n. overwritten r.cells n residue) at_is in
    rw (entry_is, written, stored.kept) (passes r request _ _ (later_passes r channel slot request _ refl allowed fitting) (refl, refl) _ refl rack)
