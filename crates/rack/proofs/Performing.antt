-- A call that is answered by what the rack shows, and leaves what it makes of the rack, is performed.
use Rattle.std.proofs.Common.{◌≡◌, ℕ, ◌<◌, Bool, true, false, cond, List, length, replicate, is_some, Some, None, Option, sym, refl, ap, ◌∙◌, subst, inl, inr, arith}
use mathlib.Core.Path.{fun_ext}
use Rattle.std.proofs.lemmas.List.{length-set}
use Rattle.std.proofs.lemmas.Bool.{cases_eq}
use Rattle.plan.specs.Limits.{most_positions}
use Rattle.rack.specs.Told.{Outcome, Told}
use Rattle.rack.specs.Channels.{channel_numbered}
use Rattle.rack.specs.Ledger.{Ledger, Request, closes, judge, measures, opens, puts, reads, step, strikes}
use Rattle.rack.specs.States.{Agrees, IsRack, Performs, State, rack_changed, cell_of, marked, overwritten, record_at, shown, state_after, with_cells, with_record}
use Rattle.rack.specs.declared.faults.RackFault.{RackFault}
use Rattle.rack.specs.declared.records.SlotRecord.{SlotRecord}
use Rattle.rack.proofs.Overwriting.{overwritten_length}
use Rattle.rack.proofs.Passing.{close_judged, open_judged, put_judged, strike_judged}
use Rattle.rack.proofs.Showing.{put_room, record_here, record_beside, shown_after}

-- A call leaves the scheme and S as they were.
pub state_same : (r : State) (q : Request) → ((state_after r q).scheme ≡ r.scheme) × ((state_after r q).slots ≡ r.slots)
state_same r q = go (is_some (judge r.scheme r.slots (shown r) q))
  where
    changed_same : (q : Request) → ((rack_changed r q).scheme ≡ r.scheme) × ((rack_changed r q).slots ≡ r.slots)
    changed_same (opens channel slot) = (refl, refl)
    changed_same (puts channel slot position residue) = (refl, refl)
    changed_same (strikes channel slot position) = (refl, refl)
    changed_same (reads channel slot buffer) = (refl, refl)
    changed_same (measures channel slot message) = (refl, refl)
    changed_same (closes channel slot) = (refl, refl)

    go : (refused : Bool) → ((cond refused r (rack_changed r q)).scheme ≡ r.scheme) × ((cond refused r (rack_changed r q)).slots ≡ r.slots)
    go true = (refl, refl)
    go false = changed_same q

module _ (r : State) (rack : IsRack r) where
  -- A rack stays one with another record of a slot, if that has all marks, and with other cells, if they are as many.
  record_stays : (slot : ℕ) → slot < r.slots → (entry : SlotRecord) → length entry.present ≡ most_positions
      → (cells : List ℕ) → length cells ≡ length r.cells
      → IsRack (with_cells (with_record r slot entry) cells)
  record_stays slot inside entry all cells long =
      record {
        lawful = rack.lawful;
        fits = record { some = rack.fits.some; few = rack.fits.few; room = omega (arith, rack.fits.room); wide = rack.fits.wide };
        table = length-set r.records slot entry ∙ rack.table;
        marks = marks;
      }
    where
      marks : (t : ℕ) → t < r.slots → length (record_at (with_record r slot entry) t).present ≡ most_positions
      marks t below =
          elim (cases_eq t slot) [
            | inl same ↦
                ap (λ (u : ℕ). length (record_at (with_record r slot entry) u).present) same
                ∙ ap (λ (x : SlotRecord). length x.present) (record_here r rack slot inside entry) ∙ all
            | inr other ↦ ap (λ (x : SlotRecord). length x.present) (record_beside r rack slot inside entry t other) ∙ rack.marks t below
          ]

  -- A record with one position marked has all marks.
  marked_length : (slot : ℕ) → slot < r.slots → (position : ℕ) (mark : Bool)
      → length (marked (record_at r slot) position mark).present ≡ most_positions
  marked_length slot inside position mark = length-set (record_at r slot).present position mark ∙ rack.marks slot inside

  -- What a call makes of a rack is a rack: of a call that meets no ground, and of every call.
  changed_stays : (q : Request) → judge r.scheme r.slots (shown r) q ≡ None → IsRack (rack_changed r q)
  changed_stays (opens channel slot) e =
      record_stays slot (open_judged r.scheme r.slots (shown r) channel slot e)
      (record { owner = Some (channel_numbered channel); present = replicate most_positions false }) refl r.cells refl
  changed_stays (puts channel slot position residue) e =
      let judged = put_judged r.scheme r.slots (shown r) channel slot position residue e in
      let room = put_room r rack slot position residue judged.0 judged.2 in
      record_stays slot judged.0 (marked (record_at r slot) position true) (marked_length slot judged.0 position true)
      (overwritten r.cells (cell_of r.scheme slot position) residue)
      (overwritten_length r.cells (cell_of r.scheme slot position) residue room)
  changed_stays (strikes channel slot position) e =
      let judged = strike_judged r.scheme r.slots (shown r) channel slot position e in
      record_stays slot judged.0 (marked (record_at r slot) position false) (marked_length slot judged.0 position false) r.cells refl
  changed_stays (reads channel slot buffer) e = rack
  changed_stays (measures channel slot message) e = rack
  changed_stays (closes channel slot) e =
      let inside = close_judged r.scheme r.slots (shown r) channel slot e in
      record_stays slot inside (record { owner = None; present = (record_at r slot).present }) (rack.marks slot inside) r.cells refl

  pub stays_rack : (q : Request) → IsRack (state_after r q)
  stays_rack q = go (judge r.scheme r.slots (shown r) q) refl
    where
      go : (found : Option RackFault) → judge r.scheme r.slots (shown r) q ≡ found → IsRack (cond (is_some found) r (rack_changed r q))
      go (Some fault) e = rack
      go None e = changed_stays q e

  -- A call that is told by what the rack shows, and leaves what it makes of the rack, is told so by every ledger that agrees.
  pub performs : (request : Request) (outcome : Outcome) (given : Request)
      → Told r.scheme r.slots (shown r) request outcome given
      → (r' : State) → r' ≡ state_after r request → Performs r request outcome r' given
  performs request outcome given told r' left =
      record {
        told = told;
        left = left;
        stays = subst IsRack (sym left) (stays_rack request);
        agrees = λ l same.
            subst (λ (l : Ledger). Told r.scheme r.slots l request outcome given × Agrees r' (step r.scheme r.slots l request))
            (fun_ext same)
            (told, λ t. ap (λ (x : State). shown x t) left ∙ shown_after r rack request t);
      }
