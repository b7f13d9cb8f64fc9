-- What a call that meets none of the grounds 10 to 17 has shown of what it is given; and the grounds in the parts in which the
-- rack looks for them.
use Rattle.std.proofs.Common.{◌≡◌, ℕ, ◌<◌, Bool, true, false, not, eqb, leb, List, length, Some, None, Option, sym, refl, ap, ◌∙◌}
use Rattle.std.proofs.lemmas.Bool.{eqb-true, leb-false, not-false}
use Rattle.plan.specs.Schemes.{Scheme, degree, message_length, positions}
use Rattle.rack.specs.Channels.{channel_number}
use Rattle.rack.specs.Checks.{holder_ground, message_ground, open_ground, opening_ground, residue_ground, use_ground}
use Rattle.rack.specs.Ledger.{Ledger, Request, SlotState, closed, closes, first_of, is_closed, judge, measures, met, no_channel, no_code, no_position, no_slot, open_already, open_for, opens, other_channel, puts, reads, strikes, wrong_length}
use Rattle.rack.specs.declared.channel.Channel.{Channel}
use Rattle.rack.specs.declared.faults.RackFault.{RackFault}
use Rattle.rack.specs.declared.faults.RackFault.TheVariants.{Slot}
use Rattle.rack.specs.declared.faults.SlotFault.TheVariants.{NoPosition, NoSlot, OtherChannel, WrongLength}

-- Of two grounds neither is met.
pub first_none : (x y : Option RackFault) → first_of x y ≡ None → (x ≡ None) × (y ≡ None)
first_none None y e = (refl, e)
first_none (Some fault) y e = cc

-- Grounds in a row may be taken in parts, and nothing after them changes nothing.
first_assoc : (x y z : Option RackFault) → first_of x (first_of y z) ≡ first_of (first_of x y) z
first_assoc None y z = refl
first_assoc (Some fault) y z = refl

pub first_last : (x : Option RackFault) → first_of x None ≡ x
first_last None = refl
first_last (Some fault) = refl

-- Who holds a slot.
abbrev pub holder : SlotState → Option Channel
holder closed = None
holder (open_for channel account) = Some channel

holder_parts : (channel slot : ℕ) (entry : SlotState) (later : Option RackFault)
    → first_of (is_closed slot entry) (first_of (other_channel channel slot entry) later)
    ≡ first_of (holder_ground channel slot (holder entry)) later
holder_parts channel slot closed later = refl
holder_parts channel slot (open_for owner account) later = refl

opening_parts : (slot : ℕ) (entry : SlotState) → first_of (open_already slot entry) None ≡ opening_ground slot (holder entry)
opening_parts slot closed = refl
opening_parts slot (open_for owner account) = refl

module _ (s : Scheme) (S : ℕ) (l : Ledger) where
  abbrev pub used : ℕ → ℕ → Option RackFault
  used channel slot = use_ground S (λ t. holder (l t)) channel slot

  -- The grounds of a call but open: whether the channel may use the slot, and then the others.
  use_parts : (channel slot : ℕ) (later : Option RackFault)
      → first_of (no_channel channel) (first_of (no_slot S slot) (first_of (is_closed slot (l slot)) (first_of (other_channel channel slot (l slot)) later)))
      ≡ first_of (used channel slot) later
  use_parts channel slot later =
      ap (λ (x : Option RackFault). first_of (no_channel channel) (first_of (no_slot S slot) x)) (holder_parts channel slot (l slot) later)
      ∙ ap (first_of (no_channel channel)) (first_assoc (no_slot S slot) (holder_ground channel slot (holder (l slot))) later)
      ∙ first_assoc (no_channel channel) (first_of (no_slot S slot) (holder_ground channel slot (holder (l slot)))) later

  -- The grounds of each call, in the parts in which the rack looks for them.
  abbrev pub in_parts : Request → Option RackFault
  in_parts (opens channel slot) = open_ground S (λ t. holder (l t)) channel slot
  in_parts (puts channel slot position residue) = first_of (used channel slot) (residue_ground s slot position residue)
  in_parts (strikes channel slot position) = first_of (used channel slot) (no_position s slot position)
  in_parts (reads channel slot buffer) = first_of (used channel slot) (wrong_length slot (message_length s) buffer)
  in_parts (measures channel slot message) = first_of (used channel slot) (message_ground s slot message)
  in_parts (closes channel slot) = used channel slot

  pub judge_parts : (request : Request) → judge s S l request ≡ in_parts request
  judge_parts (opens channel slot) =
      ap (λ (x : Option RackFault). first_of (no_channel channel) (first_of (no_slot S slot) x)) (opening_parts slot (l slot))
  judge_parts (puts channel slot position residue) =
      use_parts channel slot _
      ∙ ap (λ (x : Option RackFault). first_of (used channel slot) (first_of (no_position s slot position) (first_of (wrong_length slot (degree s position) residue) x)))
      (first_last (no_code s slot residue))
  judge_parts (strikes channel slot position) =
      use_parts channel slot _ ∙ ap (first_of (used channel slot)) (first_last (no_position s slot position))
  judge_parts (reads channel slot buffer) =
      use_parts channel slot _ ∙ ap (first_of (used channel slot)) (first_last (wrong_length slot (message_length s) buffer))
  judge_parts (measures channel slot message) =
      use_parts channel slot _
      ∙ ap (λ (x : Option RackFault). first_of (used channel slot) (first_of (wrong_length slot (message_length s) message) x))
      (first_last (no_code s slot message))
  judge_parts (closes channel slot) = use_parts channel slot None ∙ first_last (used channel slot)

  -- A call that the ledger passes meets no ground in any of the parts.
  pub parts_pass : (request : Request) → judge s S l request ≡ None → in_parts request ≡ None
  parts_pass request e = sym (judge_parts request) ∙ e

-- A ground is not met: its test fails.
pub met_none : (test : Bool) (fault : RackFault) → met test fault ≡ None → test ≡ false
met_none true fault e = cc
met_none false fault e = refl

-- Where 10 and 11 are not met there is such a slot, whatever else is asked.
slot_passes : (S channel slot : ℕ) (later : Option RackFault)
    → first_of (no_channel channel) (first_of (no_slot S slot) later) ≡ None → slot < S
slot_passes S channel slot later e =
    let there = (first_none (no_slot S slot) later (first_none (no_channel channel) (first_of (no_slot S slot) later) e).1).0 in
    leb-false S slot (met_none (leb S slot) (Slot slot NoSlot) there)

-- So it is for every call but open, and for open.
pub use_passes : (S : ℕ) (holders : ℕ → Option Channel) (channel slot : ℕ) → use_ground S holders channel slot ≡ None → slot < S
use_passes S holders channel slot e = slot_passes S channel slot (holder_ground channel slot (holders slot)) e

pub open_passes : (S : ℕ) (holders : ℕ → Option Channel) (channel slot : ℕ) → open_ground S holders channel slot ≡ None → slot < S
open_passes S holders channel slot e = slot_passes S channel slot (opening_ground slot (holders slot)) e

-- 15 is not met: there is such a position.
pub position_passes : (s : Scheme) (slot position : ℕ) → no_position s slot position ≡ None → position < positions s
position_passes s slot position e =
    leb-false (positions s) position (met_none (leb (positions s) position) (Slot slot (NoPosition position)) e)

-- 16 is not met: the codes have the right length.
pub length_passes : (slot right : ℕ) (codes : List ℕ) → wrong_length slot right codes ≡ None → length codes ≡ right
length_passes slot right codes e =
    eqb-true (length codes) right (not-false (eqb (length codes) right) (met_none (not (eqb (length codes) right)) (Slot slot (WrongLength right)) e))

-- Both, of a residue.
pub put_passes : (s : Scheme) (slot position : ℕ) (residue : List ℕ) → residue_ground s slot position residue ≡ None
    → (position < positions s) × (length residue ≡ degree s position)
put_passes s slot position residue e =
    let right = wrong_length slot (degree s position) residue in
    let parts = first_none (no_position s slot position) (first_of right (no_code s slot residue)) e in (
      position_passes s slot position parts.0,
      length_passes slot (degree s position) residue (first_none right (no_code s slot residue) parts.1).0,
    )

-- 12 and 14 are not met: the channel is that of the slot's holder.
holder_passes : (channel slot : ℕ) (holding : Option Channel) → holder_ground channel slot holding ≡ None
    → (owner : Channel) × (holding ≡ Some owner) × (channel_number owner ≡ channel)
holder_passes channel slot None e = cc
holder_passes channel slot (Some owner) e =
    let same = eqb (channel_number owner) channel in
    (owner, refl, eqb-true (channel_number owner) channel (not-false same (met_none (not same) (Slot slot OtherChannel) e)))

-- The same, of calls that a ledger passes.
module _ (s : Scheme) (S : ℕ) (l : Ledger) where
  inside : (channel slot : ℕ) → used s S l channel slot ≡ None → slot < S
  inside channel slot e = use_passes S (λ t. holder (l t)) channel slot e

  pub open_judged : (channel slot : ℕ) → judge s S l (opens channel slot) ≡ None → slot < S
  open_judged channel slot e = open_passes S (λ t. holder (l t)) channel slot (parts_pass s S l (opens channel slot) e)

  pub put_judged : (channel slot position : ℕ) (residue : List ℕ) → judge s S l (puts channel slot position residue) ≡ None
      → (slot < S) × (position < positions s) × (length residue ≡ degree s position)
  put_judged channel slot position residue e =
      let parts = first_none (used s S l channel slot) (residue_ground s slot position residue) (parts_pass s S l (puts channel slot position residue) e) in
      let fits = put_passes s slot position residue parts.1 in
      (inside channel slot parts.0, fits.0, fits.1)

  -- The number that a put or a read names is that of the slot's holder.
  user : (channel slot : ℕ) → used s S l channel slot ≡ None
      → (owner : Channel) × (holder (l slot) ≡ Some owner) × (channel_number owner ≡ channel)
  user channel slot e =
      let holding = holder_ground channel slot (holder (l slot)) in
      let named = first_none (no_channel channel) (first_of (no_slot S slot) holding) e in
      holder_passes channel slot (holder (l slot)) (first_none (no_slot S slot) holding named.1).1

  pub put_user : (channel slot position : ℕ) (residue : List ℕ) → judge s S l (puts channel slot position residue) ≡ None
      → (owner : Channel) × (holder (l slot) ≡ Some owner) × (channel_number owner ≡ channel)
  put_user channel slot position residue e =
      let parts = first_none (used s S l channel slot) (residue_ground s slot position residue) (parts_pass s S l (puts channel slot position residue) e) in
      user channel slot parts.0

  pub read_user : (channel slot : ℕ) (buffer : List ℕ) → judge s S l (reads channel slot buffer) ≡ None
      → (owner : Channel) × (holder (l slot) ≡ Some owner) × (channel_number owner ≡ channel)
  read_user channel slot buffer e =
      let right = wrong_length slot (message_length s) buffer in
      user channel slot (first_none (used s S l channel slot) right (parts_pass s S l (reads channel slot buffer) e)).0

  pub strike_judged : (channel slot position : ℕ) → judge s S l (strikes channel slot position) ≡ None
      → (slot < S) × (position < positions s)
  strike_judged channel slot position e =
      let parts = first_none (used s S l channel slot) (no_position s slot position) (parts_pass s S l (strikes channel slot position) e) in
      (inside channel slot parts.0, position_passes s slot position parts.1)

  pub close_judged : (channel slot : ℕ) → judge s S l (closes channel slot) ≡ None → slot < S
  close_judged channel slot e = inside channel slot (parts_pass s S l (closes channel slot) e)
