-- The checks of a call against the ledger that the rack shows, and what follows where a check refuses or passes.
use Rattle.std.proofs.Common.{◌≡◌, ℕ, ◌<◌, Bool, true, false, cond, ltb, leb, List, is_some, Some, None, Ok, Err, IsErrAnd, Option, Result, sym, refl, ap, ◌∙◌}
use Rattle.std.proofs.lemmas.Bool.{cond-true, leb-false, lt-ltb}
use Rattle.plan.specs.Accounts.{Account}
use Rattle.rack.specs.Told.{Outcome, Passed}
use Rattle.rack.specs.Channels.{channel_numbered}
use Rattle.rack.specs.Checks.{checked, granted, holder_ground, open_ground, opening_ground, owners, settled, use_ground}
use Rattle.rack.specs.Ledger.{Request, first_of, judge, met, no_channel, no_slot, opens, reads}
use Rattle.rack.specs.Racks.{outcome_of}
use Rattle.rack.specs.States.{IsRack, Performs, State, account_of, rack_changed, slot_state, record_at, shown}
use Rattle.rack.specs.declared.call.Answer.{Answer}
use Rattle.rack.specs.declared.channel.Channel.{Channel}
use Rattle.rack.specs.declared.faults.RackFault.{RackFault}
use Rattle.rack.specs.declared.faults.RackFault.TheVariants.{Slot}
use Rattle.rack.specs.declared.faults.SlotFault.TheVariants.{NoSlot}
use Rattle.rack.proofs.Passing.{holder, in_parts, judge_parts, use_passes, used}
use Rattle.rack.proofs.Performing.{performs}

-- What a check answers says which ground it found.
pub err_checked : {X : Type 0} (x : X) (o : Option RackFault) (fault : RackFault) → Err fault ≡ checked x o → o ≡ Some fault
err_checked x None fault e = cc
err_checked x (Some g) fault e = cc

pub ok_checked : {X : Type 0} (x y : X) (o : Option RackFault) → Ok y ≡ checked x o → (o ≡ None) × (y ≡ x)
ok_checked x y None e = (refl, cc)
ok_checked x y (Some g) e = cc

-- The holder of a slot that the rack shows is the owner in its record.
holder_holding : (o : Option Channel) (account : Account) → holder (slot_state o account) ≡ o
holder_holding None account = refl
holder_holding (Some channel) account = refl

module _ (r : State) (slot : ℕ) where
  holder_shown : slot < r.slots → holder (shown r slot) ≡ owners r.records slot
  holder_shown below =
      ap holder (cond-true (ltb slot r.slots) _ _ (lt-ltb slot r.slots below))
      ∙ holder_holding (record_at r slot).owner (account_of r slot)

  -- Where the slot is none of the rack's, the ground is found before its holder is looked at.
  slot_first : (x y : Option RackFault) → (slot < r.slots → x ≡ y) → first_of (no_slot r.slots slot) x ≡ first_of (no_slot r.slots slot) y
  slot_first x y same = go (leb r.slots slot) refl
    where
      go : (b : Bool) → leb r.slots slot ≡ b
          → first_of (met b (Slot slot NoSlot)) x ≡ first_of (met b (Slot slot NoSlot)) y
      go true q = refl
      go false q = same (leb-false r.slots slot q)

  pub use_shown : (channel : ℕ) → use_ground r.slots (owners r.records) channel slot ≡ use_ground r.slots (λ t. holder (shown r t)) channel slot
  use_shown channel = ap (first_of (no_channel channel)) (slot_first _ _ (λ below. ap (holder_ground channel slot) (sym (holder_shown below))))

  pub open_shown : (channel : ℕ) → open_ground r.slots (owners r.records) channel slot ≡ open_ground r.slots (λ t. holder (shown r t)) channel slot
  open_shown channel = ap (first_of (no_channel channel)) (slot_first _ _ (λ below. ap (opening_ground slot) (sym (holder_shown below))))

module _ (r : State) (request : Request) where
  -- A call that meets a ground is refused by it, and alters nothing.
  pub refuses : (fault : RackFault) → judge r.scheme r.slots (shown r) request ≡ Some fault → IsRack r
      → Performs r request (Err fault) r request
  refuses fault e h =
      performs r h request (Err fault) request
      (record {
        refused = λ other e'. (cc, refl);
        passed = λ e'. cc;
      })
      r (sym (ap (λ (o : Option RackFault). cond (is_some o) r (rack_changed r request)) e))

  -- One that meets none does what it says.
  pub passes : (outcome : Outcome) (given : Request) → judge r.scheme r.slots (shown r) request ≡ None
      → Passed r.scheme (shown r) request outcome given → (r' : State) → r' ≡ rack_changed r request → IsRack r
      → Performs r request outcome r' given
  passes outcome given e told r' left h =
      performs r h request outcome given
      (record { refused = λ fault e'. cc; passed = λ _. told })
      r' (left ∙ sym (ap (λ (o : Option RackFault). cond (is_some o) r (rack_changed r request)) e))

-- A call that passes a check's fault on answers with it.
pub passed_on : {X : Type 0} (answer : X → Answer) {r : State} {request : Request} {fault : RackFault} (result : Result X RackFault)
    → IsErrAnd result (λ other. other ≡ fault) → Performs r request (Err fault) r request → Performs r request (outcome_of answer result) r request
passed_on answer (Ok given) is p = absurd is
passed_on answer (Err other) is p = rw is p

-- A call but open, by the checks that the rack makes: whether the channel may use the slot, and then the others.
module _ (r : State) (channel slot : ℕ) (request : Request) (later : Option RackFault)
    (parts : in_parts r.scheme r.slots (shown r) request ≡ first_of (used r.scheme r.slots (shown r) channel slot) later) where
  -- The first check decides where it refuses, and else the others.
  judged_by : (first : Option RackFault) → use_ground r.slots (owners r.records) channel slot ≡ first
      → judge r.scheme r.slots (shown r) request ≡ first_of first later
  judged_by first e =
      judge_parts r.scheme r.slots (shown r) request ∙ parts
      ∙ ap (λ (o : Option RackFault). first_of o later) (sym (use_shown r slot channel) ∙ e)

  pub use_refuses : (fault : RackFault) → Err fault ≡ settled (use_ground r.slots (owners r.records) channel slot) → IsRack r
      → Performs r request (Err fault) r request
  use_refuses fault e = refuses r request fault (judged_by (Some fault) (err_checked tt _ fault e))

  module _ (allowed : Ok tt ≡ settled (use_ground r.slots (owners r.records) channel slot)) where
    pub later_refuses : (fault : RackFault) → Err fault ≡ settled later → IsRack r → Performs r request (Err fault) r request
    later_refuses fault e = refuses r request fault (judged_by None (ok_checked tt tt _ allowed).0 ∙ err_checked tt later fault e)

    pub later_passes : Ok tt ≡ settled later → judge r.scheme r.slots (shown r) request ≡ None
    later_passes e = judged_by None (ok_checked tt tt _ allowed).0 ∙ (ok_checked tt tt later e).0

-- A channel that may use a slot uses one of the rack's.
pub use_allowed : (r : State) (channel slot : ℕ) → Ok tt ≡ settled (use_ground r.slots (owners r.records) channel slot) → slot < r.slots
use_allowed r channel slot e = use_passes r.slots (owners r.records) channel slot (ok_checked tt tt _ e).0

-- An open, by the one check that the rack makes.
pub open_judged_by : (r : State) (channel slot : ℕ)
    → judge r.scheme r.slots (shown r) (opens channel slot) ≡ open_ground r.slots (owners r.records) channel slot
open_judged_by r channel slot = judge_parts r.scheme r.slots (shown r) (opens channel slot) ∙ sym (open_shown r slot channel)

pub open_refuses : (r : State) (channel slot : ℕ) (fault : RackFault)
    → Err fault ≡ granted channel (open_ground r.slots (owners r.records) channel slot) → IsRack r
    → Performs r (opens channel slot) (Err fault) r (opens channel slot)
open_refuses r channel slot fault e =
    refuses r (opens channel slot) fault
    (open_judged_by r channel slot ∙ err_checked (channel_numbered channel) (open_ground r.slots (owners r.records) channel slot) fault e)

-- A read of a buffer, told of what is equal to it.
pub read_carried : (r r' : State) (request : Request) (outcome outcome' : Outcome) (channel slot : ℕ) (before before' after after' : List ℕ)
    → request ≡ reads channel slot before' → before ≡ before' → outcome' ≡ outcome → after' ≡ after
    → Performs r (reads channel slot before) outcome r' (reads channel slot after) → Performs r request outcome' r' (reads channel slot after')
read_carried r r' request outcome outcome' channel slot before before' after after' asks same is filled p = rw (asks, ← same, is, filled) p
