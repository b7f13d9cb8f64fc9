-- What a read of a rack gives: the message within the allowance, found from residues that the reading channel put there itself.
use Rattle.std.proofs.Common.{◌≡◌, ℕ, ◌<◌, Bool, true, false, cond, ltb, List, length, Some, None, Ok, Err, Option, sym, refl, ap, ◌∙◌, subst}
use Rattle.std.proofs.lemmas.Bool.{eq-eqb, lt-leb, ltb-true}
use Rattle.plan.specs.Accounts.{Account}
use Rattle.plan.specs.Schemes.{Scheme, message_length}
use Rattle.rack.specs.CanRead.{HoldsAccount}
use Rattle.rack.specs.Channels.{channel_number}
use Rattle.rack.specs.Laws.{OpenSlotsCanBeRead, RacksReadTheirOwn, ReadItsOwn}
use Rattle.rack.specs.Ledger.{Ledger, Request, account_in, after, blank, closed, judge, no_channel, open_for, reads}
use Rattle.rack.specs.States.{Agrees, State, account_of, cells_at, record_at, slot_state}
use Rattle.rack.specs.Told.{Outcome, ReadAs, Told, found_for}
use Rattle.rack.specs.declared.call.Answer.TheVariants.{Message}
use Rattle.rack.specs.declared.call.Found.{Found}
use Rattle.rack.specs.declared.channel.Channel.{Channel}
use Rattle.rack.specs.declared.channel.Channel.TheVariants as channel
use Rattle.rack.specs.declared.faults.RackFault.{RackFault}
use Rattle.rack.proofs.Determining.{read_gives}
use Rattle.rack.proofs.Leaving.{Stays, from_making, told_there}
use Rattle.rack.proofs.Owning.{account_stands, own_residues}
use Rattle.rack.proofs.Passing.{holder, read_user}

-- Ground 10 does not refuse the number of a channel.
number_known : (owner : Channel) → no_channel (channel_number owner) ≡ None
number_known channel.A = refl
number_known channel.B = refl

-- The ledger passes a read by the slot's channel with a buffer of K codes.
pub read_passes : (s : Scheme) (S : ℕ) (l : Ledger) (channel : Channel) (slot : ℕ) (buffer : List ℕ) (account : Account)
    → slot < S → l slot ≡ open_for channel account → length buffer ≡ message_length s
    → judge s S l (reads (channel_number channel) slot buffer) ≡ None
read_passes s S l channel slot buffer account h e long =
    let own = eq-eqb (channel_number channel) (channel_number channel) refl in
    let fits = eq-eqb (length buffer) (message_length s) long in
    rw (number_known channel, lt-leb S slot h, e, own, fits)

-- What a rack shows of an open slot: the slot is one of its own, and the account is the one by its marks and cells.
shown_open : (test : Bool) (owner : Option Channel) (a account : Account) (channel : Channel)
    → cond test (slot_state owner a) closed ≡ open_for channel account → (test ≡ true) × (a ≡ account)
shown_open true (Some c) a account channel e = (refl, cc)
shown_open true None a account channel e = cc
shown_open false owner a account channel e = cc

-- So it is of a slot that some channel has.
shown_held : (test : Bool) (owner : Option Channel) (a : Account) (channel : Channel)
    → holder (cond test (slot_state owner a) closed) ≡ Some channel → account_in (cond test (slot_state owner a) closed) ≡ a
shown_held true (Some c) a channel e = refl
shown_held true None a channel e = cc
shown_held false owner a channel e = cc

-- The residue at a position present is what the cells hold.
held_residue : (present : Bool) (x y : List ℕ) → cond present (Some x) None ≡ Some y → x ≡ y
held_residue true x y e = cc
held_residue false x y e = cc

module _ (r : State) (l : Ledger) (agrees : Agrees r l) (slot : ℕ) (channel : Channel) (account : Account)
    (is_open : l slot ≡ open_for channel account) where
  shows : (ltb slot r.slots ≡ true) × (account_of r slot ≡ account)
  shows = shown_open (ltb slot r.slots) (record_at r slot).owner (account_of r slot) account channel (agrees slot ∙ is_open)

  -- A slot that is open in the ledger is one of the rack's.
  pub open_below : slot < r.slots
  open_below = ltb-true slot r.slots shows.0

  -- Its cells hold the account.
  pub cells_hold : HoldsAccount r.scheme r.cells slot account
  cells_hold i residue is = held_residue _ (cells_at r.scheme r.cells slot i) residue (ap (λ (x : Account). x i) shows.1 ∙ is)

pub can_be_read : OpenSlotsCanBeRead
can_be_read r L rack l agrees slot channel account is_open message within =
    record {
      holds = cells_hold r l agrees slot channel account is_open;
      gives = λ buffer long outcome r' given performs.
          let told = (performs.agrees l agrees).0 in
          let below = open_below r l agrees slot channel account is_open in
          let read = told.passed (read_passes r.scheme r.slots l channel slot buffer account below is_open long) in
          let gives = read_gives r.scheme account L rack.lawful slot buffer message read.0 outcome within
          (rw (ap account_in is_open) at read.2) in
          (gives.0, read.1 ∙ ap (reads (channel_number channel) slot) gives.1);
    }

-- A read that is accepted after calls from a rack's making.
own_read : (s : Scheme) (S : ℕ) (calls : List Request) (r : State) → Stays s S (after s S blank calls) r
    → (channel slot : ℕ) (buffer : List ℕ) (found : Found) (given : Request)
    → Told s S (after s S blank calls) (reads channel slot buffer) (Ok (Message found)) given
    → judge s S (after s S blank calls) (reads channel slot buffer) ≡ None
    → (message : List ℕ) × (given ≡ reads channel slot message) × ReadItsOwn s S calls r channel slot found message
own_read s S calls r stays channel slot buffer found given told e =
    let l = after s S blank calls in
    let user = read_user s S l channel slot buffer e in
    let same : account_in (l slot) ≡ account_of r slot =
    ap account_in (sym (stays.agrees slot))
    ∙ shown_held (ltb slot r.slots) (record_at r slot).owner (account_of r slot) user.0 (ap holder (stays.agrees slot) ∙ user.1) in
    let read = told.passed e in
    let reading : ReadAs s (account_of r slot) slot buffer read.0 (Ok (Message found)) =
    subst (λ (a : Account). ReadAs s a slot buffer read.0 (Ok (Message found))) same read.2 in
    let says : found ≡ found_for s (account_of r slot) read.0 = rw (← reading.1, ← reading.2) in (
      read.0,
      read.1,
      record {
        within = reading.0;
        says = says;
        reader = user.0;
        number = user.2;
        own = λ i residue is.
            own_residues s S calls slot user.0 i residue
            (account_stands (l slot) user.0 i residue user.1 (ap (λ (a : Account). a i) same ∙ is));
      },
    )

pub racks_read_their_own : RacksReadTheirOwn
racks_read_their_own s S cells top start made calls channel slot buffer found r' given performs =
    let l = after s S blank calls in
    let stays = from_making s S cells top start made calls in
    let told = told_there s S l _ stays (reads channel slot buffer) (Ok (Message found)) r' given performs in
    own_read s S calls _ stays channel slot buffer found given told (go (judge s S l (reads channel slot buffer)) told.refused)
  where
    -- A call that is accepted meets no ground.
    go : (ground : Option RackFault)
        → ((fault : RackFault) → ground ≡ Some fault → (◌≡◌ {A = Outcome} (Ok (Message found)) (Err fault)) × (given ≡ reads channel slot buffer))
        → ground ≡ None
    go None refused = refl
    go (Some fault) refused = let never = (refused fault refl).0 in cc
