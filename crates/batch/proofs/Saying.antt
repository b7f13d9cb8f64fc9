-- What follows from the promise about arrangements, and that a list of calls has one end.
use Rattle.std.proofs.Common.{◌≡◌, ℕ, ◌<◌, List, map, length, Some, None, Ok, sym, ap, ◌∙◌, arith}
use Rattle.std.proofs.lemmas.List.{ext_get_or, get_or-map, length-map}
use Rattle.plan.specs.Accounts.{Account}
use Rattle.plan.specs.Schemes.{Scheme, message_length}
use Rattle.rack.specs.CanRead.{CanRead}
use Rattle.rack.specs.Channels.{channel_number}
use Rattle.rack.specs.Ledger.{Ledger, Request, account_in, open_for, reads}
use Rattle.rack.specs.Racks.{given_by}
use Rattle.rack.specs.States.{Performs, State}
use Rattle.rack.specs.Told.{Outcome, found_for}
use Rattle.rack.specs.declared.call.Answer.TheVariants.{Message}
use Rattle.rack.specs.declared.call.Call.TheVariants.{Close}
use Rattle.rack.specs.declared.channel.Channel.{Channel}
use Rattle.rack.proofs.Determining.{one_answer}
use Rattle.rack.proofs.Leaving.{Stays, from_making}
use Rattle.rack.proofs.Readable.{cells_hold, open_below, read_passes}
use Rattle.batch.specs.Laws.{HoldAccounts, KeptSays, OneEnd}
use Rattle.batch.specs.Lists.{entry_at, ledger_before, request_at, requests}
use Rattle.batch.specs.Promise.{IsReading, Kept, Load, ledger_at, ledger_left, rack_at}
use Rattle.batch.specs.declared.entry.Entry.{Entry}
use Rattle.batch.proofs.Readings.{moment, readable, reading_gives, reading_none}

-- A rack that agrees with the ledger holds the account of every slot that is open there.
all_held : (s : Scheme) (S : ℕ) (l : Ledger) (r : State) → Stays s S l r → HoldAccounts s l r.cells
all_held s S l r stays slot channel account is_open =
    rw (← stays.scheme_is) (cells_hold r l stays.agrees slot channel account is_open)

module _ (s : Scheme) (load : Load) (kept : Kept s load) where
  at_moment : (n : ℕ) → Stays s load.slots (ledger_at s load n) (rack_at load kept.start n)
  at_moment = moment s load kept.start kept.made

  -- The rack that is given back.
  at_end : Stays s load.slots (ledger_left s load) load.rack
  at_end = rw kept.left (from_making s load.slots load.cells load.top kept.start kept.made (requests load.before))

  -- A read by the slot's channel with a buffer of K codes is a reading.
  abbrev is_reading : (i : ℕ) → i < length load.before
      → (channel : Channel) (slot : ℕ) (buffer : List ℕ) → request_at load.before i ≡ reads (channel_number channel) slot buffer
      → length buffer ≡ message_length s → (account : Account) → ledger_at s load i slot ≡ open_for channel account
      → IsReading s load i account
  is_reading i place channel slot buffer asks long account is_open =
      let l = ledger_at s load i in
      let stays = at_moment i in
      let below : slot < load.slots = rw (← stays.slots_are) (open_below (rack_at load kept.start i) l stays.agrees slot channel account is_open) in
      record {
        place = place;
        channel = channel_number channel;
        slot = slot;
        buffer = buffer;
        asks = asks;
        passes = read_passes s load.slots l channel slot buffer account below is_open long;
        account_is = ap account_in is_open;
      }

-- A read made next on a rack where the channel can read the slot.
next_read : (s : Scheme) (S : ℕ) (l : Ledger) (r : State) → Stays s S l r
    → (channel : Channel) (slot : ℕ) (account : Account) (message : List ℕ) → CanRead r slot channel account message
    → (buffer : List ℕ) → length buffer ≡ message_length s
    → (outcome : Outcome) (r' : State) (given : Request) → Performs r (reads (channel_number channel) slot buffer) outcome r' given
    → (outcome ≡ Ok (Message (found_for s account message))) × (given ≡ reads (channel_number channel) slot message)
next_read s S l r stays channel slot account message can buffer long outcome r' given performs =
    rw (← stays.scheme_is) (can.gives buffer (rw stays.scheme_is long) outcome r' given performs)

pub what_kept_says : KeptSays
what_kept_says s L h load kept =
    record {
      is_rack_at = λ n. (at_moment s load kept n).is_rack;
      agrees_at = λ n. (at_moment s load kept n).agrees;
      holds_at = λ n. all_held s load.slots (ledger_at s load n) (rack_at load kept.start n) (at_moment s load kept n);
      holds = all_held s load.slots (ledger_left s load) load.rack (at_end s load kept);
      unread = reading_none s load kept.ran;
      gives = λ i place channel slot buffer asks long account is_open.
          reading_gives s load kept.ran i account (is_reading s load kept i place channel slot buffer asks long account is_open) L h;
      gives_next = λ channel slot buffer long account is_open message within.
          next_read s load.slots (ledger_left s load) load.rack (at_end s load kept) channel slot account message
          (readable s L load.slots (ledger_left s load) load.rack (at_end s load kept) slot channel account is_open message within)
          buffer long;
    }

-- Lists of entries that are the same, place by place, in what is told of them.
same_told : {X : Type 0} (told : Entry → X) (done done' : List Entry) → length done ≡ length done'
    → ((i : ℕ) → i < length done → told (entry_at done i) ≡ told (entry_at done' i)) → map told done ≡ map told done'
same_told told done done' long same =
    let none : Entry = record { call = Close 0 0; outcome = None } in
    ext_get_or (told none) (map told done) (map told done') (length-map done told ∙ long ∙ sym (length-map done' told)) (λ i below.
    let inside : i < length done = omega (arith, below, length-map done told) in
    get_or-map told done i none (told none) inside
    ∙ same i inside
    ∙ sym (get_or-map told done' i none (told none) (omega (arith, inside, long))))

pub one_end : OneEnd
one_end s L h S l before done done' ran ran' =
    let long = ran.long ∙ sym ran'.long in
    (same_told (λ entry. entry.outcome) done done' long (λ i below. (ends i below).0), same_told (λ entry. given_by entry.call) done done' long (λ i below. (ends i below).1))
  where
    ends : (i : ℕ) → i < length done
        → ((entry_at done i).outcome ≡ (entry_at done' i).outcome) × (request_at done i ≡ request_at done' i)
    ends i below =
        let place : i < length before = omega (arith, below, ran.long) in
        let told = ran.told i place in
        let told' = ran'.told i place in
        let one = one_answer s L h S (ledger_before s S l before i) (request_at before i) told.0 told'.0 _ _ told.2 told'.2 in
        (told.1 ∙ ap Some one.0 ∙ sym told'.1, one.1)
