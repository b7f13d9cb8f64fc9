-- What the readings of a list of calls give: the one message within the allowance where there is one, else a refusal; and what
-- the rack is at every moment of the list.
use Rattle.std.proofs.Common.{◌≡◌, ℕ, ◌⊎◌, List, take, Some, Ok, Err, sym, ap, ◌∙◌, inl, inr}
use Rattle.algebra.specs.Field.{FieldLaws}
use Rattle.plan.specs.Accounts.{Account, Within}
use Rattle.plan.specs.Schemes.{IsScheme, Scheme}
use Rattle.plan.proofs.Uniqueness.{one_within}
use Rattle.rack.specs.CanRead.{CanRead}
use Rattle.rack.specs.Ledger.{Ledger, blank, open_for, reads}
use Rattle.rack.specs.Making.{Made}
use Rattle.rack.specs.States.{Agrees, State}
use Rattle.rack.specs.Told.{Outcome, ReadAs, Told, found_for}
use Rattle.rack.specs.declared.call.Answer.TheVariants.{Done, Margin, Message}
use Rattle.rack.specs.declared.call.Found.{Found}
use Rattle.rack.specs.declared.channel.Channel.{Channel}
use Rattle.rack.specs.declared.faults.RackFault.{RackFault}
use Rattle.rack.proofs.Determining.{not_refused}
use Rattle.rack.proofs.Leaving.{Stays, from_making}
use Rattle.rack.proofs.Readable.{can_be_read}
use Rattle.batch.specs.Laws.{GaveNone}
use Rattle.batch.specs.Lists.{Ran, RunsOn, entry_at, request_at, requests}
use Rattle.batch.specs.Promise.{Gave, IsReading, Kept, Load, SameMessages, ledger_at, ledger_left, rack_at}

module _ (s : Scheme) where
  -- A reading that is accepted: its buffer then holds a message within the allowance, and the answer is that message's.
  pub record Accepted (load : Load) (i channel slot : ℕ) (a : Account) : Type 0 where
    pub buffer : List ℕ
    pub within : Within s a buffer
    pub answer : (entry_at load.done i).outcome ≡ Some (Ok (Message (found_for s a buffer)))
    pub filled : request_at load.done i ≡ reads channel slot buffer

  -- A reading by its outcome: accepted, or refused on ground 18 or 19.
  told_ways : (load : Load) (i channel slot : ℕ) (old new : List ℕ) (a : Account) (outcome : Outcome)
      → request_at load.before i ≡ reads channel slot old → request_at load.done i ≡ reads channel slot new
      → (entry_at load.done i).outcome ≡ Some outcome
      → ReadAs s a slot old new outcome → Accepted load i channel slot a ⊎ GaveNone s load i slot a
  told_ways load i channel slot old new a (Ok (Message found)) asks gives is (within, margin_is, wrong_is) =
      let same : found ≡ found_for s a new = rw (← margin_is, ← wrong_is) in
      inl (record { buffer = new; within = within; answer = is ∙ ap (λ (x : Found). Some (Ok (Message x))) same; filled = gives })
  told_ways load i channel slot old new a (Ok Done) asks gives is says = absurd says
  told_ways load i channel slot old new a (Ok (Margin m)) asks gives is says = absurd says
  told_ways load i channel slot old new a (Err fault) asks gives is (same, (cause, fault_is, says)) =
      inr (record {
        cause = cause;
        refused = is ∙ ap (λ (x : RackFault). Some (Err x)) fault_is;
        says = says;
        unfilled = gives ∙ ap (reads channel slot) same ∙ sym asks;
      })

module _ (s : Scheme) (load : Load) (ran : Ran s load.slots blank load.before load.done) (i : ℕ) (a : Account) (reading : IsReading s load i a) where
  -- Each reading of a list that ran is accepted or refused.
  pub reading_ways : Accepted s load i reading.channel reading.slot a ⊎ GaveNone s load i reading.slot a
  reading_ways =
      let told = ran.told i reading.place in
      let here : Told s load.slots (ledger_at s load i) (reads reading.channel reading.slot reading.buffer) told.0 (request_at load.done i) =
      rw reading.asks at told.2 in
      let read = here.passed reading.passes in
      told_ways s load i reading.channel reading.slot reading.buffer read.0 a told.0 reading.asks read.1 told.1
      (rw reading.account_is at read.2)

  -- It is refused where no message is within the allowance.
  pub reading_none : ((message : List ℕ) → ¬ (Within s a message)) → GaveNone s load i reading.slot a
  reading_none none = elim reading_ways [ inl accepted ↦ absurd (none accepted.buffer accepted.within) | inr refused ↦ refused ]

  -- What a reading gave is within the allowance.
  pub gave_within : (codes : List ℕ) → Gave s load i reading.channel reading.slot codes → Within s a codes
  gave_within codes gave =
      elim reading_ways [
        | inl accepted ↦ let same : accepted.buffer ≡ codes = cc in rw same at accepted.within
        | inr refused ↦ cc
      ]

  module _ (L : FieldLaws s.arithmetic) (h : IsScheme s) where
    -- A message within the allowance is what the reading gives, with its margin and e.
    pub reading_gives : (m : List ℕ) → Within s a m
        → ((entry_at load.done i).outcome ≡ Some (Ok (Message (found_for s a m))))
        × (request_at load.done i ≡ reads reading.channel reading.slot m)
    reading_gives m w =
        elim reading_ways [
          | inl accepted ↦
              let same : accepted.buffer ≡ m = one_within s L h a accepted.buffer m accepted.within w in
              rw (← same) (accepted.answer, accepted.filled)
          | inr refused ↦ absurd (not_refused s a m refused.cause w refused.says)
        ]

    -- So the reading gave that message.
    pub within_gave : (m : List ℕ) → Within s a m → Gave s load i reading.channel reading.slot m
    within_gave m w =
        let gives = reading_gives m w in
        record { found = found_for s a m; accepted = gives.0; filled = gives.1 }

-- Two readings gave a message exactly when it lies within both allowances; so they are equal messages exactly when some message does.
pub same_messages : (s : Scheme) → FieldLaws s.arithmetic → IsScheme s → (one other : Load)
    → Ran s one.slots blank one.before one.done → Ran s other.slots blank other.before other.done → SameMessages s one other
same_messages s L h one other ran ran' =
    record {
      equal = λ i j a b here there. (
        λ equal. (
          equal.codes,
          gave_within s one ran i a here equal.codes equal.one_gave,
          gave_within s other ran' j b there equal.codes equal.other_gave,
        ),
        λ (message, first, second).
            record {
              codes = message;
              one_gave = within_gave s one ran i a here L h message first;
              other_gave = within_gave s other ran' j b there L h message second;
            },
      );
      each = λ i j a b here there message. (
        λ (first, second). (gave_within s one ran i a here message first, gave_within s other ran' j b there message second),
        λ (first, second). (within_gave s one ran i a here L h message first, within_gave s other ran' j b there L h message second),
      );
    }

-- From the rack's making the ledger is blank.
from_start : (s : Scheme) (load : Load) (start : State) → Made s load.slots load.cells load.top start
    → RunsOn start load.before load.done load.rack
    → Ran s load.slots blank load.before load.done × Agrees load.rack (ledger_left s load)
from_start s load start made runs = rw (← made.scheme_is, ← made.slots_are) (runs.agrees blank made.all_closed)

-- The rack after the first n calls.
pub moment : (s : Scheme) (load : Load) (start : State) → Made s load.slots load.cells load.top start
    → (n : ℕ) → Stays s load.slots (ledger_at s load n) (rack_at load start n)
moment s load start made n = from_making s load.slots load.cells load.top start made (requests (take n load.before))

-- On a rack that agrees with the ledger a channel can read its slots.
pub readable : (s : Scheme) → FieldLaws s.arithmetic → (S : ℕ) (l : Ledger) (r : State) → Stays s S l r
    → (slot : ℕ) (channel : Channel) (account : Account) → l slot ≡ open_for channel account
    → (message : List ℕ) → Within s account message → CanRead r slot channel account message
readable s L S l r stays slot channel account is_open message within =
    can_be_read r (rw stays.scheme_is L) stays.is_rack l stays.agrees slot channel account is_open message (rw stays.scheme_is within)

-- A list that ran on a rack straight from its making keeps the promise.
pub kept : (s : Scheme) → FieldLaws s.arithmetic → IsScheme s → (load : Load) (start : State)
    → Made s load.slots load.cells load.top start → RunsOn start load.before load.done load.rack → Kept s load
kept s L h load start made runs =
    let both = from_start s load start made runs in
    record {
      start = start;
      made = made;
      left = runs.left;
      is_rack = runs.stays;
      agrees = both.1;
      ran = both.0;
      can_read = λ n. readable s L load.slots (ledger_at s load n) (rack_at load start n) (moment s load start made n);
      same_within = same_messages s L h load load both.0 both.0;
    }
