-- A list of calls on its way: the calls before place i are answered by the ledger, and the others are as they were handed in.
use Rattle.std.proofs.Common.{◌≡◌, ℕ, ◌+◌, ◌<◌, ◌≤◌, ◌≢◌, List, length, take, set, Some, None, fold, sym, ap, ◌∙◌, subst, arith, below_more}
use mathlib.Core.Path.{fun_ext}
use Rattle.std.proofs.lemmas.List.{get_or-set_other, get_or-set_same, length-set, map_more, take_all}
use Rattle.std.proofs.lemmas.List.Sums.{fold_push}
use Rattle.plan.specs.Schemes.{Scheme}
use Rattle.rack.specs.Ledger.{Ledger, Request, after, step}
use Rattle.rack.specs.Racks.{given_by}
use Rattle.rack.specs.States.{Agrees, IsRack, Performs, State, shown, state_after}
use Rattle.rack.specs.Told.{Outcome, Told}
use Rattle.rack.specs.declared.call.Call.TheVariants.{Close}
use Rattle.rack.proofs.Performing.{state_same}
use Rattle.batch.specs.Lists.{Ran, RunsOn, entry_at, ledger_before, request_at, requests}
use Rattle.batch.specs.Served.{Served}
use Rattle.batch.specs.declared.entry.Entry.{Entry}

-- The list after i of its calls, with the rack that they leave.
pub record Going (start : State) (l : Ledger) (before : List Entry) (s : Scheme) (S : ℕ) (i : ℕ) (r : State) (entries : List Entry) : Type 0 where
  pub left : r ≡ fold state_after start (requests (take i before))
  pub scheme_is : r.scheme ≡ s
  pub slots_is : r.slots ≡ S
  pub long : length entries ≡ length before
  pub agrees : Agrees r (ledger_before s S l before i)
  pub told :
      (k : ℕ) → k < i
      → (outcome : Outcome) × ((entry_at entries k).outcome ≡ Some outcome)
      × Told s S (ledger_before s S l before k) (request_at before k) outcome (request_at entries k)
  pub rest : (k : ℕ) → i ≤ k → entry_at entries k ≡ entry_at before k

-- What is made of a list, one call after the other: one more call.
list_next : {X : Type 0} (f : X → Request → X) (x : X) (before : List Entry) (i : ℕ) → i < length before
    → fold f x (requests (take (i + 1) before)) ≡ f (fold f x (requests (take i before))) (request_at before i)
list_next f x before i within =
    ap (fold f x) (map_more (λ entry. given_by entry.call) before i (record { call = Close 0 0; outcome = None }) within)
    ∙ fold_push f x (requests (take i before)) (request_at before i)

-- The ledger after one more call.
pub ledger_next : (s : Scheme) (S : ℕ) (l : Ledger) (before : List Entry) (i : ℕ) → i < length before
    → ledger_before s S l before (i + 1) ≡ step s S (ledger_before s S l before i) (request_at before i)
ledger_next s S l before i within = list_next (step s S) l before i within

-- Where the rack agrees with the ledger, so does it after the call, and the ledger tells the answer.
performed : (r : State) (s : Scheme) (S : ℕ) → r.scheme ≡ s → r.slots ≡ S → (request : Request) (outcome : Outcome) (r' : State) (given : Request)
    → Performs r request outcome r' given → (l : Ledger) → Agrees r l → Told s S l request outcome given × Agrees r' (step s S l request)
performed r s S e n request outcome r' given p l a = rw (← e, ← n) (p.agrees l a)

-- One more call, as it is served.
pub going_on : {start : State} {l : Ledger} {before : List Entry} {s : Scheme} {S i : ℕ} {r : State} {entries : List Entry} → Going start l before s S i r entries
    → i < length before → (entry entry' : Entry) (r' : State) → entry ≡ entry_at entries i → Served r entry r' entry'
    → Going start l before s S (i + 1) r' (set entries i entry')
going_on {start} {l} {before} {s} {S} {i} {r} {entries} going within entry entry' r' is served =
    let asked : given_by entry.call ≡ request_at before i = ap (λ (x : Entry). given_by x.call) (is ∙ going.rest i (omega arith)) in
    let done = performed r s S going.scheme_is going.slots_is (given_by entry.call) served.outcome r' (given_by entry'.call) served.performed
    (ledger_before s S l before i) going.agrees in
    let kept = state_same r (given_by entry.call) in
    let place : i < length entries = omega (arith, going.long) in
    let here : entry_at (set entries i entry') i ≡ entry' = get_or-set_same entries i entry' _ place in
    let others : (k : ℕ) → k ≢ i → entry_at (set entries i entry') k ≡ entry_at entries k = λ k ne. get_or-set_other entries i k entry' _ ne in
    record {
      left =
          served.performed.left
          ∙ ap (λ (x : Request). state_after r x) asked
          ∙ ap (λ (x : State). state_after x (request_at before i)) going.left
          ∙ sym (list_next state_after start before i within);
      scheme_is = ap (λ (x : State). x.scheme) served.performed.left ∙ kept.0 ∙ going.scheme_is;
      slots_is = ap (λ (x : State). x.slots) served.performed.left ∙ kept.1 ∙ going.slots_is;
      long = length-set entries i entry' ∙ going.long;
      agrees = rw (ledger_next s S l before i within, ← asked) done.1;
      told =
          below_more _ _ (λ k h. rw (others k (omega arith)) (going.told k h))
          (rw here (served.outcome, served.noted, rw (← asked) done.0));
      rest = λ k h. others k (omega arith) ∙ going.rest k (omega arith);
    }

-- After the last call, by the ledger that the rack showed before the first: every ledger that agreed with the rack is that one.
pub going_end : {start : State} {before : List Entry} {i : ℕ} {r : State} {entries : List Entry}
    → Going start (shown start) before start.scheme start.slots i r entries → length before ≤ i → IsRack r → RunsOn start before entries r
going_end {start} {before} {i} {r} {entries} going past rack =
    let whole = take_all i before past in
    record {
      left = rw whole at going.left;
      stays = rack;
      agrees = λ l same.
          subst (λ (l : Ledger). Ran start.scheme start.slots l before entries × Agrees r (after start.scheme start.slots l (requests before)))
          (fun_ext same)
          (record { long = going.long; told = λ k h. going.told k (omega arith) }, rw whole at going.agrees);
    }
