-- A list of calls, before it is run and afterwards, with the ledger beside it and the rack that it leaves.
use Rattle.std.specs.Prelude.{◌≡◌, ℕ, ◌<◌, List, map, length, take, Some, None, fold, slice_index_or}
use Rattle.plan.specs.Schemes.{Scheme}
use Rattle.rack.specs.Ledger.{Ledger, Request, after}
use Rattle.rack.specs.Racks.{given_by}
use Rattle.rack.specs.States.{Agrees, IsRack, State, state_after}
use Rattle.rack.specs.Told.{Outcome, Told}
use Rattle.rack.specs.declared.call.Call.TheVariants.{Close}
use Rattle.batch.specs.declared.entry.Entry.{Entry}

-- What the calls of a list are given.
abbrev pub requests : List Entry → List Request
requests entries = map (λ entry. given_by entry.call) entries

-- Entry i of a list, and what its call is given; past the end of the list it does not matter what.
abbrev pub entry_at : List Entry → ℕ → Entry
entry_at entries i = slice_index_or entries i (record { call = Close 0 0; outcome = None })

abbrev pub request_at : List Entry → ℕ → Request
request_at entries i = given_by (entry_at entries i).call

-- The ledger just before call i, where it was l before the list.
abbrev pub ledger_before : Scheme → ℕ → Ledger → List Entry → ℕ → Ledger
ledger_before s S l entries i = after s S l (requests (take i entries))

-- Each call of a list is answered by the ledger as it then stands; `before` is the list as it was handed in,
-- and `done` is the list once it is run.
pub record Ran (s : Scheme) (S : ℕ) (l : Ledger) (before done : List Entry) : Type 0 where
  pub long : length done ≡ length before
  pub told :
      (i : ℕ) → i < length before
      → (outcome : Outcome) × ((entry_at done i).outcome ≡ Some outcome)
      × Told s S (ledger_before s S l before i) (request_at before i) outcome (request_at done i)

-- A list run on a rack: the rack is what its calls make of it, one after the other; and a ledger that agreed
-- with the rack before the list tells every answer, and agrees with the rack again once the list is written
-- there.
pub record RunsOn (r : State) (before done : List Entry) (r' : State) : Type 0 where
  pub left : r' ≡ fold state_after r (requests before)
  pub stays : IsRack r'
  pub agrees :
      (l : Ledger) → Agrees r l
      → Ran r.scheme r.slots l before done × Agrees r' (after r.scheme r.slots l (requests before))
