-- What any calls leave of a rack: a rack still, of the same scheme and slots, which agrees with the ledger once the calls are
-- written there.
use Rattle.std.proofs.Common.{◌≡◌, ℕ, List, [], ◌∷◌, fold, ◌∙◌, subst}
use mathlib.Core.Path.{fun_ext}
use Rattle.plan.specs.Schemes.{Scheme}
use Rattle.rack.specs.Ledger.{Ledger, Request, after, blank, step}
use Rattle.rack.specs.Making.{Made}
use Rattle.rack.specs.States.{Agrees, IsRack, Performs, State, state_after}
use Rattle.rack.specs.Told.{Outcome, Told}
use Rattle.rack.proofs.Performing.{stays_rack, state_same}
use Rattle.rack.proofs.Showing.{shown_after}

-- A rack of this scheme and S that agrees with the ledger.
pub record Stays (s : Scheme) (S : ℕ) (l : Ledger) (r : State) : Type 0 where
  pub scheme_is : r.scheme ≡ s
  pub slots_are : r.slots ≡ S
  pub is_rack : IsRack r
  pub agrees : Agrees r l

module _ (s : Scheme) (S : ℕ) where
  -- So its next call is answered by that ledger.
  pub told_there : (l : Ledger) (r : State) → Stays s S l r → (request : Request) (outcome : Outcome) (r' : State) (given : Request)
      → Performs r request outcome r' given → Told s S l request outcome given
  told_there l r stays request outcome r' given performs = rw (← stays.scheme_is, ← stays.slots_are) (performs.agrees l stays.agrees).0

  one_call : (l : Ledger) (r : State) → Stays s S l r → (q : Request) → Stays s S (step s S l q) (state_after r q)
  one_call l r stays q =
      let same = state_same r q in
      let shows : Agrees (state_after r q) (step r.scheme r.slots l q) =
      subst (λ (l : Ledger). Agrees (state_after r q) (step r.scheme r.slots l q)) (fun_ext stays.agrees) (shown_after r stays.is_rack q) in
      record {
        scheme_is = same.0 ∙ stays.scheme_is;
        slots_are = same.1 ∙ stays.slots_are;
        is_rack = stays_rack r stays.is_rack q;
        agrees = rw (← stays.scheme_is, ← stays.slots_are) shows;
      }

  pub all_calls : (l : Ledger) (r : State) → Stays s S l r → (calls : List Request) → Stays s S (after s S l calls) (fold state_after r calls)
  all_calls l r stays [] = stays
  all_calls l r stays (q ∷ qs) = all_calls (step s S l q) (state_after r q) (one_call l r stays q) qs

  -- From its making, where every slot is closed.
  pub from_making : (cells : List ℕ) (top : ℕ) (start : State) → Made s S cells top start
      → (calls : List Request) → Stays s S (after s S blank calls) (fold state_after start calls)
  from_making cells top start made =
      all_calls blank start (record { scheme_is = made.scheme_is; slots_are = made.slots_are; is_rack = made.is_rack; agrees = made.all_closed })
