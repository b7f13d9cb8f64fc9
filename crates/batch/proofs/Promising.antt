-- The promise about arrangements, of two lists of calls on two racks under one plan.
use Rattle.std.proofs.Common.{◌≡◌, ℕ, List, subst}
use Rattle.algebra.specs.Field.{Arithmetic, FieldLaws}
use Rattle.plan.specs.Refusals.{Accepted}
use Rattle.plan.specs.Schemes.{Scheme, handed_in}
use Rattle.rack.specs.Making.{Made}
use Rattle.rack.specs.States.{State}
use Rattle.batch.specs.Lists.{RunsOn}
use Rattle.batch.specs.Promise.{Kept, Load, Promise}
use Rattle.batch.proofs.Readings.{kept, same_messages}

-- A plan was accepted, and its scheme is what was handed in.
module _ (f : Arithmetic) (L : FieldLaws f) (k : ℕ) (codes : List ℕ) (accepted : Accepted f k codes) (s : Scheme) (is : s ≡ handed_in f k codes) where
  -- What a list on a rack that was just made needs.
  pub record Loaded (load : Load) : Type 0 where
    pub start : State
    pub made : Made s load.slots load.cells load.top start
    pub runs : RunsOn start load.before load.done load.rack

  made_of : (load : Load) → Loaded load → (start : State) × Made (handed_in f k codes) load.slots load.cells load.top start
      × RunsOn start load.before load.done load.rack
  made_of load loaded =
      let made = subst (λ (x : Scheme). Made x load.slots load.cells load.top loaded.start) is loaded.made in
      (loaded.start, made, loaded.runs)

  -- A list on a rack straight from its making keeps the promise, and so do two.
  pub one_kept : (load : Load) → Loaded load → Kept (handed_in f k codes) load
  one_kept load loaded =
      let m = made_of load loaded in
      kept (handed_in f k codes) L accepted.lawful load m.0 m.1 m.2

  pub both_kept : (one other : Load) → Loaded one → Loaded other → Promise (handed_in f k codes) one other
  both_kept one other loaded loaded' =
      let first = one_kept one loaded in
      let second = one_kept other loaded' in
      record {
        first = first;
        second = second;
        across = same_messages (handed_in f k codes) L accepted.lawful one other first.ran second.ran;
      }
