-- What a rack is when it is made.
use Rattle.std.specs.Prelude.{◌≡◌, ℕ, List, replicate}
use Rattle.plan.specs.Schemes.{Scheme}
use Rattle.rack.specs.Ledger.{blank}
use Rattle.rack.specs.Limits.{most_slots}
use Rattle.rack.specs.States.{Agrees, Fits, IsRack, State, closed_record}

-- A rack made of a plan, a number of slots and a memory with these cells: it holds just them, and the record
-- of a closed slot for every slot that a rack can have. So it agrees with the blank ledger.
pub record Made (s : Scheme) (S : ℕ) (cells : List ℕ) (top : ℕ) (r : State) : Type 0 where
  pub fits : Fits s S cells top
  pub scheme_is : r.scheme ≡ s
  pub slots_are : r.slots ≡ S
  pub records_are : r.records ≡ replicate most_slots closed_record
  pub cells_are : r.cells ≡ cells
  pub top_is : r.top ≡ top
  pub all_closed : Agrees r blank
  pub is_rack : IsRack r
