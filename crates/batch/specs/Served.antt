-- Inner: no public contract cites this.
-- One call of a list, performed, and its outcome written down.
use Rattle.std.specs.Prelude.{◌≡◌, Some}
use Rattle.rack.specs.Racks.{given_by}
use Rattle.rack.specs.States.{Performs, State}
use Rattle.rack.specs.Told.{Outcome}
use Rattle.batch.specs.declared.entry.Entry.{Entry}

pub record Served (r : State) (before : Entry) (r' : State) (done : Entry) : Type 0 where
  pub outcome : Outcome
  pub noted : done.outcome ≡ Some outcome
  pub performed : Performs r (given_by before.call) outcome r' (given_by done.call)
