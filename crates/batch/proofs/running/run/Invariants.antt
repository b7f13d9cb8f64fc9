use Rattle.rack.specs.Racks.{state}
use Rattle.rack.specs.States.{shown}
use Rattle.batch.proofs.Underway.{Going}
use Rattle.batch.proofs.running.run.Given as goal

-- The list on its way, by the ledger that the rack showed before it.
abbrev pub invariant-loop-entry : goal.invariant-loop-entry
invariant-loop-entry g l =
    let r = state l.initial.rack in Going r (shown r) l.initial.entries r.scheme r.slots l.entry-index (state l.rack) l.entries
