use Rattle.rack.proofs.Storing.{StoredTo}
use Rattle.rack.proofs.cells.store.Given as goal

-- The codes so far are stored.
abbrev pub invariant-loop-i : goal.invariant-loop-i
invariant-loop-i g l =
    StoredTo (g.M.Memory.cells l.initial.memory) (g.M.Memory.top l.initial.memory) l.at l.codes l.i
    (g.M.Memory.cells l.memory) (g.M.Memory.top l.memory)
