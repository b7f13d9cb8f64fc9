use Rattle.rack.specs.Stored.{Loaded}
use Rattle.rack.proofs.cells.load.Given as goal

-- The table holds the cells so far, zeros after them.
abbrev pub invariant-loop-i : goal.invariant-loop-i
invariant-loop-i g l = Loaded (g.M.Memory.cells l.memory) l.at l.i l.table
