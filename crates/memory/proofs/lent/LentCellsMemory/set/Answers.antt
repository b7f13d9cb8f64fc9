use Rattle.std.proofs.Common.{arith}
use Rattle.memory.proofs.Held.{held_sets_inside}
use Rattle.memory.proofs.lent.LentCellsMemory.set.Goals as goal

pub returns-clause-sets : goal.returns-clause-sets
returns-clause-sets g c = held_sets_inside (g.C.Cell.cells c.args.self.now.buffer.now) c.args.j (omega arith) _ _ _ (omega arith) c.put.ensures
