use Rattle.std.proofs.Common.{arith}
use Rattle.memory.proofs.Held.{held_gets_inside}
use Rattle.memory.proofs.lent.LentCellsMemory.get.Goals as goal

pub returns-then-j-len : goal.returns-then-j-len
returns-then-j-len g c = held_gets_inside (g.C.Cell.cells c.args.self.now.buffer.now) c.args.j (omega arith) _ _ c.get.ensures.value c.get.ensures.within
