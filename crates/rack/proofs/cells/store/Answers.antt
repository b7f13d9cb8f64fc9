use Rattle.std.proofs.Common.{refl}
use Rattle.rack.proofs.Storing.{stored_more}
use Rattle.rack.proofs.cells.store.Goals as goal

pub loop-i-preserved : goal.loop-i-preserved
loop-i-preserved g c = stored_more _ _ _ _ _ _ _ _ _ _ c.loop-i.invariant c.loop-i-test.true refl c.set.ensures
