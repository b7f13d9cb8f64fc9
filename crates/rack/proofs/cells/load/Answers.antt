use Rattle.rack.proofs.Loading.{loaded_none}
use Rattle.rack.proofs.cells.load.Goals as goal

pub loop-i-init : goal.loop-i-init
loop-i-init g c = loaded_none _ _
