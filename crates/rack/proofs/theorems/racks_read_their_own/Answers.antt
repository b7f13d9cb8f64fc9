use Rattle.rack.proofs.Readable.{racks_read_their_own}
use Rattle.rack.proofs.theorems.racks_read_their_own.Goals as goal

pub returns : goal.returns
returns c = racks_read_their_own
