use Rattle.rack.proofs.Readable.{can_be_read}
use Rattle.rack.proofs.theorems.open_slots_can_be_read.Goals as goal

pub returns : goal.returns
returns c = can_be_read
