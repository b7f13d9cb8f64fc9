use Rattle.batch.proofs.Saying.{one_end}
use Rattle.batch.proofs.theorems.one_end.Goals as goal

pub returns : goal.returns
returns c = one_end
