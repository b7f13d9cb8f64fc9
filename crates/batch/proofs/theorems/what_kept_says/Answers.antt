use Rattle.batch.proofs.Saying.{what_kept_says}
use Rattle.batch.proofs.theorems.what_kept_says.Goals as goal

pub returns : goal.returns
returns c = what_kept_says
