use Rattle.plan.proofs.theorems.margins_apart.Goals as goal
use Rattle.plan.proofs.Uniqueness.{margins_apart}

pub returns : goal.returns
returns c = margins_apart
