use Rattle.plan.proofs.theorems.one_message_within.Goals as goal
use Rattle.plan.proofs.Uniqueness.{one_within}

pub returns : goal.returns
returns c = one_within
