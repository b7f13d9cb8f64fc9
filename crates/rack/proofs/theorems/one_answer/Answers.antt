use Rattle.rack.proofs.Determining.{one_answer}
use Rattle.rack.proofs.theorems.one_answer.Goals as goal

pub returns : goal.returns
returns c = one_answer
