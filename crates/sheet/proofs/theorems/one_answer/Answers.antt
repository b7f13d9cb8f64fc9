use Rattle.sheet.proofs.OneAnswer.{one_answer}
use Rattle.sheet.proofs.theorems.one_answer.Goals as goal

pub returns : goal.returns
returns c = one_answer
