use Rattle.plan.proofs.Words.{word_holds_remainders}
use Rattle.plan.proofs.theorems.word_holds_remainders.Goals as goal

pub returns : goal.returns
returns c = word_holds_remainders
