use Rattle.plan.proofs.OwnWord.{own_word_within}
use Rattle.plan.proofs.theorems.own_word_within.Goals as goal

pub returns : goal.returns
returns c = own_word_within
