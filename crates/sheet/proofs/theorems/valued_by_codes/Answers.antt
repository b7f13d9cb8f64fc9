use Rattle.sheet.proofs.Lawful.{codes_of_valued, valued_of_codes}
use Rattle.sheet.proofs.theorems.valued_by_codes.Goals as goal

pub returns : goal.returns
returns c = λ content. (codes_of_valued content, valued_of_codes content)
