-- By the builder of expressions.
use Rattle.expression.proofs.Unambiguous.{one_expression}
use Rattle.expression.proofs.theorems.one_expression.Goals as goal

pub returns : goal.returns
returns c = one_expression
