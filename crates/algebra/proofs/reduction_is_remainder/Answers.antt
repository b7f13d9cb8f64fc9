use Rattle.algebra.proofs.reduction_is_remainder.Goals as goal
use Rattle.algebra.proofs.BitReduction.{one_remainder}

pub returns : goal.returns
returns c = λ d m n p leading last. one_remainder d m leading last n p
