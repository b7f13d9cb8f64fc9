use Rattle.algebra.proofs.division_is_unique.Goals as goal
use Rattle.algebra.proofs.Main.{one_division}

pub returns : goal.returns
returns c = one_division
