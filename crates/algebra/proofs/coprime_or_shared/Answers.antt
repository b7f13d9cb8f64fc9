use Rattle.algebra.proofs.coprime_or_shared.Goals as goal
use Rattle.algebra.proofs.Main.{coprime_or_shared}

pub returns : goal.returns
returns c = coprime_or_shared
