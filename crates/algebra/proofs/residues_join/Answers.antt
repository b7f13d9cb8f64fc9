use Rattle.algebra.proofs.residues_join.Goals as goal
use Rattle.algebra.proofs.Main.{residues_join}

pub returns : goal.returns
returns c = residues_join
