use Rattle.algebra.proofs.reconstruction_stands.Goals as goal
use Rattle.algebra.proofs.Main.{reconstruction_stands}

pub returns : goal.returns
returns c = reconstruction_stands
