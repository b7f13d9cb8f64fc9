use Rattle.rack.proofs.Altering.{calls_alter_their_own}
use Rattle.rack.proofs.theorems.calls_alter_their_own.Goals as goal

pub returns : goal.returns
returns c = calls_alter_their_own
