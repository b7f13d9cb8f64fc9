use Rattle.rack.proofs.Owning.{own_residues, reads_own}
use Rattle.rack.proofs.theorems.residues_are_the_channels_own.Goals as goal

pub returns-clause-put : goal.returns-clause-put
returns-clause-put c = own_residues

pub returns-clause-read : goal.returns-clause-read
returns-clause-read c = reads_own
