use Rattle.plan.proofs.Misfits.{misfit_is_wrong}
use Rattle.plan.proofs.theorems.misfit_is_wrong.Goals as goal

pub returns : goal.returns
returns c = misfit_is_wrong
