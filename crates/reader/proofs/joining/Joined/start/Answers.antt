use Rattle.algebra.proofs.Remainders.{zeros_nought}
use Rattle.poly.proofs.ExtendedState.{unit_is}
use Rattle.reader.proofs.Gathers.{started}
use Rattle.reader.proofs.joining.Joined.start.Goals as goal

pub invariant_of-result : goal.invariant_of-result
invariant_of-result g c = record { state = started g.F.Field.arithmetic g.met.F.Field.lawful _ _ (unit_is 64) (zeros_nought 65) }

pub returns-clause-product : goal.returns-clause-product
returns-clause-product g c = unit_is 64

pub returns-clause-value : goal.returns-clause-value
returns-clause-value g c = zeros_nought 65
