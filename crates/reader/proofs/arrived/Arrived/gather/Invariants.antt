use Rattle.algebra.specs.Polynomial.{coefficients}
use Rattle.plan.specs.Held.{scheme}
use Rattle.reader.specs.Arrivals.{account_of}
use Rattle.reader.specs.Gathering.{GatheredTo}
use Rattle.reader.proofs.arrived.Arrived.gather.Given as goal

abbrev pub invariant-loop-i : goal.invariant-loop-i
invariant-loop-i g l =
    GatheredTo (scheme l.self.plan.now) (account_of l.self.residues.now) l.i l.joined.degree (coefficients l.joined.product)
    (coefficients l.joined.value)
