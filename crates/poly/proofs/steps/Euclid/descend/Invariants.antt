use Rattle.algebra.specs.Polynomial.{coefficients}
use Rattle.poly.specs.Slices.{Significant}
use Rattle.poly.proofs.Descending.{Descending}
use Rattle.poly.proofs.Fronts.{used}
use Rattle.poly.proofs.steps.Euclid.descend.Given as goal

abbrev pub invariant-loop-count : goal.invariant-loop-count
invariant-loop-count g l = Descending g.F.Field.arithmetic l.most l.initial.self l.self × Significant (coefficients l.self.current) l.count

abbrev pub decreases-loop-count : goal.decreases-loop-count
decreases-loop-count g l = used l.self.current
