use Rattle.algebra.specs.Polynomial.{coefficients}
use Rattle.poly.specs.Slices.{Significant}
use Rattle.poly.proofs.CommonDivisors.{Searching}
use Rattle.poly.proofs.Fronts.{used}
use Rattle.poly.proofs.divisors.gcd.Given as goal

-- The common divisors stay the same, and so many codes of the remainder are significant.
abbrev pub invariant-loop-count : goal.invariant-loop-count
invariant-loop-count g l =
    Searching g.F.Field.arithmetic g.met.F.Field.lawful (coefficients l.m) (coefficients l.n) l.previous l.current × Significant (coefficients l.current) l.count

abbrev pub decreases-loop-count : goal.decreases-loop-count
decreases-loop-count g l = used l.current
