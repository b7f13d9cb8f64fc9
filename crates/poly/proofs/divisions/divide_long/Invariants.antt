use Rattle.std.proofs.Common.{◌-◌, length}
use Rattle.algebra.specs.Polynomial.{coefficients}
use Rattle.poly.proofs.LongDivision.{UnderDivision}
use Rattle.poly.proofs.divisions.divide_long.Given as goal

abbrev pub invariant-loop-shift : goal.invariant-loop-shift
invariant-loop-shift g l =
    UnderDivision g.F.Field.arithmetic (length l.divisor - 1) (coefficients l.initial.remainder) (coefficients l.divisor) l.shift l.quotient l.remainder
