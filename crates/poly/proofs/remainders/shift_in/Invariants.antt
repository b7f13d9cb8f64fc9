use Rattle.algebra.specs.Polynomial.{coefficients}
use Rattle.poly.proofs.Shifting.{Shifted}
use Rattle.poly.proofs.remainders.shift_in.Given as goal

abbrev pub invariant-loop-i : goal.invariant-loop-i
invariant-loop-i g l = Shifted g.F.Field.arithmetic (coefficients l.modulus) l.code l.initial.residue l.i l.residue l.lower
