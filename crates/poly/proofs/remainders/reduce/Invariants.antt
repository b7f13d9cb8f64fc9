use Rattle.std.proofs.Common.{length}
use Rattle.std.specs.Iterator.Adapters.{rev_source}
use Rattle.std.specs.Slice.Iter.{iter_rest}
use Rattle.algebra.specs.Polynomial.{coefficients}
use Rattle.poly.proofs.Reducing.{Reduced}
use Rattle.poly.proofs.remainders.reduce.Given as goal

abbrev pub invariant-loop-code : goal.invariant-loop-code
invariant-loop-code g l =
    Reduced g.F.Field.arithmetic (length l.fn.residue) (coefficients l.modulus) l.p (iter_rest (rev_source l.code-iterator)) l.residue
