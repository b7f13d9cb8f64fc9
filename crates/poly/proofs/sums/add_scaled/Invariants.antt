-- The first i terms of r are in.
use Rattle.std.proofs.Common.{◌≡◌}
use Rattle.algebra.specs.Polynomial.{coefficients}
use Rattle.poly.proofs.Scaled.{scaled_part}
use Rattle.poly.proofs.sums.add_scaled.Given as goal

abbrev pub invariant-loop-i : goal.invariant-loop-i
invariant-loop-i g l =
    coefficients l.p
    ≡ scaled_part g.F.Field.arithmetic g.met.F.Field.lawful (coefficients l.initial.p) l.factor l.shift l.i (coefficients l.r)
