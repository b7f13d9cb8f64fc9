-- The first terms of a, times the factor and b, are in.
use Rattle.std.proofs.Common.{◌≡◌}
use Rattle.algebra.specs.Polynomial.{coefficients}
use Rattle.poly.specs.Products.{unit}
use Rattle.poly.specs.Slices.{Codes}
use Rattle.poly.proofs.Terms.{part}
use Rattle.poly.proofs.products.add_product.Given as goal

abbrev pub invariant-loop-shift : goal.invariant-loop-shift
invariant-loop-shift g l =
    (coefficients l.p ≡ part g.F.Field.arithmetic (unit g.F.Field.arithmetic l.taken) (coefficients l.initial.p) (coefficients l.a) (coefficients l.b) l.shift)
    × Codes g.F.Field.arithmetic l.p
