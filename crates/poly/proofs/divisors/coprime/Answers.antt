use Rattle.algebra.specs.Polynomial.{coefficients}
use Rattle.algebra.proofs.Coefficients.{list_polynomial}
use Rattle.poly.proofs.CommonDivisors.{gcd_decides}
use Rattle.poly.proofs.divisors.coprime.Goals as goal

pub returns : goal.returns
returns g c =
    let f = g.F.Field.arithmetic in
    let L = g.met.F.Field.lawful in
    let d = c.gcd.new.divisor in
    gcd_decides f L c.gcd.result (coefficients c.args.m.now) (coefficients c.args.n.now) (coefficients d) c.gcd.ensures.greatest
    (list_polynomial f L d c.gcd.ensures.codes) c.gcd.ensures.has_degree
