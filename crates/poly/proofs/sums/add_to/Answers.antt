use Rattle.algebra.specs.Polynomial.{coefficients}
use Rattle.algebra.proofs.Coefficients.{list_polynomial}
use Rattle.poly.proofs.Terms.{add_one_multiple}
use Rattle.poly.proofs.sums.add_to.Goals as goal

pub returns-clause-value : goal.returns-clause-value
returns-clause-value g c =
    let f = g.F.Field.arithmetic in
    let L = g.met.F.Field.lawful in
    let r = c.args.r.now in
    add_one_multiple f L (coefficients c.args.p.now) (coefficients r) (coefficients c.add_scaled.new.p) (list_polynomial f L r c.requires.r_codes)
    c.add_scaled.ensures.value
