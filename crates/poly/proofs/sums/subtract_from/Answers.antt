use Rattle.algebra.specs.Polynomial.{coefficients}
use Rattle.algebra.proofs.Coefficients.{list_polynomial}
use Rattle.poly.proofs.Terms.{add_minus_one_multiple}
use Rattle.poly.proofs.sums.subtract_from.Goals as goal

pub returns-clause-value : goal.returns-clause-value
returns-clause-value g c =
    let f = g.F.Field.arithmetic in
    let L = g.met.F.Field.lawful in
    let p = c.args.p.now in
    let r = c.args.r.now in
    add_minus_one_multiple f L (coefficients p) (coefficients r) (coefficients c.add_scaled.new.p) c.negative.result
    (list_polynomial f L p c.requires.p_codes) (list_polynomial f L r c.requires.r_codes) c.negative.ensures c.add_scaled.ensures.value
