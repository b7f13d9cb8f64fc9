use Rattle.std.proofs.Common.{refl}
use Rattle.algebra.specs.Polynomial.{coefficients, multiply}
use Rattle.algebra.proofs.Coefficients.{list_polynomial, multiply_polynomial}
use Rattle.poly.proofs.Terms.{add_minus_one_multiple}
use Rattle.poly.proofs.products.subtract_product.Goals as goal

pub returns-clause-value : goal.returns-clause-value
returns-clause-value g c =
    let f = g.F.Field.arithmetic in
    let L = g.met.F.Field.lawful in
    let p = c.args.p.now in
    let a = c.args.a.now in
    let b = c.args.b.now in
    add_minus_one_multiple f L (coefficients p) (multiply f (coefficients a) (coefficients b)) (coefficients c.add_product.new.p) (f.negative 1)
    (list_polynomial f L p c.requires.p_codes)
    (multiply_polynomial f L (coefficients a) (coefficients b) (list_polynomial f L a c.requires.a_codes) (list_polynomial f L b c.requires.b_codes))
    refl c.add_product.ensures.value
