-- The buffer holds the codes of the product, as many as its degree can ask for.
use Rattle.std.proofs.Common.{sym, ap, ◌∙◌, arith}
use Rattle.algebra.specs.Polynomial.{coefficients, multiply}
use Rattle.expression.specs.Values.{fitted, product_value}
use Rattle.expression.proofs.Filled.{filled, of_both}
use Rattle.expression.proofs.values.ProductOfOperation.over.Goals as goal

pub returns : goal.returns
returns g c =
    let f = g.F.Field.arithmetic in
    let p = c.in_ok-one.one in
    let r = c.in_ok-one.other in
    c.fit.ensures
    ∙ (ap fitted (filled (multiply f (coefficients p) (coefficients r)) c.multiply.new.product 17 (omega arith) c.multiply.ensures.value)
    ∙ of_both (product_value f) c.args.self.0 c.args.self.1 p r (sym c.zip.ensures ∙ c.in_ok-one.was))
