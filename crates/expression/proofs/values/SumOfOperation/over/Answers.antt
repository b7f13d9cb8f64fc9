-- The buffer holds the codes of the sum, nine of them.
use Rattle.std.proofs.Common.{Some, sym, ap, ◌∙◌, arith}
use Rattle.algebra.specs.Polynomial.{add, coefficients}
use Rattle.expression.specs.Values.{sum_value}
use Rattle.expression.proofs.Filled.{filled, of_both}
use Rattle.expression.proofs.values.SumOfOperation.over.Goals as goal

pub returns : goal.returns
returns g c =
    let f = g.F.Field.arithmetic in
    let p = c.in_ok-total.total in
    let r = c.in_ok-total.other in
    ap Some (filled (add f (coefficients p) (coefficients r)) c.add_to.new.p 9 (omega arith) c.add_to.ensures.value)
    ∙ of_both (sum_value f) c.args.self.0 c.args.self.1 p r (sym c.zip.ensures ∙ c.in_ok-total.was)
