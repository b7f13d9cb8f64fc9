use Rattle.std.proofs.Common.{◌≡◌, ℕ, length, replicate, ap, ◌∙◌, rules}
use Rattle.algebra.specs.Polynomial.{add, coefficients, multiply}
use Rattle.algebra.proofs.Coefficients.{list_polynomial, multiply_polynomial, nought_add}
use Rattle.algebra.proofs.Remainders.{zeros_nought}
use Rattle.poly.proofs.Terms.{add_one_multiple}
use Rattle.poly.proofs.products.multiply.Goals as goal

pub returns-clause-value : goal.returns-clause-value
returns-clause-value g c =
    let f = g.F.Field.arithmetic in
    let L = g.met.F.Field.lawful in
    let a = c.args.a.now in
    let b = c.args.b.now in
    let product = multiply f (coefficients a) (coefficients b) in
    let codes = multiply_polynomial f L (coefficients a) (coefficients b) (list_polynomial f L a c.requires.a_codes) (list_polynomial f L b c.requires.b_codes) in
    let zeros : c.fill.new.self ≡ replicate (length c.args.product.now) 0 = search rules in
    add_one_multiple f L (coefficients c.fill.new.self) product (coefficients c.add_product.new.p) codes c.add_product.ensures.value
    ∙ ap (λ (p : ℕ → ℕ). add f p product) (ap coefficients zeros ∙ zeros_nought (length c.args.product.now)) ∙ nought_add f L product codes
