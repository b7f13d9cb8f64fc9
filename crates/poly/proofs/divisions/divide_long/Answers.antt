use Rattle.std.proofs.Common.{◌≡◌, ◌+◌, ◌-◌, ◌<◌, ◌≤◌, length, ap, ◌∙◌, arith}
use Rattle.algebra.specs.Moduli.{monomial}
use Rattle.algebra.specs.Polynomial.{coefficients, add, multiply}
use Rattle.algebra.proofs.Coefficients.{list_polynomial}
use Rattle.poly.proofs.LongDivision.{UnderDivision, division_begins, division_goes_on, division_ends, leads}
use Rattle.poly.proofs.divisions.divide_long.Goals as goal

pub loop-shift-init : goal.loop-shift-init
loop-shift-init g c =
    let f = g.F.Field.arithmetic in
    let L = g.met.F.Field.lawful in
    let m = c.args.divisor.now in
    let l : length c.args.remainder.now ≤ length m - 1 + c.saturating_sub-shift.result = omega arith in
    division_begins f L (length m - 1) (coefficients m) (list_polynomial f L m c.requires.divisor_codes) (leads m c.requires.divisor_least c.requires.leading)
    c.saturating_sub-shift.result c.args.quotient.now c.args.remainder.now c.requires.remainder_codes l c.requires.empty

pub loop-shift-preserved : goal.loop-shift-preserved
loop-shift-preserved g c =
    let f = g.F.Field.arithmetic in
    let L = g.met.F.Field.lawful in
    let m = c.args.divisor.now in
    let d = length m - 1 in
    let k = c.loop-shift.shift - 1 in
    let a = coefficients c.args.remainder.now in
    let next : c.loop-shift.shift ≡ k + 1 = omega arith in
    let l : k < length c.loop-shift.quotient = omega arith in
    let factor = c.product-factor.ensures ∙ ap (f.product (coefficients c.loop-shift.remainder (d + k))) c.inverse-inverse.ensures in
    let less =
    c.add_scaled.ensures.value
    ∙ ap (λ n. add f (coefficients c.loop-shift.remainder) (multiply f (monomial n k) (coefficients m))) c.negative.ensures in
    let before : UnderDivision f d a (coefficients m) (k + 1) c.loop-shift.quotient c.loop-shift.remainder = rw next at c.loop-shift.invariant in
    division_goes_on f L d (coefficients m) (list_polynomial f L m c.requires.divisor_codes) (leads m c.requires.divisor_least c.requires.leading) a k
    c.product-factor.result c.loop-shift.quotient c.loop-shift.remainder c.add_scaled.new.p l factor less before

pub returns : goal.returns
returns g c =
    let f = g.F.Field.arithmetic in
    let L = g.met.F.Field.lawful in
    let m = c.args.divisor.now in
    let d = length m - 1 in
    let a = coefficients c.args.remainder.now in
    let last : c.loop-shift.shift ≡ 0 = omega arith in
    let whole : UnderDivision f d a (coefficients m) 0 c.loop-shift.quotient c.loop-shift.remainder = rw last at c.loop-shift.invariant in
    division_ends f L d (coefficients m) (list_polynomial f L m c.requires.divisor_codes) (leads m c.requires.divisor_least c.requires.leading) a
    c.loop-shift.quotient c.loop-shift.remainder whole
