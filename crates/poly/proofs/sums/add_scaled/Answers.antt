use Rattle.std.proofs.Common.{◌≡◌, ◌+◌, ◌<◌, length, arith}
use Rattle.algebra.specs.Moduli.{monomial}
use Rattle.algebra.specs.Polynomial.{coefficients, add, multiply}
use Rattle.algebra.proofs.Coefficients.{list_polynomial}
use Rattle.poly.proofs.Scaled.{nothing_added, scaled_none, scaled_turn, scaled_all, sum_codes}
use Rattle.poly.proofs.sums.add_scaled.Goals as goal

pub loop-i-init : goal.loop-i-init
loop-i-init g c =
    let f = g.F.Field.arithmetic in
    let L = g.met.F.Field.lawful in
    let p = c.args.p.now in
    scaled_none f L (coefficients p) c.args.factor c.args.shift (coefficients c.args.r.now) (list_polynomial f L p c.requires.p_codes)
    c.requires.factor_code

pub loop-i-preserved : goal.loop-i-preserved
loop-i-preserved g c =
    let f = g.F.Field.arithmetic in
    let L = g.met.F.Field.lawful in
    let p = c.args.p.now in
    let r = c.args.r.now in
    let l : c.args.shift + c.loop-i.i < length c.loop-i.p = omega (arith, c.requires.fits) in
    scaled_turn f L (coefficients p) (coefficients r) c.args.factor c.args.shift c.loop-i.i c.product.result c.sum.result c.loop-i.p
    (list_polynomial f L p c.requires.p_codes) (list_polynomial f L r c.requires.r_codes) c.requires.factor_code l c.product.ensures c.sum.ensures
    c.loop-i.invariant

pub returns-then-factor-eq0-clause-value : goal.returns-then-factor-eq0-clause-value
returns-then-factor-eq0-clause-value g c =
    let f = g.F.Field.arithmetic in
    let L = g.met.F.Field.lawful in
    let p = c.args.p.now in
    let r = c.args.r.now in
    nothing_added f L (coefficients p) (coefficients r) c.args.factor c.args.shift (list_polynomial f L p c.requires.p_codes)
    (list_polynomial f L r c.requires.r_codes) c.if-factor-eq0.true

pub returns : goal.returns
returns g c =
    let f = g.F.Field.arithmetic in
    let L = g.met.F.Field.lawful in
    let p = coefficients c.args.p.now in
    let r = c.args.r.now in
    let all : c.loop-i.i ≡ length r = omega arith in
    let value : coefficients c.loop-i.p ≡ add f p (multiply f (monomial c.args.factor c.args.shift) (coefficients r)) =
    scaled_all f L p c.args.factor c.args.shift c.loop-i.i r c.loop-i.p all c.loop-i.invariant in
    record { value = value; codes = sum_codes f L p _ c.loop-i.p value }
