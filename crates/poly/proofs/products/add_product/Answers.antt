use Rattle.std.proofs.Common.{◌≡◌, length, ◌∙◌, arith}
use Rattle.algebra.specs.Polynomial.{coefficients}
use Rattle.algebra.proofs.Coefficients.{coefficients_below, list_polynomial}
use Rattle.poly.specs.Products.{unit}
use Rattle.poly.proofs.Terms.{part_none, part_more, part_all, unit_code}
use Rattle.poly.proofs.products.add_product.Goals as goal

pub loop-shift-init : goal.loop-shift-init
loop-shift-init g c =
    let f = g.F.Field.arithmetic in
    let L = g.met.F.Field.lawful in
    let p = c.args.p.now in
    let a = c.args.a.now in
    let b = c.args.b.now in
    let R = c.requires in (
      part_none f L (unit f c.args.taken) (coefficients p) (coefficients a) (coefficients b) (unit_code f L c.args.taken)
          (list_polynomial f L p R.p_codes) (list_polynomial f L a R.a_codes)
          (list_polynomial f L b R.b_codes),
      R.p_codes,
    )

pub loop-shift-preserved : goal.loop-shift-preserved
loop-shift-preserved g c =
    let f = g.F.Field.arithmetic in
    let L = g.met.F.Field.lawful in
    let p = c.args.p.now in
    let a = c.args.a.now in
    let b = c.args.b.now in
    let R = c.requires in (
      part_more f L (unit f c.args.taken) (coefficients p) (coefficients a) (coefficients b) (unit_code f L c.args.taken) (list_polynomial f L p R.p_codes)
          (list_polynomial f L a R.a_codes) (list_polynomial f L b R.b_codes) c.loop-shift.shift c.signed.result c.loop-shift.p c.add_scaled.new.p
          c.signed.ensures c.loop-shift.invariant.0 c.add_scaled.ensures.value,
      c.add_scaled.ensures.codes,
    )

pub returns-clause-value : goal.returns-clause-value
returns-clause-value g c =
    let f = g.F.Field.arithmetic in
    let L = g.met.F.Field.lawful in
    let p = c.args.p.now in
    let a = c.args.a.now in
    let b = c.args.b.now in
    let R = c.requires in
    let all : c.loop-shift.shift ≡ length a = omega arith in
    c.loop-shift.invariant.0
    ∙ rw all (part_all f L (unit f c.args.taken) (coefficients p) (coefficients a) (coefficients b) (unit_code f L c.args.taken) (list_polynomial f L p R.p_codes)
    (list_polynomial f L a R.a_codes) (list_polynomial f L b R.b_codes) (length a) (coefficients_below a))
