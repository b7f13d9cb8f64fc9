use Rattle.std.proofs.Common.{◌-◌, ◌<◌, ◌≤◌, length, ap, ◌∙◌, arith}
use Rattle.std.proofs.lemmas.List.{get_or-take, length-take-le}
use Rattle.algebra.specs.Polynomial.{coefficients}
use Rattle.poly.proofs.Shifting.{cons_last, shift_more, shift_all}
use Rattle.poly.proofs.remainders.shift_in.Goals as goal

pub loop-i-preserved : goal.loop-i-preserved
loop-i-preserved g c =
    let f = g.F.Field.arithmetic in
    let old = c.args.residue.now in
    let modulus = c.args.modulus.now in
    let i = c.loop-i.i in
    let top = coefficients old (length old - 1) in
    let below : i < length old = omega (arith, length-take-le (length old) modulus (omega (arith, c.requires.fits))) in
    let l : i < length c.loop-i.residue = omega arith in
    let product = c.product.ensures ∙ ap (f.product top) (get_or-take (length old) modulus i 0 below) in
    shift_more f g.met.F.Field.lawful (coefficients modulus) c.args.code old i c.loop-i.residue c.loop-i.lower top c.product.result
    c.negative.result c.sum.result c.loop-i.auto.residue l (cons_last c.args.code old c.requires.least) product c.negative.ensures
    c.sum.ensures c.loop-i.invariant

pub returns : goal.returns
returns g c =
    let l : length c.args.residue.now ≤ c.loop-i.i =
    omega (arith, length-take-le (length c.args.residue.now) c.args.modulus.now (omega (arith, c.requires.fits))) in
    shift_all g.F.Field.arithmetic g.met.F.Field.lawful (coefficients c.args.modulus.now) c.args.code c.args.residue.now c.loop-i.i
    c.loop-i.residue c.loop-i.lower c.loop-i.auto.residue l c.loop-i.invariant
