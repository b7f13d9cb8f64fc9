use Rattle.std.proofs.Common.{sym}
use Rattle.plan.proofs.Moduli.{codes_or_none, codes_all, no_modulus, constant_is_none, monic_decides}
use Rattle.plan.proofs.making.is_modulus.Goals as goal

pub returns-then-is_some : goal.returns-then-is_some
returns-then-is_some g c =
    let f = g.F.Field.arithmetic in
    let m = c.args.m.now in
    no_modulus f m (codes_or_none f m c.first_no_code.result c.first_no_code.ensures (sym c.if-is_some.ensures))

pub returns-then-d-lt-LEAST_DEGREE : goal.returns-then-d-lt-LEAST_DEGREE
returns-then-d-lt-LEAST_DEGREE g c =
    let f = g.F.Field.arithmetic in
    let m = c.args.m.now in
    no_modulus f m (constant_is_none f m c.degree_or_zero-d.result c.degree_or_zero-d.ensures.value c.if-d-lt-LEAST_DEGREE.true)

pub returns : goal.returns
returns g c =
    let f = g.F.Field.arithmetic in
    let m = c.args.m.now in
    monic_decides f m c.degree_or_zero-d.result c.degree_or_zero-d.ensures.value c.if-d-lt-LEAST_DEGREE.false
    (codes_all f m c.first_no_code.result c.first_no_code.ensures (sym c.if-is_some.ensures))
