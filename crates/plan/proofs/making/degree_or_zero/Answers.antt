use Rattle.std.proofs.Common.{arith, w32, SFits, rules}
use Rattle.plan.proofs.Signs.{no_degree, some_degree}
use Rattle.plan.proofs.Sizes.{extent_length}
use Rattle.plan.proofs.making.degree_or_zero.Goals as goal

pub returns-then-d-lt0 : goal.returns-then-d-lt0
returns-then-d-lt0 c =
    let fits : SFits w32 c.degree-d.result = search rules in
    record { value = no_degree c.args.m.now c.degree-d.result fits c.degree-d.ensures c.if-d-lt0.true; bound = omega arith }

pub returns-else-d-lt0 : goal.returns-else-d-lt0
returns-else-d-lt0 c =
    let fits : SFits w32 c.degree-d.result = search rules in
    let value = some_degree c.args.m.now c.degree-d.result fits c.degree-d.ensures c.if-d-lt0.false in
    record { value = value; bound = omega (arith, value, c.told-m, extent_length c.args.m.now) }
