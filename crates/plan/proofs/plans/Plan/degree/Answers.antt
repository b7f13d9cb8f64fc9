use Rattle.std.proofs.Common.{sym, arith}
use Rattle.plan.proofs.Records.{plan_next, degree_past}
use Rattle.plan.proofs.plans.Plan.degree.Goals as goal

pub overflow_sub-result : goal.overflow_sub-result
overflow_sub-result g c = omega (arith, plan_next c.args.self.now c.args.i c.if-i-self.true)

pub returns-then-i-self : goal.returns-then-i-self
returns-then-i-self g c = omega (arith, plan_next c.args.self.now c.args.i c.if-i-self.true)

pub returns-else-i-self : goal.returns-else-i-self
returns-else-i-self g c = sym (degree_past c.args.self.now c.args.i c.if-i-self.false)
