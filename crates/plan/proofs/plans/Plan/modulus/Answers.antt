use Rattle.std.proofs.Common.{sym, arith, rules}
use Rattle.plan.proofs.Records.{modulus_at, modulus_past, plan_positions}
use Rattle.plan.proofs.plans.Plan.modulus.Goals as goal

pub returns-then-i-self : goal.returns-then-i-self
returns-then-i-self g c = record { value = sym (modulus_at c.args.self.now c.args.i c.if-i-self.true); long = λ h. search rules }

pub returns-else-i-self : goal.returns-else-i-self
returns-else-i-self g c = record {
  value = sym (modulus_past c.args.self.now c.args.i c.if-i-self.false);
  long = λ h. absurd (omega (arith, plan_positions c.args.self.now, c.if-i-self.false));
}
