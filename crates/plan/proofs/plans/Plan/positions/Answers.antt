use Rattle.std.proofs.Common.{sym}
use Rattle.plan.proofs.Records.{plan_positions}
use Rattle.plan.proofs.plans.Plan.positions.Goals as goal

pub returns : goal.returns
returns g c = sym (plan_positions c.args.self.now)
