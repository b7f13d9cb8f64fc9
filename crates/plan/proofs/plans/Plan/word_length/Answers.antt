use Rattle.plan.proofs.Records.{plan_end}
use Rattle.plan.proofs.plans.Plan.word_length.Goals as goal

pub returns : goal.returns
returns g c = plan_end c.args.self.now
