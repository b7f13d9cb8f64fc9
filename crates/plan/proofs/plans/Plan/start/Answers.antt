use Rattle.std.proofs.Common.{get_or, ap, ◌∙◌}
use Rattle.plan.proofs.Records.{plan_start}
use Rattle.plan.proofs.plans.Plan.start.Goals as goal

pub returns : goal.returns
returns g c = ap (λ j. get_or c.args.self.now.starts j 0) c.min.ensures ∙ plan_start c.args.self.now c.args.i
