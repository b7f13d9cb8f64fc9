use Rattle.plan.specs.Held.{scheme}
use Rattle.rack.specs.Racks.{state}
use Rattle.batch.proofs.Promising.{both_kept}
use Rattle.batch.proofs.loading.load_pair.Goals as goal

pub returns : goal.returns
returns g c =
    let f = g.F.Field.arithmetic in
    let plan = c.in-Ok.ensures in (
      plan.0,
      both_kept f g.met.F.Field.lawful c.args.carriers c.args.moduli.now plan.0 (scheme c.in-Ok.plan) plan.1 _ _
          (record {
            start = state c.in-Ok-new.rack;
            made = c.in-Ok-new.ensures.0;
            runs = c.run.ensures;
          })
          (record {
            start = state c.in-Ok-new-2.rack;
            made = c.in-Ok-new-2.ensures.0;
            runs = c.run-2.ensures;
          }),
    )
