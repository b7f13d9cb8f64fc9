use Rattle.spread.proofs.SpreadMemory.set.Goals as goal

pub returns : goal.returns
returns g c = c.in-Some.ensures.stands.sets _ _ c.set.result _ _ c.set.ensures
