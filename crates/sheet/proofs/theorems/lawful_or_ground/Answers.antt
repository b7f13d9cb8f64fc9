use Rattle.sheet.proofs.Lawful.{lawful_or_ground}
use Rattle.sheet.proofs.theorems.lawful_or_ground.Goals as goal

pub returns : goal.returns
returns c = lawful_or_ground
