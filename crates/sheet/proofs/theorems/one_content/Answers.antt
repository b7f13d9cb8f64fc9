use Rattle.sheet.proofs.Contents.{one_content}
use Rattle.sheet.proofs.theorems.one_content.Goals as goal

pub returns : goal.returns
returns c = one_content
