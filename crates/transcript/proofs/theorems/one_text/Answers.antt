use Rattle.transcript.proofs.OneText.{one_text}
use Rattle.transcript.proofs.theorems.one_text.Goals as goal

pub returns : goal.returns
returns c = one_text c.one_content.ensures c.one_answer.ensures c.lawful_or_ground.ensures c.one_end.ensures
