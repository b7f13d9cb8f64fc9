use Rattle.algebra.proofs.one_message_at_most.Goals as goal
use Rattle.algebra.proofs.Main.{one_message_at_most}

pub returns : goal.returns
returns c = one_message_at_most
