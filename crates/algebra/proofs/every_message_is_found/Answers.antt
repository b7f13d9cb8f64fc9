use Rattle.algebra.proofs.every_message_is_found.Goals as goal
use Rattle.algebra.proofs.Main.{every_message_is_found}

pub returns : goal.returns
returns c = every_message_is_found
