use Rattle.algebra.proofs.codes_form_a_field.Goals as goal
use Rattle.algebra.proofs.Main.{codes_form_a_field}

pub returns : goal.returns
returns c = codes_form_a_field
