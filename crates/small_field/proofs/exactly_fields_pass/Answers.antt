use Rattle.small_field.proofs.exactly_fields_pass.Goals as goal
use Rattle.small_field.proofs.Passed.{passed}
use Rattle.small_field.proofs.Passing.{passing}

pub returns : goal.returns
returns c = λ q plus minus times. (passed q plus minus times, passing q plus minus times)
