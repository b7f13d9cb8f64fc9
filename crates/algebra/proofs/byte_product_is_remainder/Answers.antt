use Rattle.algebra.proofs.byte_product_is_remainder.Goals as goal
use Rattle.algebra.proofs.Bytes.{product_remainder}

pub returns : goal.returns
returns c = product_remainder
