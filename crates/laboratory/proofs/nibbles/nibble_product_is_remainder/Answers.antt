use Rattle.laboratory.proofs.Products.{product_remainder}
use Rattle.laboratory.proofs.nibbles.nibble_product_is_remainder.Goals as goal

pub returns : goal.returns
returns c = product_remainder
