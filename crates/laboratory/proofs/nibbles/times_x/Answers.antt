use Rattle.std.proofs.Common.{refl, ◌∙◌, ◌*◌}
use lib.Bits.{bit_xor}
use Rattle.std.proofs.lemmas.Bool.{cond_above, cond_below}
use Rattle.laboratory.specs.Nibbles.{nibble_modulus}
use Rattle.laboratory.proofs.Products.{by_x}
use Rattle.laboratory.proofs.nibbles.times_x.Goals as goal

pub returns-then-moved-lt-ORDER : goal.returns-then-moved-lt-ORDER
returns-then-moved-lt-ORDER c =
    let a = c.args.a in
    cond_below (2 * a) 16 (2 * a) (bit_xor (2 * a) nibble_modulus) c.if-moved-lt-ORDER.true ∙ by_x a c.requires

pub returns-else-moved-lt-ORDER : goal.returns-else-moved-lt-ORDER
returns-else-moved-lt-ORDER c =
    let a = c.args.a in
    cond_above (2 * a) 16 (2 * a) (bit_xor (2 * a) nibble_modulus) (bit_xor (2 * a) nibble_modulus) c.if-moved-lt-ORDER.false refl
    ∙ by_x a c.requires
