use Rattle.std.proofs.Common.{◌≡◌, ◌*◌, ◌/◌, ◌%◌, sym, ap, ◌∙◌, arith}
use lib.Bits.{bit_xor, xor_zero_r}
use Rattle.laboratory.specs.Nibbles.{nibble_product}
use Rattle.laboratory.proofs.Products.{by_x_below, by_zero, next}
use Rattle.laboratory.proofs.nibbles.multiply.Goals as goal

pub loop-rest-preserved : goal.loop-rest-preserved
loop-rest-preserved c =
    let at = c.loop-rest in
    let known = at.invariant in
    record {
      moved_code = rw c.times_x-moved.ensures (by_x_below at.moved known.moved_code);
      rest_code = omega arith;
      whole =
          ap (λ x. bit_xor (bit_xor at.sum (at.rest % 2 * at.moved)) (nibble_product x (at.rest / 2))) c.times_x-moved.ensures
          ∙ next at.sum at.moved at.rest known.moved_code known.rest_code
          ∙ known.whole;
    }

pub returns : goal.returns
returns c =
    let at = c.loop-rest in
    let none : at.rest ≡ 0 = omega arith in
    sym (ap (λ x. bit_xor at.sum (nibble_product at.moved x)) none ∙ ap (bit_xor at.sum) (by_zero at.moved at.invariant.moved_code) ∙ xor_zero_r at.sum)
    ∙ at.invariant.whole
