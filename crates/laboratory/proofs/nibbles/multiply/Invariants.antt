use Rattle.std.proofs.Common.{◌≡◌, ◌<◌}
use lib.Bits.{bit_xor}
use Rattle.laboratory.specs.Nibbles.{nibble_product}
use Rattle.laboratory.proofs.nibbles.multiply.Given as goal

-- The sum so far, and the product that is left, make the product.
abbrev pub invariant-loop-rest : goal.invariant-loop-rest
invariant-loop-rest l =
    record {
      moved_code : l.moved < 16;
      rest_code : l.rest < 16;
      whole : bit_xor l.sum (nibble_product l.moved l.rest) ≡ nibble_product l.a l.b;
    }

abbrev pub decreases-loop-rest : goal.decreases-loop-rest
decreases-loop-rest l = l.rest
