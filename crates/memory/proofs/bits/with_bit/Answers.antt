use Rattle.std.proofs.Common.{◌≡◌, sym, ◌∙◌, arith, w8}
use Rattle.std.proofs.lemmas.Nat.Bits.{bit_at_clear_other, bit_at_clear_same, bit_at_set_other, bit_at_set_same}
use Rattle.memory.proofs.bits.with_bit.Goals as goal

pub returns-then-v-eq0 : goal.returns-then-v-eq0
returns-then-v-eq0 c = record {
  there = bit_at_clear_same w8 c.args.byte c.args.k c.requires.0 ∙ sym c.if-v-eq0.true;
  elsewhere = bit_at_clear_other w8 c.args.byte c.args.k c.requires.0;
}

pub returns-else-v-eq0 : goal.returns-else-v-eq0
returns-else-v-eq0 c =
    let one : 1 ≡ c.args.v = omega arith in
    record {
      there = bit_at_set_same w8 c.args.byte c.args.k c.requires.0 ∙ one;
      elsewhere = λ i _. bit_at_set_other w8 c.args.byte c.args.k c.requires.0 i;
    }
