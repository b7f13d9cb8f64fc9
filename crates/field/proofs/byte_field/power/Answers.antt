-- The table holds the powers of the byte 2: the checker computes both and compares them.
use Rattle.algebra.specs.BitPolynomials.{reduce}
use Rattle.algebra.proofs.Bytes.{doubled, powers_from, power_entry}
use Rattle.field.proofs.byte_field.power.Goals as goal

pub returns : goal.returns
unfolding doubled reduce powers_from
returns c = power_entry 510 c.args.exponent c.requires
