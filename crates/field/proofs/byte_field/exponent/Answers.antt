-- The table holds the exponent of each byte but 0: the checker computes both and compares them.
use Rattle.algebra.specs.BitPolynomials.{reduce}
use Rattle.algebra.proofs.Bytes.{doubled, exponent, exponent_from, exponents_below, exponent_entry}
use Rattle.field.proofs.byte_field.exponent.Goals as goal

pub returns : goal.returns
unfolding doubled reduce exponent exponent_from exponents_below
returns c =
    let entry = exponent_entry c.args.a c.requires.nonzero c.requires.code in
    record { value = entry.0; bound = entry.1 }
