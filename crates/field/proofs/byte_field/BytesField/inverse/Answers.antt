-- The power 255 - i is the inverse of the power i, and a byte has one inverse.
use Rattle.std.proofs.Common.{sym, ap, ◌∙◌, ⊎_elim, arith}
use Rattle.algebra.specs.Arithmetics.{byte_arithmetic, reciprocal}
use Rattle.algebra.specs.BitPolynomials.{byte_product}
use Rattle.algebra.proofs.Bytes.{bytes, inverse_power}
use Rattle.algebra.proofs.Guarded.{on_code_outside}
use Rattle.field.proofs.byte_field.BytesField.inverse.Goals as goal

pub returns-then-a-ge-ORDER : goal.returns-then-a-ge-ORDER
returns-then-a-ge-ORDER c =
    sym
    (⊎_elim (on_code_outside 256 (reciprocal 256 byte_product) c.args.a)
    (λ h. ap byte_arithmetic.inverse h.1 ∙ bytes.inverse_of_zero)
    c.then-a-ge-ORDER.either)

pub returns : goal.returns
returns c =
    c.power.ensures
    ∙ inverse_power c.args.a c.exponent.result (omega arith) c.if-a-ge-ORDER.false c.exponent.ensures.bound
    c.exponent.ensures.value
