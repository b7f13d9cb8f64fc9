-- Exponents add: a product of two powers of 2 is the power of the sum.
use Rattle.std.proofs.Common.{sym, ◌∙◌, inl, inr, ⊎_elim, arith}
use Rattle.algebra.specs.BitPolynomials.{byte_product}
use Rattle.algebra.proofs.Bytes.{product_power, product_with_zero}
use Rattle.algebra.proofs.Guarded.{on_codes_outside_left, on_codes_outside_right}
use Rattle.field.proofs.byte_field.BytesField.product.Goals as goal

pub returns-then-a-ge-ORDER : goal.returns-then-a-ge-ORDER
returns-then-a-ge-ORDER c =
    let a = c.args.a in
    let b = c.args.b in
    sym
    (⊎_elim (on_codes_outside_left 256 byte_product a b)
    (⊎_elim (λ h. on_codes_outside_right 256 byte_product a b (omega arith))
    (⊎_elim (λ h. product_with_zero a b (inl (omega arith))) (λ h. product_with_zero a b (inr (omega arith)))))
    c.then-a-ge-ORDER.either)

pub returns : goal.returns
returns c =
    c.power.ensures
    ∙ product_power c.args.a c.args.b c.exponent.result c.exponent-2.result c.if-a-ge-ORDER.false c.if-b-ge-ORDER.false
    c.exponent.ensures.value c.exponent-2.ensures.value
