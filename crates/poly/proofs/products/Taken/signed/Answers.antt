use Rattle.std.proofs.Common.{sym, ap, ◌∙◌, arith}
use Rattle.algebra.proofs.Codes.{one_product}
use Rattle.algebra.proofs.Negatives.{negative_product}
use Rattle.poly.proofs.products.Taken.signed.Goals as goal

-- The negative of a code is its product with -1.
pub returns-in-Subtracted : goal.returns-in-Subtracted
returns-in-Subtracted g c =
    let f = g.F.Field.arithmetic in
    let L = g.met.F.Field.lawful in
    let code = c.args.code in
    rw c.in-Subtracted.is
    (c.negative.ensures ∙ sym (negative_product f L 1 code (omega (arith, L.order_least)) c.requires ∙ ap f.negative (one_product f L code c.requires)))
