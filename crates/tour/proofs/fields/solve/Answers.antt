use Rattle.std.proofs.Common.{ap, ◌∙◌}
use Rattle.algebra.proofs.Laws.{solves}
use Rattle.tour.proofs.fields.solve.Goals as goal

pub returns : goal.returns
returns g c = λ h hg ho hl.
    let f = g.F.Field.arithmetic in
    ap (λ x. f.sum (f.product c.args.gain x) c.args.offset)
    (c.product.ensures
    ∙ ap (λ x. f.product x c.inverse.result) (c.sum-difference.ensures ∙ ap (f.sum c.args.level) c.negative.ensures)
    ∙ ap (f.product (f.sum c.args.level (f.negative c.args.offset))) c.inverse.ensures)
    ∙ solves f g.met.F.Field.lawful c.args.gain c.args.offset c.args.level h hg ho hl
