-- From the laws alone, for every field.
use Rattle.std.proofs.Common.{ap, ◌∙◌}
use Rattle.algebra.proofs.Laws.{put_back_any}
use Rattle.field.proofs.put_back.Goals as goal

pub returns : goal.returns
returns g c =
    let f = g.F.Field.arithmetic in
    c.sum-2.ensures
    ∙ ap (f.sum c.args.a) (c.sum.ensures ∙ ap (λ x. f.sum x c.args.b) c.negative.ensures)
    ∙ put_back_any f g.met.F.Field.lawful c.args.a c.args.b
