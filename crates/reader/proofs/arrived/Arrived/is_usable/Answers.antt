use Rattle.std.proofs.Common.{Bool, ◌&&◌, length, sym, ap, ◌∙◌, arith}
use Rattle.std.proofs.lemmas.Bool.{eq-eqb}
use Rattle.std.proofs.lemmas.Bool.Decides.{same_from_decides}
use Rattle.plan.specs.Held.{scheme}
use Rattle.plan.specs.Schemes.{degree}
use Rattle.reader.specs.Gathering.{all_below}
use Rattle.reader.proofs.Gathers.{decides_codes}
use Rattle.reader.proofs.arrived.Arrived.is_usable.Goals as goal

pub returns-then-residue-degree : goal.returns-then-residue-degree
returns-then-residue-degree g c =
    let f = g.F.Field.arithmetic in
    let y = c.args.residue.now in
    same_from_decides c.all_codes.result (all_below f.order y) c.all_codes.ensures (decides_codes f g.met.F.Field.lawful y)
    ∙ ap (λ (b : Bool). b && all_below f.order y)
    (sym (eq-eqb (length y) (degree (scheme c.args.self.now.plan.now) c.args.i) (omega (arith, c.if-residue-degree.true, c.degree.ensures))))
