use Rattle.std.proofs.Common.{◌≡◌, ℕ, ◌-◌, length, replicate, take, ap, ◌∙◌, arith, length-append}
use Rattle.std.proofs.lemmas.Slice.Eq.{slice_eq-Decides}
use Rattle.std.proofs.lemmas.Bool.Decides.{same_from_decides, Decides-eqb}
use Rattle.plan.specs.Accounts.{same}
use Rattle.plan.specs.Held.{scheme}
use Rattle.plan.specs.Schemes.{residue}
use Rattle.plan.proofs.Sizes.{residue_length}
use Rattle.plan.proofs.Tables.{table_begins}
use Rattle.plan.proofs.Tallies.{decides_same}
use Rattle.reader.proofs.tally.Tally.is_residue.Goals as goal

pub slice_bounds-eq-end : goal.slice_bounds-eq-end
slice_bounds-eq-end g c =
    let s = scheme c.args.self.now.plan.now in
    let right = residue s c.args.message.now c.args.i in
    omega (
      arith,
      c.degree.ensures,
      ap length c.residue-right.ensures,
      residue_length s c.args.message.now c.args.i,
      length-append right (replicate (9 - length right) 0),
    )

pub returns : goal.returns
returns g c =
    let s = scheme c.args.self.now.plan.now in
    let part = c.args.part.now in
    let table = c.residue-right.result in
    let whole = residue s c.args.message.now c.args.i in
    let right = take (c.degree.result - 0) table in
    let long : c.degree.result - 0 ≡ length whole = omega (arith, c.degree.ensures, residue_length s c.args.message.now c.args.i) in
    same_from_decides c.eq.result (same part right) (slice_eq-Decides Decides-eqb part right c.eq.result c.eq.ensures) (decides_same part right)
    ∙ ap (same part) (ap (λ (k : ℕ). take k table) long ∙ ap (take (length whole)) c.residue-right.ensures ∙ table_begins 9 0 whole)
