use Rattle.std.proofs.Common.{refl}
use Rattle.sheet.proofs.Drafting.{any_field, any_moduli, drafted}
use Rattle.sheet.proofs.Exits.{handed_on}
use Rattle.sheet.proofs.Vacancies.{holds_none}
use Rattle.sheet.proofs.Wholes.{calls_lost, carrying_lost, field_lost, spare_lost}
use Rattle.sheet.proofs.reading.read_sections.Goals as goal

pub returns-in_err-field : goal.returns-in_err-field
returns-in_err-field c = rw (handed_on c.from_residual.result c.from_residual.ensures.1) (field_lost _ _ c.in_err-field.ensures)

pub returns-in_err-carrying : goal.returns-in_err-carrying
returns-in_err-carrying c =
    let field = any_field _ _ _ _ c.in_ok-field.ensures in
    rw (handed_on c.from_residual-in_err-carrying.result c.from_residual-in_err-carrying.ensures.1)
    (carrying_lost _ _ _ field (rw (c.at.ensures.sheet, c.at.ensures.place) at c.in_err-carrying.ensures))

pub returns-in_err-spare : goal.returns-in_err-spare
returns-in_err-spare c =
    let field = any_field _ _ _ _ c.in_ok-field.ensures in
    let carrying = any_moduli _ _ _ _ _ c.moduli_section.new.moduli _ (rw (c.at.ensures.sheet, c.at.ensures.place) at c.in_ok-carrying.ensures) in
    rw (handed_on c.from_residual-in_err-spare.result c.from_residual-in_err-spare.ensures.1)
    (spare_lost _ _ _ _ field carrying (rw (c.at-2.ensures.sheet, c.at-2.ensures.place) at c.in_err-spare.ensures))

pub returns-in_err-calls : goal.returns-in_err-calls
returns-in_err-calls c =
    let field = any_field _ _ _ _ c.in_ok-field.ensures in
    let carrying = any_moduli _ _ _ _ _ c.moduli_section.new.moduli _ (rw (c.at.ensures.sheet, c.at.ensures.place) at c.in_ok-carrying.ensures) in
    let spare = any_moduli _ _ _ _ c.moduli_section.new.moduli c.moduli_section-2.new.moduli _ (rw (c.at-2.ensures.sheet, c.at-2.ensures.place) at c.in_ok-spare.ensures) in
    rw (handed_on c.from_residual-in_err-calls.result c.from_residual-in_err-calls.ensures.1)
    (calls_lost _ _ _ _ _ field carrying spare (rw (c.at-3.ensures.sheet, c.at-3.ensures.place) at c.in_err-calls.ensures))

pub returns : goal.returns
returns c =
    drafted _ _ _ _ c.moduli_section.new.moduli c.moduli_section-2.new.moduli _ _ c.in_ok-calls.calls refl (holds_none c.args.room.moduli c.args.room.moduli_fit.0) c.in_ok-field.ensures
    (rw (c.at.ensures.sheet, c.at.ensures.place) at c.in_ok-carrying.ensures)
    (rw (c.at-2.ensures.sheet, c.at-2.ensures.place) at c.in_ok-spare.ensures)
    (rw (c.at-3.ensures.sheet, c.at-3.ensures.place) at c.in_ok-calls.ensures)
