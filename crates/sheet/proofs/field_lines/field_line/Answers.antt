use Rattle.std.proofs.Common.{◌≡◌, sym, subst}
use Rattle.expression.specs.Fields.{field_word}
use Rattle.expression.specs.Texts.{Got}
use Rattle.expression.proofs.Moved.{sign_there}
use Rattle.sheet.proofs.Exits.{handed_on}
use Rattle.sheet.proofs.FieldNames.{field_line_got, field_not_ended}
use Rattle.sheet.proofs.Tables.{named_got}
use Rattle.sheet.proofs.field_lines.field_line.Goals as goal

pub returns-in_err-sign : goal.returns-in_err-sign
returns-in_err-sign c =
    let (none, place) = rw (c.at.ensures.sheet, c.at.ensures.place) at c.in_err-sign.ensures in
    rw (handed_on c.from_residual-in_err-sign.result c.from_residual-in_err-sign.ensures.1)
    (field_not_ended c.in_ok-name.name.value (named_got (λ x name. x ≡ field_word name) c.in_ok-name.ensures c.end.ensures) none place)

pub returns : goal.returns
returns c =
    let (stands, end) = sign_there c.at.ensures.sheet c.at.ensures.place c.in_ok-sign.ensures c.end-2.ensures in
    subst (Got _ _ _) (sym end) (field_line_got c.in_ok-name.name.value (named_got (λ x name. x ≡ field_word name) c.in_ok-name.ensures c.end.ensures) stands)
