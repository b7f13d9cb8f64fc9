use Rattle.std.proofs.lemmas.Result.{MatchResult-weaker}
use Rattle.sheet.proofs.Exits.{handed_on}
use Rattle.sheet.proofs.FieldSections.{field_count_lost, field_got, field_name_lost}
use Rattle.sheet.proofs.sections.field_section.Goals as goal

pub returns-in_err-count : goal.returns-in_err-count
returns-in_err-count c = rw (handed_on c.from_residual.result c.from_residual.ensures.1) (field_count_lost _ _ _ c.in_err-count.ensures)

pub returns : goal.returns
returns c =
    MatchResult-weaker c.field_line.result (rw (c.at.ensures.sheet, c.at.ensures.place) at c.field_line.ensures)
    (λ line h. field_got _ _ _ _ _ _ c.in_ok-count.ensures h)
    (λ stop h. field_name_lost _ _ _ _ _ c.in_ok-count.ensures h)
