use Rattle.std.proofs.Common.{sym, ◌∙◌}
use Rattle.expression.proofs.Moved.{byte_there}
use Rattle.sheet.proofs.CallRows.{number_text}
use Rattle.sheet.proofs.numbers.digits.Goals as goal

pub returns : goal.returns
returns c =
    let (blank, past) = byte_there c.in_ok-blank.ensures c.end.ensures in
    let sheet = c.at-first.ensures.sheet in
    let place = c.at-first.ensures.place ∙ past in
    number_text blank (rw (sheet, place) at c.digits_end-end.ensures) (λ e. c.if-end-place.false (e ∙ sym place)) (rw (sheet, place) at c.part.ensures.text)
    c.part.ensures.ends
