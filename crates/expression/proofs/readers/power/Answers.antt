-- The power of z that stands here, or the place after the caret.
use Rattle.std.proofs.Common.{◌≡◌, ◌+◌, ap, ◌∙◌, arith}
use Rattle.expression.specs.Values.{power_value}
use Rattle.expression.specs.Fields.{arithmetic_of}
use Rattle.expression.proofs.Factors.{letter_read, power_stopped}
use Rattle.expression.proofs.Moved.{byte_there, sign_not, sign_there}
use Rattle.expression.proofs.Placed.{no_number, power_placed}
use Rattle.expression.proofs.readers.power.Goals as goal

pub returns-in_default : goal.returns-in_default
returns-in_default c scope =
    let (letter, end) = byte_there c.requires c.end-in_default.ensures in
    let place = c.at.ensures.place ∙ (byte_there c.requires c.end.ensures).1 in
    rw (end, c.power_value.ensures)
    (letter_read (arithmetic_of scope.field) scope.left c.args.from.sheet.now c.args.from.place letter.0 letter.1
    (sign_not c.at.ensures.sheet place c.in_default.ensures))

pub returns-in-Number : goal.returns-in-Number
returns-in-Number c scope =
    let (letter, end) = byte_there c.requires c.end.ensures in
    let (caret, after) = sign_there c.at.ensures.sheet (c.at.ensures.place ∙ end) c.in-Some.ensures c.end-2.ensures in
    let place : c.at-exponent.result.place ≡ c.args.from.place + 2 = omega (arith, c.at-exponent.ensures.place) in
    let (part, some, digits) = rw (c.at-exponent.ensures.sheet, place) at c.in-Number.ensures in
    power_placed (arithmetic_of scope.field) scope.left letter.1 caret.1 part some digits c.end-in-Number.ensures
    (c.power_value-in-Number.ensures ∙ ap power_value c.numeral_of.ensures)

pub returns-in_default-token_at : goal.returns-in_default-token_at
returns-in_default-token_at c scope =
    let (letter, end) = byte_there c.requires c.end.ensures in
    let (caret, after) = sign_there c.at.ensures.sheet (c.at.ensures.place ∙ end) c.in-Some.ensures c.end-2.ensures in
    let place : c.at-exponent.result.place ≡ c.args.from.place + 2 = omega (arith, c.at-exponent.ensures.place) in
    rw place
    (power_stopped scope.left c.args.from.sheet.now c.args.from.place letter.1 caret.1 (omega (arith, caret.0))
    (no_number c.args.from.sheet.now (c.args.from.place + 2) c.token_at.result (rw (c.at-exponent.ensures.sheet, place) at c.token_at.ensures) c.in_default-token_at.not-Number))
