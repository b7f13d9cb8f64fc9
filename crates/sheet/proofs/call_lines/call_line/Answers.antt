use Rattle.std.proofs.Common.{sym, subst}
use Rattle.expression.specs.Texts.{Got}
use Rattle.expression.proofs.Moved.{sign_there}
use Rattle.sheet.proofs.CallParts.{IsName}
use Rattle.sheet.proofs.Endings.{end_lost, line_got, text_lost}
use Rattle.sheet.proofs.Exits.{handed_on}
use Rattle.sheet.proofs.Tables.{named_got}
use Rattle.sheet.proofs.call_lines.call_line.Goals as goal

pub returns-in_err-call : goal.returns-in_err-call
returns-in_err-call c =
    rw (handed_on c.from_residual-in_err-call.result c.from_residual-in_err-call.ensures.1)
    (text_lost c.in_ok-name.name.value (named_got (λ x name. IsName name x) c.in_ok-name.ensures c.end.ensures)
    (rw (c.at.ensures.sheet, c.at.ensures.place) at c.in_err-call.ensures))

pub returns-in_err-sign : goal.returns-in_err-sign
returns-in_err-sign c =
    let (call, _) = rw (c.at.ensures.sheet, c.at.ensures.place) at c.in_ok-call.ensures in
    let (none, is) = rw (c.at-2.ensures.sheet, c.at-2.ensures.place) at c.in_err-sign.ensures in
    rw (handed_on c.from_residual-in_err-sign.result c.from_residual-in_err-sign.ensures.1)
    (end_lost (named_got (λ x name. IsName name x) c.in_ok-name.ensures c.end.ensures) call none is)

pub returns : goal.returns
returns c =
    let (call, has_room) = rw (c.at.ensures.sheet, c.at.ensures.place) at c.in_ok-call.ensures in
    let (stands, end) = sign_there c.at-2.ensures.sheet c.at-2.ensures.place c.in_ok-sign.ensures c.end-2.ensures in
    record {
      got = subst (Got _ _ _) (sym end) (line_got (named_got (λ x name. IsName name x) c.in_ok-name.ensures c.end.ensures) call stands.0 stands.1);
      has_room = has_room;
    }
