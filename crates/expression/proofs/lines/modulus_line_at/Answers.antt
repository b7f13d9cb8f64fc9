-- The three ways out of a line: its sum stopped, its end stands there, or its end does not.
use Rattle.std.proofs.lemmas.Result.{err_from_is_err_and}
use Rattle.expression.specs.Fields.{arithmetic_of}
use Rattle.expression.proofs.Endings.{line_read, not_ended, sum_lost}
use Rattle.expression.proofs.Moved.{sign_not, sign_there}
use Rattle.expression.proofs.lines.modulus_line_at.Goals as goal

pub returns-in_err-whole : goal.returns-in_err-whole
returns-in_err-whole c =
    let p = err_from_is_err_and c.from_residual.result c.from_residual.ensures.1 in
    rw (p.1, p.2) (sum_lost _ _ _ (rw c.outside.ensures.left at c.in_err-whole.ensures))

pub returns : goal.returns
returns c =
    let (sign, end) = sign_there c.at.ensures.sheet c.at.ensures.place c.in-Some.ensures c.end.ensures in
    rw end
    (line_read (arithmetic_of c.args.field) _ _ _ (rw (c.outside.ensures.field, c.outside.ensures.left) at c.in_ok-whole.ensures) sign.0 sign.1)

pub returns-in_default : goal.returns-in_default
returns-in_default c =
    not_ended (arithmetic_of c.args.field) _ _ _ (rw (c.outside.ensures.field, c.outside.ensures.left) at c.in_ok-whole.ensures)
    (sign_not c.at.ensures.sheet c.at.ensures.place c.in_default.ensures)
