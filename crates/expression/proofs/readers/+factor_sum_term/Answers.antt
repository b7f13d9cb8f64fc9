-- The three readers: what each way out of them comes to.
use Rattle.std.proofs.Common.{◌≡◌, get_or, sym, refl, ap, ◌∙◌, arith}
use Rattle.std.proofs.lemmas.Result.{err_from_is_err_and}
use Rattle.expression.specs.Fields.{arithmetic_of}
use Rattle.expression.specs.Values.{number_value}
use Rattle.expression.proofs.Factors.{brackets_read, brackets_stopped, no_factor, none_begins, not_closed}
use Rattle.expression.proofs.InFields.{codes_in_field}
use Rattle.expression.proofs.Joining.{alone, alone_stopped, by_plus, by_times, joined, joined_stopped}
use Rattle.expression.proofs.Moved.{byte_there, sign_not, sign_there}
use Rattle.expression.proofs.Placed.{number_placed, sign_is}
use Rattle.expression.proofs.readers.+factor_sum_term.Goals as goal

-- A factor.
pub factor-returns-in-Number : goal.factor-returns-in-Number
factor-returns-in-Number t c =
    let (part, some, digits) = c.in-Number.ensures in
    let f = arithmetic_of c.args.scope.field in
    number_placed f c.args.scope.left part some digits c.end.ensures (c.worth.ensures ∙ ap (number_value f) c.numeral_of.ensures)

-- A left bracket: the sum after it is read with one bracket less.
pub factor-returns-in_err-inner-in-Sign : goal.factor-returns-in_err-inner-in-Sign
factor-returns-in_err-inner-in-Sign t c =
    let p = err_from_is_err_and c.from_residual.result c.from_residual.ensures.1 in
    let (_, one) = c.in-Some.ensures in
    let (byte, after) = byte_there (sign_is c.in-Sign.ensures.0 c.if-part-byte.true c.byte.ensures) c.end-in-Sign.ensures in
    rw (p.1, p.2)
    (brackets_stopped one _ _ _ byte.1 (rw (c.at.ensures.sheet, c.at.ensures.place ∙ after) at c.in_err-inner-in-Sign.ensures))

pub factor-returns-in-Some-sign_at : goal.factor-returns-in-Some-sign_at
factor-returns-in-Some-sign_at t c =
    let (field, one) = c.in-Some.ensures in
    let (byte, after) = byte_there (sign_is c.in-Sign.ensures.0 c.if-part-byte.true c.byte.ensures) c.end-in-Sign.ensures in
    let (closing, end) = sign_there c.at-in-Sign.ensures.sheet c.at-in-Sign.ensures.place c.in-Some-sign_at.ensures c.end-in-Sign-2.ensures in
    rw end
    (brackets_read (arithmetic_of c.args.scope.field) one _ _ _ c.args.scope.few byte.1
    (rw (c.at.ensures.sheet, c.at.ensures.place ∙ after, field) at c.in_ok-inner-in-Sign.ensures) closing.0 closing.1)

pub factor-returns-in_default-sign_at : goal.factor-returns-in_default-sign_at
factor-returns-in_default-sign_at t c =
    let (field, one) = c.in-Some.ensures in
    let (byte, after) = byte_there (sign_is c.in-Sign.ensures.0 c.if-part-byte.true c.byte.ensures) c.end-in-Sign.ensures in
    not_closed (arithmetic_of c.args.scope.field) one _ _ _ c.args.scope.few byte.1
    (rw (c.at.ensures.sheet, c.at.ensures.place ∙ after, field) at c.in_ok-inner-in-Sign.ensures)
    (sign_not c.at-in-Sign.ensures.sheet c.at-in-Sign.ensures.place c.in_default-sign_at.ensures)

-- One bracket too many, a sign that opens none, and the sheet's end.
pub factor-returns-in_default-inside : goal.factor-returns-in_default-inside
factor-returns-in_default-inside t c =
    let none : c.args.scope.left ≡ 0 = c.in_default-inside.ensures in
    let byte = sign_is c.in-Sign.ensures.0 c.if-part-byte.true c.byte.ensures in
    none_begins _ _ _ c.args.from.within (λ h. rw (none, (byte_there byte refl).0.1) refl)

pub factor-returns-in_default : goal.factor-returns-in_default
factor-returns-in_default t c =
    let (sign, no_digit, no_letter) = c.in-Sign.ensures in
    none_begins _ _ _ c.args.from.within
    (λ h. no_factor _ _ no_digit no_letter (λ e. c.if-part-byte.false (ap (λ x. get_or x 0 0) sign.is ∙ (e ∙ sym c.byte.ensures))))

pub factor-returns-in_default-2 : goal.factor-returns-in_default-2
factor-returns-in_default-2 t c =
    let (here, past) = rw c.in_default.is at c.token_at.ensures in
    none_begins _ _ _ c.args.from.within (λ h. absurd (omega arith))

-- A term.
pub term-returns-in_err-whole : goal.term-returns-in_err-whole
term-returns-in_err-whole t c =
    let p = err_from_is_err_and c.from_residual.result c.from_residual.ensures.1 in
    rw (p.1, p.2) (alone_stopped by_times c.in_err-whole.ensures)

pub term-loop-sign-init : goal.term-loop-sign-init
term-loop-sign-init t c = alone by_times c.in_ok-whole.ensures

pub term-returns-in_err-next : goal.term-returns-in_err-next
term-returns-in_err-next t c =
    let p = err_from_is_err_and c.from_residual-in_err-next.result c.from_residual-in_err-next.ensures.1 in
    let next = c.at-in-Some.ensures in
    let (sign, after) = sign_there c.at.ensures.sheet c.at.ensures.place c.in-Some.ensures c.end.ensures in
    rw (p.1, p.2)
    (joined_stopped by_times (arithmetic_of c.args.scope.field) _ _ _ _ c.args.scope.few c.loop-sign.invariant sign.0 sign.1
    (rw (next.sheet, next.place ∙ after) at c.in_err-next.ensures))

pub term-worth-requires : goal.term-worth-requires
term-worth-requires t c =
    let next = c.in_ok-next.ensures in (
      codes_in_field c.args.scope.field c.loop-sign.invariant.expression c.loop-sign.invariant.value_is,
      codes_in_field c.args.scope.field next.expression next.value_is,
    )

pub term-loop-sign-preserved : goal.term-loop-sign-preserved
term-loop-sign-preserved t c =
    let next = c.at-in-Some.ensures in
    let (sign, after) = sign_there c.at.ensures.sheet c.at.ensures.place c.in-Some.ensures c.end.ensures in
    joined by_times (arithmetic_of c.args.scope.field) _ _ _ _ c.args.scope.few c.loop-sign.invariant sign.0 sign.1
    (rw (next.sheet, next.place ∙ after) at c.in_ok-next.ensures) c.worth.ensures

-- A sum.
pub sum-returns-in_err-whole : goal.sum-returns-in_err-whole
sum-returns-in_err-whole t c =
    let p = err_from_is_err_and c.from_residual.result c.from_residual.ensures.1 in
    rw (p.1, p.2) (alone_stopped by_plus c.in_err-whole.ensures)

pub sum-loop-sign-init : goal.sum-loop-sign-init
sum-loop-sign-init t c = alone by_plus c.in_ok-whole.ensures

pub sum-returns-in_err-next : goal.sum-returns-in_err-next
sum-returns-in_err-next t c =
    let p = err_from_is_err_and c.from_residual-in_err-next.result c.from_residual-in_err-next.ensures.1 in
    let next = c.at-in-Some.ensures in
    let (sign, after) = sign_there c.at.ensures.sheet c.at.ensures.place c.in-Some.ensures c.end.ensures in
    rw (p.1, p.2)
    (joined_stopped by_plus (arithmetic_of c.args.scope.field) _ _ _ _ c.args.scope.few c.loop-sign.invariant sign.0 sign.1
    (rw (next.sheet, next.place ∙ after) at c.in_err-next.ensures))

pub sum-worth-requires : goal.sum-worth-requires
sum-worth-requires t c =
    let next = c.in_ok-next.ensures in (
      codes_in_field c.args.scope.field c.loop-sign.invariant.expression c.loop-sign.invariant.value_is,
      codes_in_field c.args.scope.field next.expression next.value_is,
    )

pub sum-loop-sign-preserved : goal.sum-loop-sign-preserved
sum-loop-sign-preserved t c =
    let next = c.at-in-Some.ensures in
    let (sign, after) = sign_there c.at.ensures.sheet c.at.ensures.place c.in-Some.ensures c.end.ensures in
    joined by_plus (arithmetic_of c.args.scope.field) _ _ _ _ c.args.scope.few c.loop-sign.invariant sign.0 sign.1
    (rw (next.sheet, next.place ∙ after) at c.in_ok-next.ensures) c.worth.ensures
