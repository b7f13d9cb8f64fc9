-- The ways out of a count: no digit, a first one that begins none, a second one too many, no end of the line, or its end.
use Rattle.std.proofs.Common.{inl, inr, ◌∙◌, arith}
use Rattle.expression.proofs.Moved.{sign_there}
use Rattle.sheet.proofs.CountDigits.{count_got, found, no_count, not_ended, out_of_range, second_out}
use Rattle.sheet.proofs.Exits.{handed_on}
use Rattle.sheet.proofs.counts.count_line.Goals as goal

pub returns-in_default : goal.returns-in_default
returns-in_default c =
    no_count c.args.counts c.part-number.result.text.now c.args.from.within
    (found c.digits_end.ensures c.part-number.ensures.place c.part-number.ensures.text c.part-number.ensures.ends) c.in_default.len_below

pub returns-then-first-counts : goal.returns-then-first-counts
returns-then-first-counts c =
    out_of_range c.args.counts c.part-number.result.text.now c.args.from.within
    (found c.digits_end.ensures c.part-number.ensures.place c.part-number.ensures.text c.part-number.ensures.ends) c.in-len1-up.len_at_least c.from-first.ensures
    (λ k m. elim c.then-first-counts.either [ inl p ↦ omega arith | inr p ↦ omega arith ])

pub returns-then-zero_leads : goal.returns-then-zero_leads
returns-then-zero_leads c =
    second_out c.args.counts c.part-number.result.text.now
    (found c.digits_end.ensures c.part-number.ensures.place c.part-number.ensures.text c.part-number.ensures.ends) c.in-len1-up.len_at_least c.from-first.ensures
    c.if-first-counts.false c.if-first-counts-2.false (c.from-count.ensures ∙ c.numeral_of.ensures)
    (elim c.then-zero_leads.either [ inl p ↦ inl (c.zero_leads.ensures.0 p) | inr p ↦ inr p.1 ])

pub returns-in_err-sign : goal.returns-in_err-sign
returns-in_err-sign c =
    let (none, place) = rw c.at.ensures.sheet at c.in_err-sign.ensures in
    rw (handed_on c.from_residual.result c.from_residual.ensures.1)
    (not_ended c.args.counts c.part-number.result.text.now
    (found c.digits_end.ensures c.part-number.ensures.place c.part-number.ensures.text c.part-number.ensures.ends) c.in-len1-up.len_at_least c.from-first.ensures
    c.if-first-counts.false c.if-first-counts-2.false (c.from-count.ensures ∙ c.numeral_of.ensures)
    (λ leads. let never = c.if-zero_leads.ensures.1 leads in cc) c.if-count-counts.false
    (c.at.ensures.place ∙ omega (arith, c.end.ensures, c.part-number.ensures.place)) none place)

pub returns : goal.returns
returns c =
    let (stands, after) = sign_there c.at.ensures.sheet c.at.ensures.place c.in_ok-sign.ensures c.end-2.ensures in
    count_got c.args.counts c.part-number.result.text.now
    (found c.digits_end.ensures c.part-number.ensures.place c.part-number.ensures.text c.part-number.ensures.ends) c.in-len1-up.len_at_least c.from-first.ensures
    c.if-first-counts.false c.if-first-counts-2.false (c.from-count.ensures ∙ c.numeral_of.ensures)
    (λ leads. let never = c.if-zero_leads.ensures.1 leads in cc) c.if-count-counts.false
    (omega (arith, c.end.ensures, c.part-number.ensures.place)) stands.0 stands.1 after
