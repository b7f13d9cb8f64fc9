-- As many digits as are counted.
use Rattle.std.proofs.Common.{◌≡◌, ◌+◌, take, sym, ap, ◌∙◌, subst, rules, tests}
use Rattle.std.proofs.lemmas.Iterator.{YieldsList-from_slice, YieldsList-from_take}
use Rattle.std.proofs.lemmas.Iterator.Consumers.{count_from_yields_List, YieldsList-at}
use Rattle.std.proofs.lemmas.Iterator.Search.{YieldsList-from_take_while}
use Rattle.std.proofs.lemmas.List.Folds.{length-prefix_len}
use Rattle.std.specs.Char.{is_ascii_digit}
use Rattle.expression.specs.Readings.{DigitsTo}
use Rattle.expression.proofs.Digits.{count, digits_counted}
use Rattle.expression.proofs.tokens.digits_end.Goals as goal

pub returns : goal.returns
returns g c =
    let s = c.args.from.sheet.now in
    let i = c.args.from.place in
    let most = g.row.MOST in
    let counted : c.count.result ≡ count most c.rest.result.now =
    count_from_yields_List c.take_while.result c.count.result c.count.ensures.ran
    (YieldsList-from_take_while _ is_ascii_digit
    (YieldsList-at c.take_while.ensures.source
    (YieldsList-from_take most (YieldsList-at c.take-few.ensures.source (YieldsList-from_slice c.rest.result.now cc)) c.take-few.ensures.count))
    c.take_while.ensures.closure c.take_while.ensures.done (λ x b q k. search (rules, tests)))
    ∙ length-prefix_len is_ascii_digit (take most c.rest.result.now) in
    subst (λ n. DigitsTo most s i (i + n)) (sym (counted ∙ ap (count most) c.rest.ensures)) (digits_counted most s i c.args.from.within)
