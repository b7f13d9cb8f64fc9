-- The codes after the ninth decide whether the first nine are the product.
use Rattle.std.proofs.Common.{◌≡◌, eqb, drop, ap, ◌∙◌, rules, tests}
use Rattle.std.proofs.lemmas.Iterator.{YieldsList-from_slice}
use Rattle.std.proofs.lemmas.Iterator.Search.{all_from_yields_List}
use Rattle.std.specs.Bool.{then_some}
use Rattle.expression.specs.Values.{all_zero}
use Rattle.expression.proofs.values.fit.Goals as goal

pub returns : goal.returns
returns c =
    let (first, later, _) = c.in_ok-codes.ensures.cases in
    let fits : c.all.result ≡ all_zero c.in_ok-codes.later.now =
    all_from_yields_List (λ x. eqb x 0) _ _ c.all.result c.all.ensures.ran (YieldsList-from_slice c.in_ok-codes.later.now cc)
    (λ x b q k. search (rules, tests)) in
    c.then_some.ensures
    ∙ (ap (λ b. then_some b c.in_ok-codes.codes.now) (fits ∙ ap all_zero later)
    ∙ ap (then_some (all_zero (drop 9 c.args.product.now))) first)
