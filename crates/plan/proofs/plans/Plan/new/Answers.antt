use Rattle.std.proofs.Common.{◌<◌, ◌≤◌, sym, ◌∙◌, subst, arith}
use Rattle.plan.specs.Agreement.{StartsAgree}
use Rattle.plan.specs.Drafts.{drafted}
use Rattle.plan.specs.Limits.{most_total}
use Rattle.plan.specs.Refusals.{FirstBadModulus, FirstClash}
use Rattle.plan.specs.Schemes.{AreModuli, IsScheme, Scheme, word_length}
use Rattle.plan.proofs.Made.{end_is, lawful, table_fits, table_keeps}
use Rattle.plan.proofs.plans.Plan.new.Goals as goal

pub returns-in-Some : goal.returns-in-Some
returns-in-Some g c =
    let f = g.F.Field.arithmetic in
    let same = c.in_ok-draft.ensures.1 f in
    (c.in_ok-draft.ensures.0, subst (λ (s : Scheme). FirstBadModulus s c.in-Some.i) same c.in-Some.ensures)

pub returns-then-starts-positions-gt-MOST_TOTAL : goal.returns-then-starts-positions-gt-MOST_TOTAL
returns-then-starts-positions-gt-MOST_TOTAL g c =
    let f = g.F.Field.arithmetic in
    let draft = c.in_ok-draft.draft in
    let same = c.in_ok-draft.ensures.1 f in
    let long : most_total < word_length (drafted f draft) =
    omega (arith, end_is f draft c.starts-starts.result (c.starts-starts.ensures.agree f), c.if-starts-positions-gt-MOST_TOTAL.true) in (
      c.in_ok-draft.ensures.0,
      subst AreModuli same c.in_default.ensures,
      subst (λ (s : Scheme). most_total < word_length s) same long,
    )

pub returns-in-Some-first_clash : goal.returns-in-Some-first_clash
returns-in-Some-first_clash g c =
    let f = g.F.Field.arithmetic in
    let draft = c.in_ok-draft.draft in
    let same = c.in_ok-draft.ensures.1 f in
    let short : word_length (drafted f draft) ≤ most_total =
    omega (arith, end_is f draft c.starts-starts.result (c.starts-starts.ensures.agree f), c.if-starts-positions-gt-MOST_TOTAL.false) in (
      c.in_ok-draft.ensures.0,
      subst AreModuli same c.in_default.ensures,
      subst (λ (s : Scheme). word_length s ≤ most_total) same short,
      subst (λ (s : Scheme). FirstClash s c.in-Some-first_clash.i c.in-Some-first_clash.j) same c.in-Some-first_clash.ensures,
    )

pub invariant_of-result : goal.invariant_of-result
invariant_of-result g c =
    let f = g.F.Field.arithmetic in
    let draft = c.in_ok-draft.draft in
    let keeps = table_keeps f draft c.table.result c.table.ensures in
    let short : word_length (drafted f draft) ≤ most_total =
    omega (arith, end_is f draft c.starts-starts.result (c.starts-starts.ensures.agree f), c.if-starts-positions-gt-MOST_TOTAL.false) in
    record {
      filled = omega (arith, table_fits draft c.table.result c.table.ensures);
      starting = subst (λ (s : Scheme). StartsAgree s c.starts-starts.result) keeps (c.starts-starts.ensures.agree f);
      lawful = subst IsScheme keeps (lawful f draft c.in_default.ensures short c.in_default-first_clash.ensures);
    }

pub returns : goal.returns
returns g c =
    let f = g.F.Field.arithmetic in
    let draft = c.in_ok-draft.draft in
    let same = c.in_ok-draft.ensures.1 f in
    let short : word_length (drafted f draft) ≤ most_total =
    omega (arith, end_is f draft c.starts-starts.result (c.starts-starts.ensures.agree f), c.if-starts-positions-gt-MOST_TOTAL.false) in (
      record { shaped = c.in_ok-draft.ensures.0; lawful = subst IsScheme same (lawful f draft c.in_default.ensures short c.in_default-first_clash.ensures) },
      sym (table_keeps f draft c.table.result c.table.ensures) ∙ same,
    )
