use Rattle.std.proofs.Common.{◌≡◌, ℕ, ◌≤◌, length, take, Some, None, sym, ap, ◌∙◌, subst, arith, w32, to_z, of_z, rules}
use Rattle.std.proofs.lemmas.Int.{ints}
use Rattle.algebra.specs.Polynomial.{coefficients}
use Rattle.plan.specs.Accounts.{Within, margin, wrong}
use Rattle.plan.specs.Held.{scheme}
use Rattle.plan.specs.Schemes.{message_length}
use Rattle.plan.proofs.Sizes.{start_most}
use Rattle.plan.proofs.Tallies.{wrong_most}
use Rattle.reader.specs.Arrivals.{account_of}
use Rattle.reader.specs.Finding.{Searched}
use Rattle.reader.proofs.Readings.{front_message, none_by_degree, none_by_margin, none_by_search}
use Rattle.reader.proofs.arrived.Arrived.read.Given as given
use Rattle.reader.proofs.arrived.Arrived.read.Goals as goal
use Rattle.reader.proofs.arrived.Arrived.read.Goals.{After-margin_of-margin}

pub returns-then-joined-message_length-clause-answer : goal.returns-then-joined-message_length-clause-answer
returns-then-joined-message_length-clause-answer g c =
    let self = c.args.self.now in (
      omega (arith, c.redundancy-redundancy.ensures, c.missing_degrees-missing.ensures, c.if-missing-redundancy.false),
      none_by_degree self.plan.now g.met.F.Field.lawful (account_of self.residues.now) c.gather-joined.result c.gather-joined.ensures
          (omega (arith, c.message_length-message_length.ensures, c.if-joined-message_length.true)),
    )

pub returns-in_default-clause-answer : goal.returns-in_default-clause-answer
returns-in_default-clause-answer g c =
    let f = g.F.Field.arithmetic in
    let self = c.args.self.now in
    let j = c.gather-joined.result in
    let searched =
    subst (λ (k : ℕ). Searched f j.degree k (coefficients j.product) (coefficients j.value) None) c.message_length-message_length.ensures
    c.in_default.ensures in (
      omega (arith, c.redundancy-redundancy.ensures, c.missing_degrees-missing.ensures, c.if-missing-redundancy.false),
      none_by_search self.plan.now g.met.F.Field.lawful (account_of self.residues.now) j c.gather-joined.ensures searched,
    )

pub margin_of-margin-requires-clause-errors : goal.margin_of-margin-requires-clause-errors
margin_of-margin-requires-clause-errors g c =
    let p = c.args.self.now.plan.now in
    let s = scheme p in
    let account = account_of c.args.self.now.residues.now in
    let message = take (message_length s) c.in-Some.message in
    omega (arith, wrong_most s account message, p.lawful.short, c.wrong_degrees-wrong.ensures, ap (wrong s account) c.message_in.ensures)

-- The margin is the message's own, and the message is all that the search left.
found : (g : given.Over) (c : After-margin_of-margin g)
    → (to_z w32 (of_z w32 c.margin_of-margin.result)
    ≡ margin (scheme c.args.self.now.plan.now) (account_of c.args.self.now.residues.now)
    (take (message_length (scheme c.args.self.now.plan.now)) c.in-Some.message))
    × (message_length (scheme c.args.self.now.plan.now) ≤ length c.in-Some.message)
    × Searched g.F.Field.arithmetic c.gather-joined.result.degree (message_length (scheme c.args.self.now.plan.now))
    (coefficients c.gather-joined.result.product) (coefficients c.gather-joined.result.value) (Some c.in-Some.message)
found g c =
    let f = g.F.Field.arithmetic in
    let p = c.args.self.now.plan.now in
    let s = scheme p in
    let account = account_of c.args.self.now.residues.now in
    let j = c.gather-joined.result in
    let message = c.in-Some.message in
    let table : length message ≡ 64 = search rules in
    let back : to_z w32 (of_z w32 c.margin_of-margin.result) ≡ c.margin_of-margin.result = search rules in
    let told : c.margin_of-margin.result ≡ margin s account (take (message_length s) message) =
    omega (
      arith,
      ints,
      c.margin_of-margin.ensures,
      c.redundancy-redundancy.ensures,
      c.missing_degrees-missing.ensures,
      c.wrong_degrees-wrong.ensures,
      ap (wrong s account) c.message_in.ensures,
    ) in (
      back ∙ told,
      omega (arith, start_most s p.carriers, p.lawful.short),
      subst (λ (k : ℕ). Searched f j.degree k (coefficients j.product) (coefficients j.value) (Some message))
          c.message_length-message_length.ensures c.in-Some.ensures,
    )

pub returns-then-margin-lt0-clause-answer : goal.returns-then-margin-lt0-clause-answer
returns-then-margin-lt0-clause-answer g c =
    let self = c.args.self.now in
    let facts = found g (goal.at.returns-then-margin-lt0-clause-answer g c).After-margin_of-margin in (
      omega (arith, c.redundancy-redundancy.ensures, c.missing_degrees-missing.ensures, c.if-missing-redundancy.false),
      none_by_margin self.plan.now g.met.F.Field.lawful (account_of self.residues.now) c.gather-joined.result c.gather-joined.ensures
          c.in-Some.message facts.1 facts.2 (omega (arith, ints, facts.0, c.if-margin-lt0.true)),
    )

pub invariant_of-result : goal.invariant_of-result
invariant_of-result g c =
    let p = c.args.self.now.plan.now in
    let table : length c.in-Some.message ≡ 64 = search rules in
    record { fits = omega (arith, c.message_length-message_length.ensures, start_most (scheme p) p.carriers, p.lawful.short) }

pub returns-clause-answer : goal.returns-clause-answer
returns-clause-answer g c =
    let self = c.args.self.now in
    let s = scheme self.plan.now in
    let account = account_of self.residues.now in
    let message = c.in-Some.message in
    let facts = found g (goal.at.returns-clause-answer g c).After-margin_of-margin in
    subst
    (λ (n : ℕ).
    Within s account (take n message)
    × (to_z w32 (of_z w32 c.margin_of-margin.result) ≡ margin s account (take n message))
    × (c.wrong_degrees-wrong.result ≡ wrong s account (take n message)))
    (sym c.message_length-message_length.ensures) (
      record {
        is_message =
            front_message self.plan.now g.met.F.Field.lawful account c.gather-joined.result c.gather-joined.ensures message facts.1 facts.2;
        margin_enough = omega (arith, ints, facts.0, c.if-margin-lt0.false);
      },
      facts.0,
      c.wrong_degrees-wrong.ensures ∙ ap (wrong s account) c.message_in.ensures,
    )
