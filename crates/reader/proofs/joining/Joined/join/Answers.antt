use Rattle.std.proofs.Common.{◌≡◌, ℕ, ◌-◌, length, take, sym, refl, ap, ◌∙◌, subst, arith, rules}
use Rattle.algebra.specs.Moduli.{Congruent}
use Rattle.algebra.specs.Polynomial.{add, coefficients, multiply}
use Rattle.reader.proofs.Joins.{next_old, next_state, product_front}
use Rattle.reader.proofs.Tables.{front_codes, front_same}
use Rattle.reader.proofs.joining.Joined.join.Given as given
use Rattle.reader.proofs.joining.Joined.join.Goals as goal
use Rattle.reader.proofs.joining.Joined.join.Goals.{After-multiply-2}

pub multiply-requires-clause-a_codes : goal.multiply-requires-clause-a_codes
multiply-requires-clause-a_codes g c =
    let j = c.args.self.now in
    let product_long : length j.product ≡ 65 = search rules in
    (product_front g.F.Field.arithmetic j.product j.value j.degree j.state (omega (arith, c.requires))).1

pub multiply-requires-clause-b_codes : goal.multiply-requires-clause-b_codes
multiply-requires-clause-b_codes g c =
    let factor = c.correction-correction.result in
    let factor_long : length factor ≡ 65 = search rules in
    front_codes g.F.Field.arithmetic factor (length c.args.next.now.residue.now) c.correction-correction.ensures.below (omega (arith, c.requires))
    c.correction-correction.ensures.codes

pub multiply-requires-2-clause-a_codes : goal.multiply-requires-2-clause-a_codes
multiply-requires-2-clause-a_codes g c =
    let j = c.args.self.now in
    let product_long : length j.product ≡ 65 = search rules in
    (product_front g.F.Field.arithmetic j.product j.value j.degree j.state (omega (arith, c.requires))).1

-- What the buffers hold afterwards.
stored : (g : given.Over) (c : After-multiply-2 g)
    → (coefficients c.multiply-2.new.product ≡ multiply g.F.Field.arithmetic (coefficients c.args.self.now.product) (coefficients c.args.next.now.modulus.now))
    × (coefficients c.add_to.new.p
    ≡ add g.F.Field.arithmetic (coefficients c.args.self.now.value)
    (multiply g.F.Field.arithmetic (coefficients c.args.self.now.product) (coefficients c.correction-correction.result)))
stored g c =
    let f = g.F.Field.arithmetic in
    let j = c.args.self.now in
    let m = c.args.next.now.modulus.now in
    let y = c.args.next.now.residue.now in
    let factor = c.correction-correction.result in
    let product_long : length j.product ≡ 65 = search rules in
    let factor_long : length factor ≡ 65 = search rules in
    let front = (product_front f j.product j.value j.degree j.state (omega (arith, c.requires))).0 in (
      c.multiply-2.ensures.value ∙ ap (λ (x : ℕ → ℕ). multiply f x (coefficients m)) front,
      c.add_to.ensures.value
          ∙ ap (λ (x : ℕ → ℕ). add f (coefficients j.value) x)
          (c.multiply.ensures.value
          ∙ ap (λ (x : ℕ → ℕ). multiply f x (coefficients (take (length y - 0) factor))) front
          ∙ ap (λ (x : ℕ → ℕ). multiply f (coefficients j.product) x)
          (front_same factor (length y) c.correction-correction.ensures.below (omega (arith, c.requires)))),
    )

pub invariant_of-self : goal.invariant_of-self
invariant_of-self g c =
    let j = c.args.self.now in
    let next = c.args.next.now in
    let holds = stored g (goal.at.invariant_of-self g c).After-multiply-2 in
    record {
      state =
          next_state g.F.Field.arithmetic g.met.F.Field.lawful next.modulus.now next.residue.now j.product j.value j.degree j.state next.pair
          c.correction-correction.result c.multiply-2.new.product c.add_to.new.p c.correction-correction.ensures.codes c.requires
          c.correction-correction.ensures.below c.multiply-2.ensures.codes c.add_to.ensures.codes holds.0 holds.1;
    }

pub returns : goal.returns
returns g c =
    let f = g.F.Field.arithmetic in
    let j = c.args.self.now in
    let next = c.args.next.now in
    let holds = stored g (goal.at.returns g c).After-multiply-2 in
    record {
      degree_is = refl;
      product_is = holds.0;
      old =
          next_old f g.met.F.Field.lawful next.modulus.now next.residue.now j.product j.value j.degree j.state next.pair
          c.correction-correction.result c.multiply-2.new.product c.add_to.new.p c.correction-correction.ensures.codes holds.1;
      new =
          λ coprime.
          subst (λ (x : ℕ → ℕ). Congruent f (coefficients next.modulus.now) x (coefficients next.residue.now)) (sym holds.1)
          (c.correction-correction.ensures.closes coprime);
    }
