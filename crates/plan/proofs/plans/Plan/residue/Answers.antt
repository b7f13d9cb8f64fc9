use Rattle.std.proofs.Common.{◌≡◌, ℕ, ◌-◌, List, [], ◌∷◌, ◌++◌, length, drop, replicate, take, sym, refl, ap, ◌∙◌, arith, length-take}
use Rattle.algebra.specs.Polynomial.{coefficients}
use Rattle.algebra.specs.Remainder.{remainder}
use Rattle.plan.specs.Held.{scheme}
use Rattle.plan.specs.Schemes.{degree, divisor, modulus, residue}
use Rattle.plan.specs.Tables.{table_of}
use Rattle.plan.proofs.Divisors.{divisor_is, divisor_long}
use Rattle.plan.proofs.Records.{place_of}
use Rattle.plan.proofs.Sizes.{residue_length}
use Rattle.plan.proofs.Tables.{table_filled}
use Rattle.plan.proofs.plans.Plan.residue.Goals as goal

pub slice_bounds-table-end : goal.slice_bounds-table-end
slice_bounds-table-end g c =
    let plan = c.args.self.now in
    let s = scheme plan in
    let place = place_of plan c.args.i (omega (arith, c.if-degree-gt0.true, c.degree-degree.ensures)) in
    let long = divisor_long s plan.lawful c.args.i place in
    omega (arith, c.degree-degree.ensures, ap length c.divisor.ensures.value, c.divisor.ensures.short)

pub reduce-requires : goal.reduce-requires
reduce-requires g c =
    let plan = c.args.self.now in
    let s = scheme plan in
    let place = place_of plan c.args.i (omega (arith, c.if-degree-gt0.true, c.degree-degree.ensures)) in
    let long = divisor_long s plan.lawful c.args.i place in
    let same : length c.divisor.result.now ≡ length (divisor s c.args.i) = ap length c.divisor.ensures.value in
    let short = c.divisor.ensures.short in
    record {
      least = simp length-take (omega (arith, c.if-degree-gt0.true, c.degree-degree.ensures));
      fits = simp length-take (omega (arith, c.degree-degree.ensures));
    }

pub returns-then-degree-gt0 : goal.returns-then-degree-gt0
returns-then-degree-gt0 g c =
    let plan = c.args.self.now in
    let s = scheme plan in
    let i = c.args.i in
    let d = c.degree-degree.result in
    let message = c.args.message.now in
    let zeros : List ℕ = replicate 9 0 in
    let place = place_of plan i (omega (arith, c.if-degree-gt0.true, c.degree-degree.ensures)) in
    let long = divisor_long s plan.lawful i place in
    let same : length c.divisor.result.now ≡ length (divisor s i) = ap length c.divisor.ensures.value in
    let short = c.divisor.ensures.short in
    let room : length (take (d - 0) zeros) ≡ degree s i = simp length-take (omega (arith, c.degree-degree.ensures)) in
    let filled : c.reduce.new.residue ≡ residue s message i =
    c.reduce.ensures.value
    ∙ ap (λ m. remainder s.arithmetic (length (take (d - 0) zeros)) (coefficients m) message) c.divisor.ensures.value
    ∙ ap (λ m. remainder s.arithmetic (length (take (d - 0) zeros)) m message) (divisor_is s i)
    ∙ ap (λ n. remainder s.arithmetic n (coefficients (modulus s i)) message) room in
    ap (λ (front : List ℕ). front ++ drop (d - 0) zeros) filled
    ∙ table_filled 9 0 (residue s message i) d (residue_length s message i ∙ sym c.degree-degree.ensures)

pub returns-else-degree-gt0 : goal.returns-else-degree-gt0
returns-else-degree-gt0 g c =
    let s = scheme c.args.self.now in
    let none : degree s c.args.i ≡ 0 = omega (arith, c.if-degree-gt0.false, c.degree-degree.ensures) in
    ap (table_of 9 0) (sym (empty (residue s c.args.message.now c.args.i) (residue_length s c.args.message.now c.args.i ∙ none)))
  where
    empty : (xs : List ℕ) → length xs ≡ 0 → xs ≡ []
    empty [] e = refl
    empty (x ∷ xs) e = absurd (omega (arith, e))
