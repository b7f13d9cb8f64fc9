use Rattle.std.proofs.Common.{◌≡◌, ℕ, ◌-◌, ◌≤◌, length, take, sym, ap, ◌∙◌, subst, arith, rules}
use Rattle.algebra.specs.Moduli.{Congruent}
use Rattle.algebra.specs.Polynomial.{Below, coefficients, multiply, subtract}
use Rattle.algebra.specs.Remainder.{IsRemainder}
use Rattle.algebra.proofs.Coefficients.{below_subtract, list_polynomial}
use Rattle.reader.proofs.Joins.{closes, gap_congruent}
use Rattle.reader.proofs.Tables.{front_same}
use Rattle.reader.proofs.joining.Joined.correction.Goals as goal

pub returns-clause-closes : goal.returns-clause-closes
returns-clause-closes g c =
    let f = g.F.Field.arithmetic in
    let L = g.met.F.Field.lawful in
    let y = c.args.next.now.residue.now in
    let m = coefficients c.args.next.now.modulus.now in
    let M = coefficients c.args.self.now.product in
    let Y = coefficients c.args.self.now.value in
    let pair = c.args.next.now.pair in
    let state = c.args.self.now.state in
    let d = length y in
    let room : length y ≤ 65 = omega (arith, pair.short, pair.long) in
    let gap = c.subtract_from.new.p in
    let inverse = c.inverse_of-inverse.result in
    let gap_long : length gap ≡ 65 = search rules in
    let inverse_long : length inverse ≡ 65 = search rules in
    let hm = list_polynomial f L c.args.next.now.modulus.now pair.codes in
    let hM = list_polynomial f L c.args.self.now.product state.product_codes in
    let hY = list_polynomial f L c.args.self.now.value state.value_codes in
    let hy = list_polynomial f L y pair.residue_codes in
    let own = coefficients c.remainder_of-gap.result in
    let past = coefficients c.remainder_of-2.result in
    let is_own = c.remainder_of-gap.ensures.divided in
    let is_past = c.remainder_of-2.ensures.divided in
    let gap_is : coefficients gap ≡ subtract f own past = c.subtract_from.ensures.value in
    let low : Below d (coefficients gap) =
    subst (Below d) (sym gap_is)
    (below_subtract f L d own past is_own.division.remainder_polynomial is_past.division.remainder_polynomial is_own.division.remainder_below
    is_past.division.remainder_below) in
    let same : Congruent f m (subtract f (coefficients y) Y) (coefficients gap) =
    subst (λ (x : ℕ → ℕ). Congruent f m (subtract f (coefficients y) Y) x) (sym gap_is)
    (gap_congruent f L d m M Y (coefficients y) hm hM hY hy own past is_own is_past) in
    let scaled : coefficients c.multiply.new.product ≡ multiply f (coefficients gap) (coefficients inverse) =
    c.multiply.ensures.value
    ∙ ap (λ (x : ℕ → ℕ). multiply f x (coefficients (take (length y - 0) inverse))) (front_same gap (length y) low (omega arith))
    ∙ ap (λ (x : ℕ → ℕ). multiply f (coefficients gap) x)
    (front_same inverse (length y) c.inverse_of-inverse.ensures.below (omega arith)) in
    let r = c.remainder_of-3.result in
    closes f L d m M Y (coefficients y) hm hM hY hy (coefficients c.remainder_of.result) (coefficients inverse) (coefficients gap) (coefficients r)
    (list_polynomial f L inverse c.inverse_of-inverse.ensures.codes) c.remainder_of.ensures.divided c.inverse_of-inverse.ensures.inverts
    (list_polynomial f L gap c.subtract_from.ensures.codes) same
    (subst (λ (x : ℕ → ℕ). IsRemainder f d m x (coefficients r)) scaled c.remainder_of-3.ensures.divided)
