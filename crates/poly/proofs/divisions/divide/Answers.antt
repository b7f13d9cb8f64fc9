use Rattle.std.proofs.Common.{◌≡◌, ℕ, List, length, replicate, sym, subst, rules}
use Rattle.algebra.specs.Polynomial.{coefficients}
use Rattle.algebra.proofs.Coefficients.{below_more}
use Rattle.poly.specs.Slices.{Divided}
use Rattle.poly.proofs.Fronts.{divided_by_front, divided_by_zero, zeros_below}
use Rattle.poly.proofs.divisions.divide.Goals as goal
use Rattle.poly.proofs.divisions.divide.Goals.{then-count-gt0, else-count-gt0}

pub returns-clause-divided : goal.returns-clause-divided
returns-clause-divided g c =
    let f = g.F.Field.arithmetic in
    let a = coefficients c.args.remainder.now in
    let m = c.args.divisor.now in
    let n = c.significant-count.result in
    let s = c.significant-count.ensures in
    let zeros : c.fill.new.self ≡ replicate (length c.args.quotient.now) 0 = search rules in
    elim c.if-count-gt0.branch [
      | then-count-gt0 w ↦
          subst (λ (t : List ℕ × List ℕ). Divided f a (coefficients m) (coefficients t.0) (coefficients t.1)) (sym (pair w.quotient-is w.remainder-is))
          (divided_by_front f a (coefficients w.divide_long.new.quotient) (coefficients w.divide_long.new.remainder) m n s.within w.if-count-gt0.true s.is
          w.divide_long.ensures)
      | else-count-gt0 w ↦
          subst (λ (t : List ℕ × List ℕ). Divided f a (coefficients m) (coefficients t.0) (coefficients t.1)) (sym (pair w.quotient-is w.remainder-is))
          (divided_by_zero f a (coefficients m) (coefficients c.fill.new.self) (below_more n 0 (coefficients m) w.if-count-gt0.false s.is.above)
          (zeros_below c.fill.new.self (length c.args.quotient.now) zeros))
    ]
  where
    pair : {x x' y y' : List ℕ} → x ≡ x' → y ≡ y' → ◌≡◌ {A = List ℕ × List ℕ} (x, y) (x', y')
    pair e h = cc
