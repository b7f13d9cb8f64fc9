use Rattle.std.proofs.Common.{◌-◌, List, sym, subst, arith, w32, SFits, rules}
use Rattle.algebra.specs.Polynomial.{coefficients}
use Rattle.algebra.proofs.Coefficients.{below_more}
use Rattle.poly.specs.Slices.{IsGcd}
use Rattle.poly.proofs.Fronts.{counted, fewer_used, loaded_codes, significant_degree}
use Rattle.poly.proofs.CommonDivisors.{divisors_start, searching_again, searching_ends}
use Rattle.poly.proofs.divisors.gcd.Goals as goal

pub loop-count-init : goal.loop-count-init
loop-count-init g c =
    let f = g.F.Field.arithmetic in
    let L = g.met.F.Field.lawful in (
      record {
        previous_codes = loaded_codes f c.loaded-previous.result c.args.m.now c.loaded-previous.ensures c.requires.m_codes;
        current_codes = loaded_codes f c.loaded-current.result c.args.n.now c.loaded-current.ensures c.requires.n_codes;
        divisors = rw (c.loaded-previous.ensures, c.loaded-current.ensures) (divisors_start f L (coefficients c.args.m.now) (coefficients c.args.n.now));
      },
      c.significant-count.ensures.is,
    )

pub loop-count-smaller : goal.loop-count-smaller
loop-count-smaller g c =
    let current = c.loop-count.current in
    let d = c.loop-count.count - 1 in
    let h = significant_degree (coefficients current) c.loop-count.count c.loop-count.invariant.1 c.loop-count-test.true in
    fewer_used d current c.divide-rest.new.remainder h (c.divide-rest.ensures.divided.by_degree d h).remainder_below

pub loop-count-preserved : goal.loop-count-preserved
loop-count-preserved g c =
    let current = c.loop-count.current in
    let d = c.loop-count.count - 1 in
    let rest = c.divide-rest.new.remainder in
    let fits : SFits w32 c.divide-rest.result.1 = search rules in
    let h = significant_degree (coefficients current) c.loop-count.count c.loop-count.invariant.1 c.loop-count-test.true in (
      searching_again g.F.Field.arithmetic g.met.F.Field.lawful (coefficients c.args.m.now) (coefficients c.args.n.now) c.loop-count.previous
          current c.loop-count.invariant.0 d (coefficients c.divide-rest.new.quotient) rest (c.divide-rest.ensures.divided.by_degree d h),
      counted rest c.divide-rest.result.1 c.count_of-count.result fits c.divide-rest.ensures.remainder_degree c.count_of-count.ensures,
    )

pub returns-clause-greatest : goal.returns-clause-greatest
returns-clause-greatest g c =
    let f = g.F.Field.arithmetic in
    let m = coefficients c.args.m.now in
    let n = coefficients c.args.n.now in
    let current = coefficients c.loop-count.current in
    subst (λ (x : List _). IsGcd f m n (coefficients x)) (sym c.copy_from_slice.ensures.after)
    (searching_ends f g.met.F.Field.lawful m n c.loop-count.previous c.loop-count.current c.loop-count.invariant.0
    (below_more c.loop-count.count 0 current (omega (arith, c.loop-count-test.false)) c.loop-count.invariant.1.above))
