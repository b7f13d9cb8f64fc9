use Rattle.std.proofs.Common.{◌-◌, arith}
use Rattle.algebra.specs.Polynomial.{coefficients}
use Rattle.algebra.proofs.Coefficients.{below_more}
use Rattle.poly.proofs.Descending.{descending_again, descending_less, descending_starts, has_degree}
use Rattle.poly.proofs.steps.Euclid.descend.Goals as goal

pub loop-count-init : goal.loop-count-init
loop-count-init g c = (descending_starts g.F.Field.arithmetic c.args.most c.args.self.now, c.significant-count.ensures.is)

pub step-count-requires : goal.step-count-requires
step-count-requires g c =
    let R = c.requires in
    record { D = R.D; M = R.M; Y = R.Y; fits = R.fits; holds = c.loop-count.invariant.0.kept R.D R.M R.Y R.holds }

pub loop-count-smaller : goal.loop-count-smaller
loop-count-smaller g c =
    descending_less g.F.Field.arithmetic c.args.most c.args.self.now c.loop-count.self c.step-count.new.self c.loop-count.count
    c.loop-count.invariant.1 c.loop-count-test.true c.step-count.ensures.stepped

pub loop-count-preserved : goal.loop-count-preserved
loop-count-preserved g c =
    let f = g.F.Field.arithmetic in
    let from = c.args.self.now in
    let e = c.loop-count.self in
    let n = c.loop-count.count in
    let s = c.loop-count.invariant.1 in
    let l = c.loop-count-test.true in (
      descending_again f c.args.most from e c.step-count.new.self n s l c.step-count.ensures.stepped
          (λ D M Y. c.step-count.ensures.extended (n - 1) D M Y (has_degree f c.args.most from e c.step-count.new.self n s l)) c.loop-count.invariant.0,
      c.step-count.ensures.count,
    )

pub returns : goal.returns
returns g c =
    let ends = c.loop-count.invariant.0 in
    record {
      first = (ends.count, ends.steps);
      few = below_more c.loop-count.count c.args.most (coefficients c.loop-count.self.current) (omega (arith, c.loop-count-test.false)) c.loop-count.invariant.1.above;
      extended = ends.kept;
    }
