use Rattle.std.proofs.Common.{◌≡◌, ℕ, length, replicate, sym, ap, subst, arith, rules}
use Rattle.std.specs.Iterator.Adapters.{rev_source}
use Rattle.std.specs.Slice.Iter.{iter_rest}
use Rattle.algebra.specs.Polynomial.{coefficients}
use Rattle.algebra.specs.Remainder.{IsRemainder, remainder}
use Rattle.algebra.proofs.Coefficients.{list_polynomial}
use Rattle.algebra.proofs.Remainders.{remainder_codes, remainder_is}
use Rattle.poly.specs.Slices.{Codes}
use Rattle.poly.proofs.Reducing.{reduced_none, reduced_more, reduced_all, monic_degree}
use Rattle.poly.proofs.remainders.reduce.Goals as goal

pub loop-code-init : goal.loop-code-init
loop-code-init g c =
    let d = length c.args.residue.now in
    let zeros : c.fill.new.self ≡ replicate d 0 = search rules in
    reduced_none g.F.Field.arithmetic d (coefficients c.args.modulus.now) c.args.p.now (iter_rest (rev_source c.into_iter-code-iterator.result))
    c.fill.new.self (search rules) zeros

pub loop-code-preserved : goal.loop-code-preserved
loop-code-preserved g c =
    let long : length c.loop-code.residue ≡ length c.args.residue.now = omega arith in
    reduced_more g.F.Field.arithmetic (length c.args.residue.now) (coefficients c.args.modulus.now) c.args.p.now (iter_rest (rev_source c.loop-code.code-iterator))
    (iter_rest (rev_source c.next.new.self)) c.in-Some.code.now c.loop-code.residue c.shift_in.new.residue c.in-Some.ensures.steps long c.shift_in.ensures c.loop-code.invariant

pub returns : goal.returns
returns g c =
    let f = g.F.Field.arithmetic in
    let L = g.met.F.Field.lawful in
    let modulus = c.args.modulus.now in
    let m = coefficients modulus in
    let p = c.args.p.now in
    let d = length c.args.residue.now in
    let value : c.loop-code.residue ≡ remainder f d m p =
    reduced_all f d m p (iter_rest (rev_source c.loop-code.code-iterator)) c.loop-code.residue c.in-None.ensures.steps.0 c.loop-code.invariant in
    let same : coefficients (remainder f d m p) ≡ coefficients c.loop-code.residue = ap coefficients (sym value) in
    let codes : Codes f (remainder f d m p) = remainder_codes f L d m p in
    record {
      value = value;
      divided =
          λ hp hm monic.
          subst (λ (r : ℕ → ℕ). IsRemainder f d m (coefficients p) r) same
          (remainder_is f L d m p (list_polynomial f L modulus hm) (monic_degree d modulus c.requires.fits monic) monic hp);
      codes = rw value codes;
    }
