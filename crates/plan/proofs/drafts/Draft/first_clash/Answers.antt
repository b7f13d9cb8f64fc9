use Rattle.std.proofs.Common.{ℕ, subst, arith}
use native.Mathlib.Decide.{ℕ_discrete}
use Rattle.plan.specs.Drafts.{drafted}
use Rattle.plan.specs.Schemes.{Clash}
use Rattle.plan.proofs.Moduli.{at_none}
use Rattle.plan.proofs.drafts.Draft.first_clash.Goals as goal

pub coprime-requires : goal.coprime-requires
coprime-requires g c =
    let left = c.requires c.pairs.i c.pairs-test.true in
    let right = c.requires c.loop-j.j c.loop-j-test.true in
    record { m_fits = omega arith; n_fits = omega arith; m_codes = left.codes; n_codes = right.codes }

pub loop-j-preserved : goal.loop-j-preserved
loop-j-preserved g c = (
  c.loop-j.invariant.0,
  λ b h k. elim (ℕ_discrete b c.loop-j.j) [
    | yes same ↦ λ clash.
        c.if-not-coprime.ensures (subst (λ (x : ℕ). Clash (drafted g.F.Field.arithmetic c.args.self.now) c.pairs.i x) same clash)
    | no other ↦ c.loop-j.invariant.1 b h (omega arith)
  ],
)

pub pairs-preserved : goal.pairs-preserved
pairs-preserved g c = (
  c.loop-j.invariant.0,
  λ a b h k l. elim (ℕ_discrete a c.pairs.i) [
    | yes same ↦ λ clash.
        c.loop-j.invariant.1 b (omega arith) (omega (arith, c.loop-j-test.false))
        (subst (λ (x : ℕ). Clash (drafted g.F.Field.arithmetic c.args.self.now) x b) same clash)
    | no other ↦ c.pairs.invariant.1 a b (omega arith) k l
  ],
)

pub returns-after-pairs : goal.returns-after-pairs
returns-after-pairs g c = at_none _ _ _ c.pairs.invariant.0 (λ i j h k. c.pairs.invariant.1 i j (omega (arith, c.pairs-test.false)) h k)

pub returns-then-not-coprime : goal.returns-then-not-coprime
returns-then-not-coprime g c = record {
  ordered = omega (arith, c.loop-j.auto.j);
  place = c.loop-j-test.true;
  clash = c.if-not-coprime.ensures;
  rows_before = λ a b h k l. c.pairs.invariant.1 a b h k l;
  before_in_row = c.loop-j.invariant.1;
}
