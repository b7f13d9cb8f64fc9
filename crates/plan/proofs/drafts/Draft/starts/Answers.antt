use Rattle.std.proofs.Common.{◌≡◌, ◌+◌, get_or, take, replicate, sym, refl, ap, ◌∙◌, arith, length-set}
use Rattle.plan.specs.Schemes.{degree_of, total_degree}
use Rattle.plan.proofs.Held.{only_zero, starts_more, zeros_after, zeros_from}
use Rattle.plan.proofs.Sizes.{total_degree_next}
use Rattle.plan.proofs.drafts.Draft.starts.Goals as goal

pub loop-i-init : goal.loop-i-init
loop-i-init c = (
  refl,
  only_zero (λ j. get_or (replicate 25 0) j 0 ≡ total_degree (take j c.args.self.now.moduli.now)) refl,
  refl,
  omega arith,
  zeros_from 25,
)

pub loop-i-preserved : goal.loop-i-preserved
loop-i-preserved c =
    let moduli = c.args.self.now.moduli.now in
    let i = c.loop-i.i in
    let end = c.loop-i.end + c.degree_or_zero-end.result in
    let here : end ≡ total_degree (take (i + 1) moduli) =
    ap (λ d. c.loop-i.end + d) c.degree_or_zero-end.ensures.value
    ∙ ap (λ e. e + degree_of (get_or moduli i _)) c.loop-i.invariant.2
    ∙ sym (total_degree_next moduli i c.loop-i-test.true) in (
      simp length-set c.loop-i.invariant.0,
      starts_more (λ j. total_degree (take j moduli)) c.loop-i.starts i end
          (omega (arith, c.loop-i.invariant.0, c.loop-i-test.true, c.args.self.now.few)) c.loop-i.invariant.1 here,
      here,
      omega (arith, c.loop-i.invariant.3, c.degree_or_zero-end.ensures.bound),
      zeros_after c.loop-i.starts i end c.loop-i.invariant.4,
    )

pub returns : goal.returns
returns c = record {
  agree = λ f i h. c.loop-i.invariant.1 i (omega (arith, h, c.loop-i-test.false));
  zeros = λ i h. c.loop-i.invariant.4 i (omega (arith, h, c.loop-i-test.false));
}
