use Rattle.std.proofs.Common.{◌≡◌, ℕ, ◌+◌, ◌-◌, ◌<◌, List, ◌++◌, length, take, drop, sym, refl, ap, ◌∙◌, arith, length-drop, length-take}
use Rattle.std.proofs.lemmas.List.{take_all}
use Rattle.std.proofs.lemmas.Slice.{take-put_mid}
use Rattle.algebra.specs.Polynomial.{coefficients}
use Rattle.algebra.specs.Remainder.{remainder}
use Rattle.plan.specs.Held.{scheme}
use Rattle.plan.specs.Schemes.{degree, divisor, modulus, positions, residue, start, word_to}
use Rattle.plan.proofs.Divisors.{divisor_is, divisor_long, least_degree_of}
use Rattle.plan.proofs.Records.{plan_ends}
use Rattle.plan.proofs.Sizes.{residue_length, start_past, word_to_next}
use Rattle.plan.proofs.plans.Plan.fill.Goals as goal

pub loop-i-init : goal.loop-i-init
loop-i-init g c = refl

pub offset_bounds-buffer-from : goal.offset_bounds-buffer-from
offset_bounds-buffer-from g c =
    let ends = plan_ends c.args.self.now c.loop-i.i (omega (arith, c.loop-i-test.true, c.positions-i-end.ensures)) in
    omega (arith, c.start-from.ensures)

pub slice_bounds-reduce-count : goal.slice_bounds-reduce-count
slice_bounds-reduce-count g c =
    let ends = plan_ends c.args.self.now c.loop-i.i (omega (arith, c.loop-i-test.true, c.positions-i-end.ensures)) in
    omega (arith, c.start-from.ensures, c.start-end.ensures)

pub slice_bounds-reduce-start : goal.slice_bounds-reduce-start
slice_bounds-reduce-start g c =
    let ends = plan_ends c.args.self.now c.loop-i.i (omega (arith, c.loop-i-test.true, c.positions-i-end.ensures)) in
    omega (arith, c.start-from.ensures, c.start-end.ensures)

pub slice_bounds-reduce-end : goal.slice_bounds-reduce-end
slice_bounds-reduce-end g c =
    let ends = plan_ends c.args.self.now c.loop-i.i (omega (arith, c.loop-i-test.true, c.positions-i-end.ensures)) in
    omega (arith, c.start-from.ensures, c.start-end.ensures, c.loop-i.auto.buffer, c.requires)

pub reduce-requires : goal.reduce-requires
reduce-requires g c =
    let plan = c.args.self.now in
    let s = scheme plan in
    let i = c.loop-i.i in
    let place : c.loop-i.i < positions (scheme c.args.self.now) = omega (arith, c.loop-i-test.true, c.positions-i-end.ensures) in
    let ends = plan_ends plan i place in
    let long = divisor_long s plan.lawful i place in
    let same : length c.divisor.result.now ≡ length (divisor s i) = ap length c.divisor.ensures.value in
    let least = least_degree_of s plan.lawful i place in
    record {
      least = simp (length-take, length-drop) (omega (arith, c.start-from.ensures, c.start-end.ensures, c.loop-i.auto.buffer, c.requires));
      fits = simp (length-take, length-drop) (omega (arith, c.start-from.ensures, c.start-end.ensures, c.loop-i.auto.buffer, c.requires));
    }

pub loop-i-preserved : goal.loop-i-preserved
loop-i-preserved g c =
    let s = scheme c.args.self.now in
    let message = c.args.message.now in
    let i = c.loop-i.i in
    let from = c.start-from.result in
    let buffer = c.loop-i.buffer in
    let part = c.reduce.new.residue in
    let place : c.loop-i.i < positions (scheme c.args.self.now) = omega (arith, c.loop-i-test.true, c.positions-i-end.ensures) in
    let ends = plan_ends c.args.self.now i place in
    let before : List ℕ = take (c.start-end.result - from) (drop from buffer) in
    let room : length before ≡ degree s i = simp (length-take, length-drop) (omega (arith, c.start-from.ensures, c.start-end.ensures, c.loop-i.auto.buffer, c.requires)) in
    let filled : part ≡ residue s message i =
    c.reduce.ensures.value
    ∙ ap (λ m. remainder s.arithmetic (length before) (coefficients m) message) c.divisor.ensures.value
    ∙ ap (λ m. remainder s.arithmetic (length before) m message) (divisor_is s i)
    ∙ ap (λ n. remainder s.arithmetic n (coefficients (modulus s i)) message) room in
    let long : length part ≡ degree s i = ap length filled ∙ residue_length s message i in
    take-put_mid from (c.start-end.result - from) buffer part (start s (i + 1)) (omega (arith, c.start-from.ensures)) (omega (arith, c.start-from.ensures, c.loop-i.auto.buffer, c.requires))
    ∙ ap (λ n. take n buffer ++ part) c.start-from.ensures
    ∙ ap (λ (front : List ℕ). front ++ part) c.loop-i.invariant
    ∙ ap (λ (last : List ℕ). word_to s message i ++ last) filled
    ∙ sym (word_to_next s message i)

pub returns : goal.returns
returns g c =
    let s = scheme c.args.self.now in
    let all : c.loop-i.i ≡ positions s = omega (arith, c.loop-i-test.false, c.loop-i.auto.i-end, c.positions-i-end.ensures) in
    let end = start_past s c.loop-i.i (omega arith) in
    sym (take_all (start s c.loop-i.i) c.loop-i.buffer (omega (arith, c.loop-i.auto.buffer, c.requires)))
    ∙ c.loop-i.invariant
    ∙ ap (word_to s c.args.message.now) all
