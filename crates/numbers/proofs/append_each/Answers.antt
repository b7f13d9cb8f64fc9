use Rattle.std.proofs.Common.{◌≡◌, ap, ◌∙◌, ◌+◌, ◌<◌, length, vec_len, vec_capacity, arith, rules}
use Rattle.std.proofs.Math.Facts.{Fits-lt-pow}
use Rattle.numbers.specs.Rows.{row_text}
use Rattle.numbers.proofs.Lengths.{row_short, so_long}
use Rattle.numbers.proofs.append_each.Goals as goal

-- src/lib.rt:41:9
pub returns-in_err-push-clause-full : goal.returns-in_err-push-clause-full
returns-in_err-push-clause-full c =
    let long = so_long c.args.numbers.now c.loop-number.number-index (omega arith) _ c.loop-number.invariant.so_far in
    let full : vec_capacity c.args.text.now < vec_len c.args.text.now + length (row_text c.args.numbers.now) =
    omega (arith, long, c.in_err-push.ensures.full) in
    search rules

-- src/lib.rt:42:9
pub returns-in_err-extend_from_slice-clause-full :
    goal.returns-in_err-extend_from_slice-clause-full
returns-in_err-extend_from_slice-clause-full c =
    let long = so_long c.args.numbers.now c.loop-number.number-index (omega arith) _ c.loop-number.invariant.so_far in
    let pushed : vec_len c.push.new.self ≡ vec_len c.loop-number.text + 1 = rw c.in_ok-push.was at c.push.ensures.len in
    let written = ap length (c.as_bytes.ensures.value ∙ c.format.ensures.text) in
    let full : vec_capacity c.args.text.now < vec_len c.args.text.now + length (row_text c.args.numbers.now) =
    omega (arith, long, pushed, written, c.in_ok-push.ensures.capacity, c.in_err-extend_from_slice.ensures.full) in
    search rules

pub returns-in_err-push-clause-short : goal.returns-in_err-push-clause-short
returns-in_err-push-clause-short c = row_short c.args.numbers.now (λ i. Fits-lt-pow (c.type_inv.numbers i))

pub returns-in_err-extend_from_slice-clause-short : goal.returns-in_err-extend_from_slice-clause-short
returns-in_err-extend_from_slice-clause-short c = row_short c.args.numbers.now (λ i. Fits-lt-pow (c.type_inv.numbers i))

pub returns-clause-short : goal.returns-clause-short
returns-clause-short c = row_short c.args.numbers.now (λ i. Fits-lt-pow (c.type_inv.numbers i))
