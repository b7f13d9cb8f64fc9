use Rattle.std.proofs.Common.{arith}
use Rattle.plan.specs.Held.{scheme}
use Rattle.plan.proofs.Sizes.{start_most}
use Rattle.reader.proofs.answers.message_in.Goals as goal

pub slice_bounds-result-end : goal.slice_bounds-result-end
slice_bounds-result-end g c =
    let p = c.args.plan.now in
    omega (arith, start_most (scheme p) p.carriers, p.lawful.short)
