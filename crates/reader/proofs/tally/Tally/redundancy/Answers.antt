use Rattle.std.proofs.Common.{arith}
use Rattle.plan.specs.Held.{scheme}
use Rattle.plan.proofs.Sizes.{start_most}
use Rattle.reader.proofs.tally.Tally.redundancy.Goals as goal

pub overflow_sub-result : goal.overflow_sub-result
overflow_sub-result g c =
    let p = c.args.self.now.plan.now in
    omega (arith, start_most (scheme p) p.carriers, c.word_length.ensures, c.message_length.ensures)

pub returns : goal.returns
returns g c =
    let p = c.args.self.now.plan.now in
    omega (arith, start_most (scheme p) p.carriers, c.word_length.ensures, c.message_length.ensures)
