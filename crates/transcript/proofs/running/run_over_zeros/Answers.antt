use Rattle.std.proofs.Common.{◌≡◌, ℕ, ◌*◌, ◌≤◌, List, MutBor, replicate, take, ap, ◌∙◌, arith}
use Rattle.std.proofs.lemmas.List.{take-replicate}
use Rattle.memory.specs.Buffers.{held}
use Rattle.memory.specs.Meaning.{max_top}
use Rattle.plan.specs.Held.{scheme}
use Rattle.plan.specs.Limits.{most_total}
use Rattle.transcript.specs.Runs.{LayerFits, slots, zero_cells}
use Rattle.transcript.proofs.Fitting.{over_zeros, refuted}
use Rattle.transcript.proofs.running.run_over_zeros.Goals as goal

pub unreachable-requires : goal.unreachable-requires
unreachable-requires g c =
    let few : slots * c.word_length.result ≤ slots * most_total = omega (arith, c.word_length.ensures, c.args.plan.lawful.short) in
    let lent : c.new.result.buffer.now ≡ take (slots * c.word_length.result) (replicate (slots * most_total) 0) =
    ap (λ (b : MutBor (List ℕ)). b.now) c.new.ensures in
    let cells : c.new.result.buffer.now ≡ zero_cells (scheme c.args.plan) = lent ∙ take-replicate _ _ _ few ∙ rw c.word_length.ensures in
    let unfit : ¬ (LayerFits (scheme c.args.plan) (held c.new.result.buffer.now) max_top) = c.in-Err.ensures in
    refuted (scheme c.args.plan) c.args.plan.lawful g.met.F.Field.lawful cells unfit

pub returns : goal.returns
returns g c =
    let few : slots * c.word_length.result ≤ slots * most_total = omega (arith, c.word_length.ensures, c.args.plan.lawful.short) in
    let lent : c.new.result.buffer.now ≡ take (slots * c.word_length.result) (replicate (slots * most_total) 0) =
    ap (λ (b : MutBor (List ℕ)). b.now) c.new.ensures in
    let cells : c.new.result.buffer.now ≡ zero_cells (scheme c.args.plan) = lent ∙ take-replicate _ _ _ few ∙ rw c.word_length.ensures in
    over_zeros (scheme c.args.plan) c.args.plan.lawful cells c.in-Ok.ensures
