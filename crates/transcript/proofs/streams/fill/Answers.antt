use Rattle.std.proofs.Common.{◌≡◌, ◌-◌, length, rules, arith}
use borrow.Rule.Slice.PartMut.{put_mid}
use Rattle.transcript.proofs.Filling.{take_more}
use Rattle.transcript.proofs.streams.fill.Goals as goal

pub loop-end-preserved : goal.loop-end-preserved
loop-end-preserved g c =
    let filled = put_mid c.loop-end.end (length c.loop-end.buffer - c.loop-end.end) c.loop-end.buffer c.take_some.new.buffer in
    let long : length filled ≡ length c.loop-end.buffer = search rules in
    record {
      long = search rules;
      within = omega (arith, long, c.in_ok-count.ensures.within);
      bytes = take_more _ _ _ c.loop-end.end c.loop-end.buffer c.take_some.new.buffer c.loop-end.invariant.within c.loop-end.invariant.bytes
          c.in_ok-count.count c.in_ok-count.ensures.within c.in_ok-count.ensures.bytes.0;
    }
