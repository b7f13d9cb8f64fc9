use Rattle.transcript.proofs.Filling.{put_more, put_within}
use Rattle.transcript.proofs.streams.write_out.Goals as goal

pub loop-written-preserved : goal.loop-written-preserved
loop-written-preserved g c =
    let at = c.loop-written.written in
    let n = c.in_ok-written.field-0 in
    let within = c.loop-written.invariant.within in
    record {
      within = put_within c.args.text.now at n within c.in_ok-written.ensures.within;
      put = put_more c.args.text.now at n within _ _ _ c.loop-written.invariant.put c.in_ok-written.ensures.bytes;
    }
