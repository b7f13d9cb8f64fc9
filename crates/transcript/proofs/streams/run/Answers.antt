use Rattle.std.proofs.Common.{rules}
use Rattle.transcript.proofs.ReadWhole.{ran}
use Rattle.transcript.proofs.streams.run.Goals as goal

pub returns-in-Ok-write_out : goal.returns-in-Ok-write_out
returns-in-Ok-write_out g c =
    (c.transcript_of.result, ran _ _ _ _ c.transcript_of.ensures (search rules) (search rules) (search rules), search rules)

-- where the sink failed
pub returns : goal.returns
returns g c =
    ((c.transcript_of.result, ran _ _ _ _ c.transcript_of.ensures (search rules) (search rules) (search rules), search rules), search rules)
