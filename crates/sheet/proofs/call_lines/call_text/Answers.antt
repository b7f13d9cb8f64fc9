use Rattle.std.proofs.Common.{refl}
use Rattle.sheet.specs.CallTexts.{says_close, says_open, says_read}
use Rattle.sheet.proofs.Calls.{bare_text}
use Rattle.sheet.proofs.Vacancies.{holds_none}
use Rattle.sheet.proofs.call_lines.call_text.Goals as goal
use Rattle.sheet.proofs.call_lines.call_text.Goals.{in-Close, in-Open, in-Read}

pub returns : goal.returns
returns c =
    let heading = c.in_ok-heading.ensures in
    elim c.match-name.branch [
      | in-Open w ↦ rw (w.in-Open.is, w.call-is) (bare_text heading says_open refl, tt)
      | in-Read w ↦ rw (w.in-Read.is, w.call-is, holds_none c.args.row.codes c.args.row.vacant.0) (bare_text heading says_read refl, c.args.row.vacant.1)
      | in-Close w ↦ rw (w.in-Close.is, w.call-is) (bare_text heading says_close refl, tt)
    ]
