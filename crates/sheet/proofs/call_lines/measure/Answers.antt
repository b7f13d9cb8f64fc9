use Rattle.std.proofs.Common.{refl}
use Rattle.sheet.proofs.CallRows.{lost_after}
use Rattle.sheet.proofs.Calls.{measure_text}
use Rattle.sheet.proofs.Exits.{handed_on}
use Rattle.sheet.proofs.call_lines.measure.Goals as goal

pub returns-in_err-message : goal.returns-in_err-message
returns-in_err-message c i heading =
    rw (handed_on c.from_residual.result c.from_residual.ensures.1) (lost_after {n = 2} heading refl c.in_err-message.ensures)

pub returns : goal.returns
returns c i heading = (measure_text heading c.in_ok-message.ensures, tt)
