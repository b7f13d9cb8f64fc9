use Rattle.std.proofs.Common.{refl}
use Rattle.sheet.specs.CallNumbers.{one_more_at}
use Rattle.sheet.proofs.CallRows.{lost_after}
use Rattle.sheet.proofs.Calls.{put_text}
use Rattle.sheet.proofs.Exits.{handed_on}
use Rattle.sheet.proofs.call_lines.put.Goals as goal

pub returns-in_err-residue : goal.returns-in_err-residue
returns-in_err-residue c i heading =
    rw (handed_on c.from_residual-in_err-residue.result c.from_residual-in_err-residue.ensures.1)
    (lost_after {n = 3} (one_more_at heading c.in_ok-position.ensures) refl (rw (c.at.ensures.sheet, c.at.ensures.place) at c.in_err-residue.ensures))

pub returns : goal.returns
returns c i heading =
    rw c.from.ensures
    (put_text heading c.in_ok-position.ensures (rw (c.at.ensures.sheet, c.at.ensures.place) at c.in_ok-residue.ensures), tt)
