use Rattle.sheet.proofs.Calls.{strike_text}
use Rattle.sheet.proofs.call_lines.strike.Goals as goal

pub returns : goal.returns
returns c i heading = rw c.from.ensures (strike_text heading c.in_ok-position.ensures, tt)
