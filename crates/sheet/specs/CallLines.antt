-- Inner: no public contract cites this.
-- What reading a line with a call answers.
use Rattle.std.specs.Prelude.{ℕ, List, MatchResult, Result}
use Rattle.expression.specs.Texts.{Got, Lost}
use Rattle.expression.specs.declared.parsed.Parsed.{Parsed}
use Rattle.expression.specs.declared.parsed.Stop.{Stop}
use Rattle.rack.specs.Ledger.{Request}
use Rattle.rack.specs.Racks.{given_by}
use Rattle.rack.specs.declared.call.Call.{Call}
use Rattle.sheet.specs.Grammar.{IsCallLine}
use Rattle.sheet.specs.Rooms.{HasRoom}

-- A line that holds some call.
abbrev pub AnyCallLine : List ℕ → Type 0
AnyCallLine line = (request : Request) × IsCallLine line request

-- From i on stands a line, and the call is what it says.
pub record CallGot (s : List ℕ) (i : ℕ) (line : Parsed Call) : Type 0 where
  pub got : Got (λ x. IsCallLine x (given_by line.value)) s i line.end
  pub has_room : HasRoom line.value

-- So it is; or the first place where no such line goes on.
abbrev pub CallTold : List ℕ → ℕ → Result (Parsed Call) Stop → Type 0
CallTold s i r = MatchResult r (CallGot s i) (λ stop. Lost AnyCallLine s i stop.place)
