-- Inner: no public contract cites this.
-- What reading the four sections answers.
use Rattle.std.specs.Prelude.{◌≡◌, ℕ, List, map, length, Some, None, All, MatchResult, vec_items, Result}
use Rattle.expression.specs.Texts.{Got, Lost}
use Rattle.expression.specs.declared.parsed.Parsed.{Parsed}
use Rattle.expression.specs.declared.parsed.Stop.{Stop}
use Rattle.rack.specs.Racks.{given_by}
use Rattle.sheet.specs.Grammar.{Content, IsSheet}
use Rattle.sheet.specs.BadLines.{bad_line}
use Rattle.sheet.specs.Refusals.{codes_of}
use Rattle.sheet.specs.Rooms.{HasRoom}
use Rattle.sheet.specs.Sequences.{Any}
use Rattle.sheet.specs.declared.reading.Draft.{Draft}

pub record Drafted (s : List ℕ) (draft : Draft) (end : ℕ) : Type 0 where
  pub content : Content
  pub sheet : Got (λ x. IsSheet x content) s 0 end
  pub field_is : draft.field ≡ content.field
  pub carriers_are : draft.carriers ≡ length content.carrying
  pub bad_is : draft.moduli.bad ≡ bad_line content
  pub moduli_are : bad_line content ≡ None → codes_of content ≡ Some (vec_items draft.moduli.codes)
  pub calls_are : map given_by (vec_items draft.calls) ≡ content.calls
  pub has_room : All HasRoom (vec_items draft.calls)

abbrev pub DraftTold : List ℕ → Result (Parsed Draft) Stop → Type 0
DraftTold s r = MatchResult r (λ draft. Drafted s draft.value draft.end) (λ stop. Lost (Any IsSheet) s 0 stop.place)
