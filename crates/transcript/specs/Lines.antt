-- What is printed of a list of calls that was run: a line for each. A refusal is printed as every refusal is;
-- what is accepted as `ok`, and after it, each after a blank, what was answered.
use Rattle.std.specs.Prelude.{ℕ, List, [], ◌∷◌, ◌++◌, codes, decimal, Ok, Err, vec_items}
use Rattle.std.specs.Fmt.{signed_decimal}
use Rattle.std.specs.List.{flat_map}
use Rattle.expression.specs.Bytes.{line_end}
use Rattle.fault.specs.Shown.{line, spaced}
use Rattle.numbers.specs.Rows.{row_text}
use Rattle.plan.specs.Refusals.{plan_ground}
use Rattle.rack.specs.Grounds.{rack_ground}
use Rattle.rack.specs.Ledger.{Request}
use Rattle.rack.specs.Racks.{given_by}
use Rattle.rack.specs.Told.{Outcome}
use Rattle.rack.specs.declared.call.Answer.TheVariants.{Done, Margin, Message}
use Rattle.sheet.specs.Refusals.{sheet_ground}
use Rattle.transcript.specs.Buffers.{buffer_in}
use Rattle.transcript.specs.declared.ended.Ended.{Ended}
use Rattle.transcript.specs.declared.transcripts.Transcript.{Transcript}
use Rattle.transcript.specs.declared.transcripts.Transcript.TheVariants.{NoPlan, NoSheet, Ran}

-- How a call ended, with what it was given as that is afterwards: a read has its message there.
abbrev pub outcome_text : Outcome → Request → List ℕ
outcome_text (Err fault) given = line (rack_ground fault)
outcome_text (Ok Done) given = codes "ok"
outcome_text (Ok (Margin margin)) given = spaced (codes "ok") (signed_decimal margin)
outcome_text (Ok (Message found)) given =
    spaced (codes "ok") (spaced (signed_decimal found.margin) (decimal found.wrong)) ++ row_text (buffer_in given)

abbrev pub call_line : Ended → List ℕ
call_line ended = outcome_text ended.outcome (given_by ended.call) ++ line_end ∷ []

abbrev pub lines_text : List Ended → List ℕ
lines_text = flat_map call_line

-- One line for each call; or the one line of what is refused.
abbrev pub transcript_text : Transcript → List ℕ
transcript_text (NoSheet fault) = line (sheet_ground fault) ++ line_end ∷ []
transcript_text (NoPlan fault) = line (plan_ground fault) ++ line_end ∷ []
transcript_text (Ran calls) = lines_text (vec_items calls.ended)
