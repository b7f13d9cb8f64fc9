-- Inner: no public contract cites this.
-- The parts of a call's line.
use Rattle.std.specs.Prelude.{ℕ, List, [], codes, decimal, Ok, Err}
use Rattle.std.specs.Fmt.{signed_decimal}
use Rattle.fault.specs.Shown.{line, spaced}
use Rattle.rack.specs.Grounds.{rack_ground}
use Rattle.rack.specs.Ledger.{Request}
use Rattle.rack.specs.Racks.{given_by}
use Rattle.rack.specs.Told.{Outcome}
use Rattle.rack.specs.declared.call.Answer.TheVariants.{Done, Margin, Message}
use Rattle.transcript.specs.Buffers.{buffer_in}
use Rattle.transcript.specs.declared.ended.Ended.{Ended}

abbrev pub words_of : Outcome → List ℕ
words_of (Err fault) = line (rack_ground fault)
words_of (Ok Done) = codes "ok"
words_of (Ok (Margin margin)) = spaced (codes "ok") (signed_decimal margin)
words_of (Ok (Message found)) = spaced (codes "ok") (spaced (signed_decimal found.margin) (decimal found.wrong))

abbrev pub codes_told : Outcome → Request → List ℕ
codes_told (Err fault) given = []
codes_told (Ok Done) given = []
codes_told (Ok (Margin margin)) given = []
codes_told (Ok (Message found)) given = buffer_in given

abbrev pub codes_of : Ended → List ℕ
codes_of ended = codes_told ended.outcome (given_by ended.call)
