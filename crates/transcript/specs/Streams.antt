-- What running a sheet from a source to a sink does. What a source has left, and what a sink holds, is known
-- of some alone.
use Rattle.std.specs.Prelude.{◌≡◌, ℕ, ◌+◌, List, take, Ok, Err, IfSome, Option, Result}
use Rattle.std.specs.Io.KnownBytes.{Appends, Consumes, Keeps}
use Rattle.std.specs.declared.io.Error.{Error}
use Rattle.sheet.specs.Limits.{longest_sheet}
use Rattle.transcript.specs.Lines.{transcript_text}
use Rattle.transcript.specs.Runs.{TranscriptTold}
use Rattle.transcript.specs.declared.streams.RunError.{RunError}
use Rattle.transcript.specs.declared.streams.RunError.TheVariants.{Read, Write}
use Rattle.transcript.specs.declared.transcripts.Transcript.{Transcript}

-- No more bytes are read than show that a sheet is too long.
abbrev pub most_read : ℕ
most_read = longest_sheet + 1

-- A transcript that is told by these bytes: all that the source had, where that is known. Of them it gave no
-- more than the first so many.
pub record RunOf (left left' : Option (List ℕ)) (transcript : Transcript) : Type 0 where
  pub bytes : List ℕ
  pub all : IfSome left (λ had. had ≡ bytes)
  pub given : Consumes left left' (take most_read bytes)
  pub told : TranscriptTold bytes transcript

-- The sink holds what it held, and after it the first bytes of the text, none or all of them included.
abbrev pub PartPrinted : (held holds : Option (List ℕ)) → List ℕ → Type 0
PartPrinted held holds text = (n : ℕ) × Appends held holds (take n text)

-- It is an error by which the source, or the sink, failed at some call.
abbrev pub Fails : {X : Type 0} → (X → Error → X → Type 0) → Error → Type 0
Fails {X} fails error = (before : X) × ((after : X) × fails before error after)

module _ {R W : Type 0} (read_fails : R → Error → R → Type 0) (write_fails : W → Error → W → Type 0) where
  -- The text of a transcript that all the bytes of the source tell was written, and nothing else; or the
  -- source failed, and nothing was written; or the sink failed, and the beginning of such a text was written.
  abbrev pub RunTold : (left left' held holds : Option (List ℕ)) → Result (Unit {0}) RunError → Type 0
  RunTold left left' held holds (Ok ran) =
      (transcript : Transcript) × RunOf left left' transcript × Appends held holds (transcript_text transcript)
  RunTold left left' held holds (Err (Read error)) = Keeps held holds × Fails read_fails error
  RunTold left left' held holds (Err (Write error)) =
      ((transcript : Transcript) × RunOf left left' transcript × PartPrinted held holds (transcript_text transcript))
      × Fails write_fails error
