-- What holds of all transcripts of the same bytes.
use Rattle.std.specs.Prelude.{◌≡◌, ℕ, List}
use Rattle.transcript.specs.Lines.{transcript_text}
use Rattle.transcript.specs.Runs.{TranscriptTold}
use Rattle.transcript.specs.declared.transcripts.Transcript.{Transcript}

-- To the same bytes one text is printed.
abbrev pub OneText : Type 0
OneText =
    (bytes : List ℕ) (t t' : Transcript) → TranscriptTold bytes t → TranscriptTold bytes t'
    → transcript_text t ≡ transcript_text t'
