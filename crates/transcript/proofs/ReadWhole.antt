-- What was read tells what all tells: either it is all, or it shows already that the sheet is too long.
use Rattle.std.proofs.Common.{◌≡◌, ℕ, ◌<◌, ◌≤◌, List, [], ◌++◌, length, take, Some, None, Err, Option, arith, subst, ap, sym, refl, length-append, append-nil, inl, inr, ◌∙◌}
use Rattle.std.proofs.lemmas.Bool.{cases_lt}
use Rattle.std.proofs.lemmas.List.{take_all}
use lib.Seq.{take-append-le}
use Rattle.std.specs.Io.KnownBytes.{Consumes, IsAtEnd}
use Rattle.sheet.specs.Refusals.{IsTooLong, SheetTold}
use Rattle.sheet.specs.declared.faults.SheetFault.{SheetFault}
use Rattle.sheet.specs.declared.faults.SheetFault.TheVariants.{NoModulus, NotASheet, TooLong}
use Rattle.transcript.specs.Runs.{TranscriptTold}
use Rattle.transcript.specs.Streams.{RunOf, most_read}
use Rattle.transcript.specs.declared.transcripts.Transcript.{Transcript}
use Rattle.transcript.specs.declared.transcripts.Transcript.TheVariants.{NoPlan, NoSheet, Ran}

-- A sheet that is too long is refused alike, however much longer it is.
module _ (bytes more : List ℕ) (long : IsTooLong bytes) (longer : length bytes ≤ length more) where
  refused : (fault : SheetFault) → SheetTold bytes (Err fault) → SheetTold more (Err fault)
  refused TooLong told = omega (arith, long, longer)
  refused (NotASheet place) told = absurd (told.0 long)
  refused (NoModulus line) told = absurd (told.0 long)

  told_alike : (t : Transcript) → TranscriptTold bytes t → TranscriptTold more t
  told_alike (NoSheet fault) told = refused fault told
  told_alike (NoPlan fault) told = absurd (omega (arith, long, told.lawful.short))
  told_alike (Ran ran) told = absurd (omega (arith, long, told.lawful.short))

-- What was read, and what was left then: nothing, if fewer bytes were read than show that a sheet is too long.
module _ (bytes read rest : List ℕ) (is : bytes ≡ read ++ rest) (ends : length read < most_read → rest ≡ []) (few : length read ≤ most_read) where
  told_of : (t : Transcript) → TranscriptTold read t → TranscriptTold bytes t
  told_of t told =
      elim (cases_lt (length read) most_read) [
        | inl short ↦
            let P : List ℕ → Type 0 = λ b. TranscriptTold b t in
            subst P (sym (is ∙ ap (λ r. read ++ r) (ends short) ∙ append-nil read)) told
        | inr long ↦ told_alike read bytes (omega (arith, long)) (omega (arith, ap length is, length-append read rest)) t told
      ]

  given_of : bytes ≡ take most_read bytes ++ rest
  given_of =
      elim (cases_lt (length read) most_read) [
        | inl short ↦
            let few' : length bytes ≤ most_read = omega (arith, ap length is, length-append read rest, ap length (ends short), short) in
            sym (ap (λ r. take most_read bytes ++ r) (ends short) ∙ append-nil (take most_read bytes) ∙ take_all most_read bytes few')
        | inr long ↦ is ∙ ap (λ x. x ++ rest) (sym (ap (take most_read) is ∙ take-append-le most_read read rest long ∙ take_all most_read read few))
      ]

pub ran : (left left' : Option (List ℕ)) (read : List ℕ) (t : Transcript) → TranscriptTold read t → Consumes left left' read
    → length read ≤ most_read → (length read < most_read → IsAtEnd left') → RunOf left left' t
ran None left' read t told consumed few ends = record { bytes = read; all = tt; given = tt; told = told }
ran (Some bytes) None read t told consumed few ends = absurd consumed
ran (Some bytes) (Some rest) read t told consumed few ends =
    record { bytes = bytes; all = refl; given = given_of bytes read rest consumed ends few; told = told_of bytes read rest consumed ends few t told }
