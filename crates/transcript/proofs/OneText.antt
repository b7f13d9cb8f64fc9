-- To the same bytes one text is printed. The laws of sheets and of lists of calls come from the functions that promise them.
use Rattle.std.proofs.Common.{◌≡◌, ℕ, List, length, vec_items, Some, Err, sym, ap, ◌∙◌, subst}
use Rattle.algebra.proofs.Bytes.{bytes as byte_laws}
use Rattle.algebra.proofs.Modular.{bit_laws, clock_laws}
use Rattle.algebra.specs.Field.{Arithmetic, FieldLaws}
use Rattle.batch.specs.Laws.{OneEnd}
use Rattle.expression.specs.Fields.{arithmetic_of}
use Rattle.expression.specs.declared.names.FieldName.{FieldName}
use Rattle.expression.specs.declared.names.FieldName.TheVariants.{Bits, Bytes, Clock}
use Rattle.plan.specs.Schemes.{handed_in}
use Rattle.rack.specs.Ledger.{Request}
use Rattle.sheet.specs.Grammar.{Content, OneContent}
use Rattle.sheet.specs.Laws.{LawfulOrGround, OneAnswer}
use Rattle.sheet.specs.Refusals.{IsLawful, SheetTold, codes_of}
use Rattle.sheet.specs.declared.faults.SheetFault.{SheetFault}
use Rattle.sheet.specs.declared.faults.SheetFault.TheVariants.{NoModulus, NotASheet, TooLong}
use Rattle.transcript.specs.Laws.{OneText}
use Rattle.transcript.specs.Lines.{transcript_text}
use Rattle.transcript.specs.Runs.{Obeys, PlanTold}
use Rattle.transcript.specs.declared.transcripts.Transcript.{Transcript}
use Rattle.transcript.specs.declared.transcripts.Transcript.TheVariants.{NoPlan, NoSheet, Ran}
use Rattle.transcript.proofs.OneFault.{none_accepted, one_fault}
use Rattle.transcript.proofs.OneList.{one_list}

-- The three arithmetics are fields.
field_laws : (name : FieldName) → FieldLaws (arithmetic_of name)
field_laws Bits = bit_laws
field_laws Bytes = byte_laws
field_laws Clock = clock_laws

-- What comes of one plan and its calls has one text.
one_plan : OneEnd → (f : Arithmetic) → FieldLaws f → (k : ℕ) (codes : List ℕ) (calls : List Request) (t t' : Transcript)
    → PlanTold f k codes calls t → PlanTold f k codes calls t' → transcript_text t ≡ transcript_text t'
one_plan one_end f L k codes calls (NoSheet a) t' told told' = absurd told
one_plan one_end f L k codes calls (NoPlan a) (NoSheet b) told told' = absurd told'
one_plan one_end f L k codes calls (NoPlan a) (NoPlan b) told told' =
    ap (λ fault. transcript_text (NoPlan fault)) (one_fault f k codes a b told told')
one_plan one_end f L k codes calls (NoPlan a) (Ran ran) told told' = absurd (none_accepted f k codes a told told'.0)
one_plan one_end f L k codes calls (Ran ran) (NoSheet b) told told' = absurd told'
one_plan one_end f L k codes calls (Ran ran) (NoPlan b) told told' = absurd (none_accepted f k codes b told' told.0)
one_plan one_end f L k codes calls (Ran ran) (Ran ran') told told' =
    one_list one_end (handed_in f k codes) L told.0.lawful calls (vec_items ran.ended) (vec_items ran'.ended) told.1 told'.1

module _ (one_content : OneContent) (one_answer : OneAnswer) (lawful_or_ground : (bytes : List ℕ) → LawfulOrGround bytes) (one_end : OneEnd) where
  -- Lawful bytes are not refused as no sheet.
  not_refused : (bytes : List ℕ) (fault : SheetFault) (content : Content) → SheetTold bytes (Err fault) → ¬ (IsLawful bytes content)
  not_refused bytes TooLong content told lawful = ((lawful_or_ground bytes).lawful (content, lawful)).first told
  not_refused bytes (NotASheet place) content (_, stops) lawful = ((lawful_or_ground bytes).lawful (content, lawful)).second place stops
  not_refused bytes (NoModulus place) content (_, lacks) lawful = ((lawful_or_ground bytes).lawful (content, lawful)).third place lacks

  -- What comes of a lawful sheet has one text: there is one content, so one plan and one list of calls.
  one_sheet : (bytes : List ℕ) (t t' : Transcript) → Obeys bytes t → Obeys bytes t' → transcript_text t ≡ transcript_text t'
  one_sheet bytes t t' here there =
      let c = here.content in
      let same : there.content ≡ c = one_content bytes there.content c there.lawful.written here.lawful.written in
      let coded : Some there.moduli ≡ Some here.moduli = sym there.valued ∙ ap codes_of same ∙ here.valued in
      let moduli : there.moduli ≡ here.moduli = cc in
      let by_content = subst (λ (d : Content). PlanTold (arithmetic_of d.field) (length d.carrying) there.moduli d.calls t') same there.told in
      let by_moduli = subst (λ (codes : List ℕ). PlanTold (arithmetic_of c.field) (length c.carrying) codes c.calls t') moduli by_content in
      one_plan one_end (arithmetic_of c.field) (field_laws c.field) (length c.carrying) here.moduli c.calls t t' here.told by_moduli

  pub one_text : OneText
  one_text bytes (NoSheet a) (NoSheet b) told told' = ap (λ fault. transcript_text (NoSheet fault)) (one_answer bytes (Err a) (Err b) told told')
  one_text bytes (NoSheet a) (NoPlan b) told told' = absurd (not_refused bytes a told'.content told told'.lawful)
  one_text bytes (NoSheet a) (Ran b) told told' = absurd (not_refused bytes a told'.content told told'.lawful)
  one_text bytes (NoPlan a) (NoSheet b) told told' = absurd (not_refused bytes b told.content told' told.lawful)
  one_text bytes (NoPlan a) (NoPlan b) told told' = one_sheet bytes (NoPlan a) (NoPlan b) told told'
  one_text bytes (NoPlan a) (Ran b) told told' = one_sheet bytes (NoPlan a) (Ran b) told told'
  one_text bytes (Ran a) (NoSheet b) told told' = absurd (not_refused bytes b told.content told' told.lawful)
  one_text bytes (Ran a) (NoPlan b) told told' = one_sheet bytes (Ran a) (NoPlan b) told told'
  one_text bytes (Ran a) (Ran b) told told' = one_sheet bytes (Ran a) (Ran b) told told'
