-- The section with the field: one line, since its count is 1.
use Rattle.std.proofs.Common.{◌≡◌, ℕ, List, [], ◌∷◌, arith, lit≤}
use Rattle.expression.specs.Texts.{Got, Lost}
use Rattle.expression.specs.declared.names.FieldName.{FieldName}
use Rattle.sheet.specs.Grammar.{IsCount, IsFieldLine, IsSection}
use Rattle.sheet.specs.Parts.{AnyCount, AnyFieldLine}
use Rattle.sheet.specs.Sections.{AnyField}
use Rattle.sheet.specs.Sequences.{Any}
use Rattle.sheet.proofs.Chains.{Alone, lost_like}
use Rattle.sheet.proofs.LineKinds.{field_kind}
use Rattle.sheet.proofs.Rows.{alone_section, count_lost, line_lost, lines_more, lines_none, section_begins, section_got, some_section}

single : (x : List ℕ) → Any (IsSection 1 1 IsFieldLine) x → AnyField x
single x ([], h) = absurd (omega (arith, h.counted.low))
single x (v ∷ [], h) = (v, h)
single x (v ∷ w ∷ r, h) = absurd (omega (arith, h.counted.high))

plural : (x : List ℕ) → AnyField x → Any (IsSection 1 1 IsFieldLine) x
plural x (v, h) = (v ∷ [], h)

pub some_field : (text : List ℕ) × AnyField text
some_field = let (text, h) = some_section field_kind (lit≤ tt) (lit≤ tt) in (text, single text h)

pub alone_fields : Alone AnyField
alone_fields _ _ x y a b p q e = alone_section field_kind tt tt x y a b (plural x p) (plural a q) e

module _ (s : List ℕ) (i : ℕ) where
  pub field_count_lost : (p : ℕ) → Lost (AnyCount 1 1) s i p → Lost AnyField s i p
  field_count_lost p h =
      lost_like (Any (IsSection 1 1 IsFieldLine)) AnyField s i p single plural (count_lost field_kind s i p h)

  pub field_name_lost : (j n p : ℕ) → Got (λ x. IsCount 1 1 x n) s i j → Lost AnyFieldLine s j p → Lost AnyField s i p
  field_name_lost j n p g h =
      let c = g.is in
      lost_like (Any (IsSection 1 1 IsFieldLine)) AnyField s i p single plural
      (line_lost field_kind s i j n 0 (omega arith) (section_begins field_kind s i j n g) p h)

  pub field_got : (j n k : ℕ) (name : FieldName) → Got (λ x. IsCount 1 1 x n) s i j → Got (λ x. IsFieldLine x name) s j k
      → Got (λ x. IsSection 1 1 IsFieldLine x (name ∷ [])) s i k
  field_got j n k name g h =
      let c = g.is in
      let w = g.within in
      let e : 1 ≡ n = omega arith in
      section_got IsFieldLine 1 1 s i j k n (name ∷ []) g (lines_more IsFieldLine s j j k [] name (lines_none IsFieldLine s j w) h) e
