-- The name of a field, and the end of its line after it.
use Rattle.std.proofs.Common.{◌≡◌, ℕ, ◌+◌, ◌<◌, ◌≤◌, cond, eqb, List, [], ◌∷◌, ◌++◌, length, get_or, sym, refl, ap, ◌∙◌, subst, arith}
use Rattle.std.proofs.lemmas.List.{append_cancel_left}
use Rattle.std.proofs.lemmas.List.Edits.{between_more, between_none}
use Rattle.expression.specs.Bytes.{line_end}
use Rattle.expression.specs.Fields.{field_word}
use Rattle.expression.specs.Texts.{Got, Lost, Stands}
use Rattle.expression.specs.declared.names.FieldName.{FieldName}
use Rattle.expression.specs.declared.names.FieldName.TheVariants.{Bits, Bytes, Clock}
use Rattle.sheet.specs.Grammar.{IsFieldLine}
use Rattle.sheet.specs.Parts.{AnyFieldLine}
use Rattle.sheet.specs.Sequences.{After}
use Rattle.sheet.proofs.Chains.{Told, got_lost, lost, lost_first, lost_like}

abbrev pub IsField : FieldName → List ℕ → Type 0
IsField name x = x ≡ field_word name

abbrev IsEnd : FieldName → List ℕ → Type 0
IsEnd _ x = x ≡ line_end ∷ []

-- The field that a text names, by its second letter.
abbrev pub named_by : ℕ → FieldName
named_by b = cond (eqb b 105) Bits (cond (eqb b 121) Bytes Clock)

pub names : (name : FieldName) (t : List ℕ) → named_by (get_or (field_word name ++ t) 1 0) ≡ name
names Bits t = refl
names Bytes t = refl
names Clock t = refl

told_field : Told IsField
told_field v w x y a b p q e =
    let whole : field_word v ++ y ≡ field_word w ++ b = ap (λ u. u ++ y) (sym p) ∙ (e ∙ ap (λ u. u ++ b) q) in
    let same : v ≡ w = sym (names v y) ∙ (ap (λ l. named_by (get_or l 1 0)) whole ∙ names w b) in
    (same, p ∙ (ap field_word same ∙ sym q), append_cancel_left (field_word w) y b (ap (λ u. field_word u ++ y) (sym same) ∙ whole))

to_line : (x : List ℕ) → After IsField IsEnd x → AnyFieldLine x
to_line x (name, (a, (b, is, end, e))) = (name, e ∙ (ap (λ u. u ++ b) is ∙ ap (λ u. field_word name ++ u) end))

from_line : (x : List ℕ) → AnyFieldLine x → After IsField IsEnd x
from_line x (name, is) = (name, (field_word name, (line_end ∷ [], refl, refl, is)))

-- Where no name goes on, no line does.
pub no_field : {s : List ℕ} {i p : ℕ} → Lost (λ x. (name : FieldName) × (x ≡ field_word name)) s i p → Lost AnyFieldLine s i p
no_field {s} {i} {p} h =
    lost_like (After IsField IsEnd) AnyFieldLine s i p to_line from_line (lost_first IsField IsEnd told_field s (λ name. (line_end ∷ [], refl)) i p h)

no_end : {s : List ℕ} {j : ℕ} (name : FieldName) → j ≤ length s → (j < length s → get_or s j 0 ≡ line_end → ⊥) → Lost (IsEnd name) s j j
no_end {s} {j} name w none =
    lost (IsEnd name) s j j (omega arith) w (line_end ∷ []) (ap (λ x. x ++ line_end ∷ []) (between_none s j))
    (λ e. let f : [] ≡ line_end ∷ [] = sym (between_none s j) ∙ e in cc)
    (λ l t e. none l (ap (λ x. get_or x 0 0) (ap (λ x. x ++ get_or s j 0 ∷ t) (sym (between_none s j)) ∙ e)))

-- After the name the line does not end.
pub field_not_ended : (name : FieldName) {s : List ℕ} {i j p : ℕ} → Got (IsField name) s i j → (j < length s → get_or s j 0 ≡ line_end → ⊥) → p ≡ j
    → Lost AnyFieldLine s i p
field_not_ended name {s} {i} {j} g none place =
    subst (Lost AnyFieldLine s i) (sym place)
    (lost_like (After IsField IsEnd) AnyFieldLine s i j to_line from_line (got_lost IsField IsEnd told_field s name i j j g (no_end name g.within none)))

pub field_line_got : (name : FieldName) {s : List ℕ} {i j : ℕ} → Got (IsField name) s i j → Stands line_end s j → Got (λ x. IsFieldLine x name) s i (j + 1)
field_line_got name {s} {i} {j} g (h, e) = record {
  more = omega (arith, g.more);
  within = omega arith;
  is = between_more s i j 0 g.more h ∙ (ap (λ x. x ++ get_or s j 0 ∷ []) g.is ∙ ap (λ b. field_word name ++ b ∷ []) e);
}
