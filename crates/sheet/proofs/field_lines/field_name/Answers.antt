use Rattle.std.proofs.Common.{ℕ, List, [], ◌∷◌, Contains, codes, refl, lit<}
use Rattle.std.proofs.lemmas.Result.{MatchResult-weaker}
use Rattle.expression.specs.Fields.{field_word}
use Rattle.expression.specs.declared.names.FieldName.{FieldName}
use Rattle.expression.specs.declared.names.FieldName.TheVariants.{Bits, Bytes, Clock}
use Rattle.sheet.proofs.FieldNames.{no_field}
use Rattle.sheet.proofs.Tables.{spelled_got, spelled_lost}
use Rattle.sheet.proofs.field_lines.field_name.Goals as goal

listed : (name : FieldName) → Contains {X = List ℕ × FieldName} ((codes "bits", Bits) ∷ (codes "bytes", Bytes) ∷ (codes "clock", Clock) ∷ []) (field_word name, name)
listed Bits = (0, lit< tt, refl)
listed Bytes = (1, lit< tt, refl)
listed Clock = (2, lit< tt, refl)

pub returns : goal.returns
returns c =
    MatchResult-weaker c.one_of.result c.one_of.ensures (λ name h. spelled_got (record { each = (refl, (refl, (refl, tt))); all = listed }) h)
    (λ stop h. no_field (spelled_lost (record { each = (refl, (refl, (refl, tt))); all = listed }) h))
