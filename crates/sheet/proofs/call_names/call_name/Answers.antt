use Rattle.std.proofs.Common.{ℕ, List, [], ◌∷◌, Contains, codes, refl, lit<}
use Rattle.std.proofs.lemmas.Result.{MatchResult-weaker}
use Rattle.sheet.specs.CallNames.{word}
use Rattle.sheet.specs.declared.call_names.CallName.{CallName}
use Rattle.sheet.specs.declared.call_names.CallName.TheVariants.{Close, Measure, Open, Put, Read, Strike}
use Rattle.sheet.proofs.Endings.{name_lost}
use Rattle.sheet.proofs.Tables.{spelled_got, spelled_lost}
use Rattle.sheet.proofs.call_names.call_name.Goals as goal

abbrev Listed : CallName → Type 0
Listed name =
    Contains {X = List ℕ × CallName}
    ((codes "open", Open) ∷ (codes "put", Put) ∷ (codes "strike", Strike) ∷ (codes "read", Read) ∷ (codes "measure", Measure) ∷ (codes "close", Close) ∷ []) (word name, name)

listed : (name : CallName) → Listed name
listed Open = (0, lit< tt, refl)
listed Put = (1, lit< tt, refl)
listed Strike = (2, lit< tt, refl)
listed Read = (3, lit< tt, refl)
listed Measure = (4, lit< tt, refl)
listed Close = (5, lit< tt, refl)

pub returns : goal.returns
returns c =
    MatchResult-weaker c.one_of.result c.one_of.ensures
    (λ name h. spelled_got (record { each = (refl, (refl, (refl, (refl, (refl, (refl, tt)))))); all = listed }) h)
    (λ stop h. name_lost _ _ _ (spelled_lost (record { each = (refl, (refl, (refl, (refl, (refl, (refl, tt)))))); all = listed }) h))
