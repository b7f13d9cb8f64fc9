-- A Vec of no length holds nothing.
use Rattle.std.proofs.Common.{◌≡◌, [], vec_items, vec_len, sym, ◌∙◌}
use Rattle.std.proofs.lemmas.List.{nil_from_length}
use Rattle.std.specs.Global.{Vec}

pub holds_none : {X : Type 0} (v : Vec X) → vec_len v ≡ 0 → vec_items v ≡ []
holds_none v none = nil_from_length (vec_items v) (sym v.ok.0 ∙ none)
