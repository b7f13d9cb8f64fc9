-- What a cell in both forms shows, and what a set of one leaves.
use Rattle.std.proofs.Common.{◌≡◌, ℕ, ◌-◌, ◌<◌, ◌≤◌, true, List, map, length, set, sym, refl, ap, ◌∙◌, arith}
use Rattle.std.proofs.lemmas.List.{length-map, map-set}
use Rattle.std.proofs.lemmas.Bool.{cond-false, cond-true, eq-eqb, le-leb, ne_eqb}
use Rattle.memory.specs.Meaning.{Sets, max_top}
use Rattle.memory.proofs.Facts.{accepts_inside}
use Rattle.laboratory.specs.Forms.{both_forms, shown}
use Rattle.laboratory.specs.declared.mirrored.Twice.{Twice}

pub shows : (v : ℕ) → shown (both_forms v) ≡ v
shows v = cond-true _ v max_top (eq-eqb (max_top - v) (max_top - v) refl)

-- where the forms disagree
pub shows_top : (t : Twice) → ¬ (t.turned ≡ max_top - t.plain) → shown t ≡ max_top
shows_top t apart = cond-false _ t.plain max_top (ne_eqb t.turned (max_top - t.plain) apart)

pub sets_both : (cells : List Twice) (j v : ℕ) → j < length cells → v ≤ max_top
    → Sets (map shown cells) max_top j v true (map shown (set cells j (both_forms v))) max_top
sets_both cells j v inside small = record {
  accepted = sym (accepts_inside (map shown cells) j max_top v (omega (arith, length-map cells shown, inside)) ∙ le-leb v max_top small);
  after = map-set shown cells j (both_forms v) ∙ ap (set (map shown cells) j) (shows v);
  kept = refl;
}
