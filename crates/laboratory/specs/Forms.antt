-- A number in two forms, and what is shown of it.
use Rattle.std.specs.Prelude.{◌≡◌, ℕ, ◌-◌, ◌≤◌, cond, List, length, map, ◌==◌}
use Rattle.std.proofs.Common.{arith, lit≤}
use Rattle.std.proofs.lemmas.List.{length-map}
use Rattle.memory.specs.Meaning.{Bounded, max_cells, max_top}
use Rattle.laboratory.specs.declared.mirrored.Twice.{Twice}

-- A number as it is, and turned.
abbrev pub both_forms : ℕ → Twice
both_forms v = record { plain = v; turned = max_top - v }

-- The number that two forms show: where they disagree, the top.
abbrev pub shown : Twice → ℕ
shown t = cond (t.turned == max_top - t.plain) t.plain max_top

-- What two forms show: both forms of a number show the number; and forms of which one is not what the other
-- asks for show the top, which is a code of no field.
pub record FormsShow : Type 0 where
  pub sound : (v : ℕ) → shown (both_forms v) ≡ v
  pub damaged : (t : Twice) → ¬ (t.turned ≡ max_top - t.plain) → shown t ≡ max_top

-- What so many cells show is within a memory's limits.
pub shown_bounded : (cells : List Twice) → length cells ≤ max_cells → Bounded (map shown cells) max_top
shown_bounded cells few = record { few = omega (arith, length-map cells shown, few); top_low = lit≤ tt; top_high = lit≤ tt }
