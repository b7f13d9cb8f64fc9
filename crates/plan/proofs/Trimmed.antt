-- A polynomial without the zeros after its leading code is the same polynomial.
use Rattle.std.proofs.Common.{◌≡◌, ℕ, ◌≤◌, List, take, sym, ◌∙◌, inl, inr, arith, length-take}
use mathlib.Core.Path.{fun_ext}
use native.Mathlib.Decide.{dec_lt}
use lib.ListN.{get_or-eq_default}
use Rattle.std.proofs.lemmas.List.{get_or-take}
use Rattle.algebra.specs.Polynomial.{coefficients}
use Rattle.plan.specs.Schemes.{extent}
use Rattle.plan.proofs.Sizes.{extent_is}

past_extent : (codes : List ℕ) (i : ℕ) → extent codes ≤ i → coefficients codes i ≡ 0
past_extent codes i h = elim (extent_is codes) [ inl none ↦ none.1 i (omega arith) | inr some ↦ some.2.above i (omega (arith, some.1)) ]

pub trimmed : (codes : List ℕ) (n : ℕ) → extent codes ≤ n → coefficients (take n codes) ≡ coefficients codes
trimmed codes n h =
    fun_ext (λ i. elim (dec_lt i n) [
      | yes within ↦ get_or-take n codes i 0 within
      | no past ↦ get_or-eq_default (take n codes) 0 {n = i} (simp length-take (omega arith)) ∙ sym (past_extent codes i (omega arith))
    ])
