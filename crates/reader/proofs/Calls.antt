-- A list of what a function of the index gave, call by call.
use Rattle.std.proofs.Common.{◌≡◌, ℕ, zero, suc, ◌+◌, ◌<◌, List, subst, arith}
use native.Mathlib.Decide.{dec_lt}
use denote.Param.Members.{Mut, Called}
use Rattle.std.specs.Array.{IsFromFnResultFrom}
use Rattle.std.specs.Prelude.{slice_index_or}

-- Where each call has P and leaves the function as it was, each item has P.
pub from_fn_same : {F B : Type 0} (g : Mut F (ℕ × Unit {0}) B) (P : ℕ → B → Type 0) (f : F)
    → ((i : ℕ) (y : B) (f' : F) → Called g f (i, tt) y f' → P i y × (f' ≡ f))
    → (ys : List B) (i n : ℕ) → IsFromFnResultFrom g f ys i n → (j : ℕ) (d : B) → i < j + 1 → j < i + n → P j (slice_index_or ys j d)
from_fn_same g P f one ys i zero h j d l m = absurd (omega arith)
from_fn_same {F} g P f one ys i (suc n) h j d l m =
    let here = one i h.1 h.0 h.3 in
    elim (dec_lt i j) [
      | yes u ↦
          let rest : IsFromFnResultFrom g f ys (i + 1) n = subst (λ (q : F). IsFromFnResultFrom g q ys (i + 1) n) here.1 h.4 in
          from_fn_same g P f one ys (i + 1) n rest j d (omega arith) (omega arith)
      | no u ↦ let e : i ≡ j = omega arith in subst (λ (k : ℕ). P k (slice_index_or ys k d)) e (rw (h.2.1 d) here.0)
    ]
