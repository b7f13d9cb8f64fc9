-- The loop that shifts a code into a residue, place by place from the lowest up.
use Rattle.std.proofs.Common.{◌≡◌, ℕ, suc, ◌+◌, ◌-◌, ◌<◌, ◌≤◌, List, ◌∷◌, length, set, sym, ap, ◌∙◌, arith}
use native.Mathlib.Decide.{ℕ_discrete}
use Rattle.std.proofs.lemmas.List.{get_or-set_same, get_or-set_other, ext_get_or}
use Rattle.algebra.specs.Field.{Arithmetic, FieldLaws}
use Rattle.algebra.specs.Polynomial.{coefficients}
use Rattle.algebra.specs.Remainder.{cleared}
use Rattle.algebra.proofs.Remainders.{cleared_length, cleared_at}

pub cons_next : (c : ℕ) (xs : List ℕ) (i : ℕ) → coefficients (c ∷ xs) (i + 1) ≡ coefficients xs i
cons_next c xs i = let e : i + 1 ≡ suc i = omega arith in ap (coefficients (c ∷ xs)) e

pub cons_last : (c : ℕ) (xs : List ℕ) → 1 ≤ length xs → coefficients xs (length xs - 1) ≡ coefficients (c ∷ xs) (length xs)
cons_last c xs l =
    let e : length xs - 1 + 1 ≡ length xs = omega arith in
    sym (cons_next c xs (length xs - 1)) ∙ ap (coefficients (c ∷ xs)) e

-- The places below i are written, the others as they were; `lower` is the code that stands at i before it is cleared.
abbrev pub Shifted : Arithmetic → (ℕ → ℕ) → ℕ → List ℕ → ℕ → List ℕ → ℕ → Type 0
Shifted f m code old i residue lower =
    ((k : ℕ) → k < i → coefficients residue k ≡ coefficients (cleared f (length old) m (code ∷ old)) k)
    × ((k : ℕ) → i ≤ k → coefficients residue k ≡ coefficients old k)
    × (lower ≡ coefficients (code ∷ old) i)

module _ (f : Arithmetic) (L : FieldLaws f) (m : ℕ → ℕ) (code : ℕ) (old : List ℕ) where
  pub shift_more : (i : ℕ) (residue : List ℕ) (lower top x y v : ℕ) → length residue ≡ length old → i < length residue
      → top ≡ coefficients (code ∷ old) (length old) → x ≡ f.product top (m i) → y ≡ f.negative x → v ≡ f.sum lower y → Shifted f m code old i residue lower
      → Shifted f m code old (i + 1) (set residue i v) (coefficients residue i)
  shift_more i residue lower top x y v n l t ex ey e s = (below, above, s.1 i (omega arith) ∙ sym (cons_next code old i))
    where
      here : v ≡ coefficients (cleared f (length old) m (code ∷ old)) i
      here = e ∙ rw (ey, ex, s.2, t) (sym (cleared_at f L (length old) m (code ∷ old) i (omega arith)))

      below : (k : ℕ) → k < i + 1 → coefficients (set residue i v) k ≡ coefficients (cleared f (length old) m (code ∷ old)) k
      below k b =
          elim (ℕ_discrete k i) [
            | yes q ↦ rw q (get_or-set_same residue i v 0 l ∙ here)
            | no q ↦ get_or-set_other residue i k v 0 q ∙ s.0 k (omega arith)
          ]

      above : (k : ℕ) → i + 1 ≤ k → coefficients (set residue i v) k ≡ coefficients old k
      above k b = get_or-set_other residue i k v 0 (omega arith) ∙ s.1 k (omega arith)

  pub shift_all : (i : ℕ) (residue : List ℕ) (lower : ℕ) → length residue ≡ length old → length old ≤ i → Shifted f m code old i residue lower
      → residue ≡ cleared f (length old) m (code ∷ old)
  shift_all i residue lower n l s =
      ext_get_or 0 residue (cleared f (length old) m (code ∷ old)) (n ∙ sym (cleared_length f L (length old) m (code ∷ old)))
      (λ k b. s.0 k (omega arith))
