-- The moduli in a list of codes, as definitions cut them out and as the library does.
use Rattle.std.proofs.Common.{◌≡◌, ℕ, zero, suc, ◌+◌, ◌*◌, ◌<◌, ◌≤◌, List, [], length, get_or, take, drop, set, replicate, sym, refl, ap, ◌∙◌, arith, get_or-set_other, get_or-set_same}
use native.Mathlib.Decide.{ℕ_discrete}
use Rattle.std.specs.Simd.{first_chunks}
use Rattle.std.proofs.lemmas.List.FromFn.{length-map-range_with_len, fill_by_all}
use Rattle.std.proofs.lemmas.List.{drop-drop}
use Rattle.algebra.specs.Polynomial.{Below, coefficients}
use Rattle.algebra.proofs.Remainders.{zeros_nought}
use Rattle.plan.specs.Limits.{modulus_codes}
use Rattle.plan.specs.Schemes.{held_moduli}

pub held_length : (n : ℕ) (codes : List ℕ) → length (held_moduli n codes) ≡ n
held_length n codes = length-map-range_with_len (λ i. take modulus_codes (drop (modulus_codes * i) codes)) 0 n

chunks_length : (n : ℕ) (codes : List ℕ) → length (first_chunks modulus_codes n codes) ≡ n
chunks_length zero codes = refl
chunks_length (suc n) codes = ap suc (chunks_length n (drop modulus_codes codes))

chunk_at : (n : ℕ) (codes : List ℕ) (i : ℕ) → i < n → get_or (first_chunks modulus_codes n codes) i [] ≡ take modulus_codes (drop (modulus_codes * i) codes)
chunk_at zero codes i h = absurd (omega arith)
chunk_at (suc n) codes zero h = refl
chunk_at (suc n) codes (suc i) h =
    let next : modulus_codes + modulus_codes * i ≡ modulus_codes * suc i = omega arith in
    chunk_at n (drop modulus_codes codes) i (omega arith)
    ∙ ap (take modulus_codes) (drop-drop (modulus_codes * i) modulus_codes codes)
    ∙ ap (λ k. take modulus_codes (drop k codes)) next

pub chunks_are_moduli : (n : ℕ) (codes : List ℕ) → first_chunks modulus_codes n codes ≡ held_moduli n codes
chunks_are_moduli n codes =
    fill_by_all (λ i. take modulus_codes (drop (modulus_codes * i) codes)) (first_chunks modulus_codes n codes) n [] (chunks_length n codes) (chunk_at n codes)

-- A table of starts, grown by one.
pub starts_more : (value : ℕ → ℕ) (xs : List ℕ) (i v : ℕ) → i + 1 < length xs → ((j : ℕ) → j ≤ i → get_or xs j 0 ≡ value j) → v ≡ value (i + 1)
    → (j : ℕ) → j ≤ i + 1 → get_or (set xs (i + 1) v) j 0 ≡ value j
starts_more value xs i v room before here j h =
    elim (ℕ_discrete j (i + 1)) [
      | yes same ↦ ap (λ n. get_or (set xs (i + 1) v) n 0) same ∙ get_or-set_same xs (i + 1) v 0 room ∙ here ∙ ap value (sym same)
      | no other ↦ get_or-set_other xs (i + 1) j v 0 other ∙ before j (omega arith)
    ]

pub only_zero : (P : ℕ → Type 0) → P 0 → (j : ℕ) → j ≤ 0 → P j
only_zero P p zero h = p
only_zero P p (suc j) h = absurd (omega arith)

-- Past the place where one more start is written nothing changes, and a table of zeros holds none.
pub zeros_after : (xs : List ℕ) (i v : ℕ) → Below (i + 1) (coefficients xs) → Below (i + 1 + 1) (coefficients (set xs (i + 1) v))
zeros_after xs i v before j h = get_or-set_other xs (i + 1) j v 0 (omega arith) ∙ before j (omega arith)

pub zeros_from : (n : ℕ) → Below 1 (coefficients (replicate n 0))
zeros_from n i h = ap (λ (p : ℕ → ℕ). p i) (zeros_nought n)
