-- The loop that reduces: the codes that are in are the last of p, and the residue is their remainder.
use Rattle.std.proofs.Common.{◌≡◌, ℕ, ◌+◌, List, [], ◌∷◌, ◌++◌, length, replicate, sym, ap, ◌∙◌, arith}
use Rattle.std.proofs.lemmas.List.{append-nil, append_assoc}
use Rattle.algebra.specs.Polynomial.{HasDegree, coefficients}
use Rattle.algebra.specs.Field.{Arithmetic}
use Rattle.algebra.specs.Remainder.{cleared, remainder}
use Rattle.algebra.proofs.Coefficients.{coefficients_below}

module _ (f : Arithmetic) (d : ℕ) (m : ℕ → ℕ) (p : List ℕ) where
  pub record Reduced (left residue : List ℕ) : Type 0 where
    pub taken : List ℕ
    pub whole : p ≡ left ++ taken
    pub is : residue ≡ remainder f d m taken

  pub reduced_none : (left residue : List ℕ) → left ≡ p → residue ≡ replicate d 0 → Reduced left residue
  unfolding remainder
  reduced_none left residue all zeros = record { taken = []; whole = sym (append-nil left ∙ all); is = zeros }

  pub reduced_more : (left left' : List ℕ) (code : ℕ) (residue residue' : List ℕ) → left ≡ left' ++ code ∷ [] → length residue ≡ d
      → residue' ≡ cleared f (length residue) m (code ∷ residue) → Reduced left residue → Reduced left' residue'
  unfolding remainder
  reduced_more left left' code residue residue' last n w R =
      record {
        taken = code ∷ R.taken;
        whole = R.whole ∙ ap (λ (xs : List ℕ). xs ++ R.taken) last ∙ append_assoc left' (code ∷ []) R.taken;
        is = w ∙ ap (λ k. cleared f k m (code ∷ residue)) n ∙ ap (λ (r : List ℕ). cleared f d m (code ∷ r)) R.is;
      }

  pub reduced_all : (left residue : List ℕ) → length left ≡ 0 → Reduced left residue → residue ≡ remainder f d m p
  reduced_all [] residue none R = R.is ∙ ap (remainder f d m) (sym R.whole)
  reduced_all (x ∷ left) residue none R = absurd (omega arith)

-- A modulus of d + 1 codes with leading code 1 has degree d.
pub monic_degree : (d : ℕ) (m : List ℕ) → length m ≡ d + 1 → coefficients m d ≡ 1 → HasDegree d (coefficients m)
monic_degree d m n e =
    record {
      leading = omega arith;
      above = λ i l. coefficients_below m i (omega arith);
    }
