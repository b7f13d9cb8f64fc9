-- What no position of a word can hold is wrong for every message.
use Rattle.std.proofs.Common.{◌≡◌, ℕ, Bool, true, false, cond, List, Some, refl}
use Rattle.algebra.specs.Field.{FieldLaws}
use Rattle.algebra.specs.Polynomial.{coefficients}
use Rattle.algebra.proofs.Remainders.{remainder_codes}
use Rattle.plan.specs.Accounts.{FitsPosition, charge, same}
use Rattle.plan.specs.Schemes.{Scheme, degree, modulus, residue}
use Rattle.plan.proofs.Sizes.{residue_length}
use Rattle.plan.proofs.Tallies.{decides_same}

-- The residues of every message's word fit.
own_fits : (s : Scheme) → FieldLaws s.arithmetic → (message : List ℕ) (i : ℕ) → FitsPosition s i (residue s message i)
own_fits s L message i =
    record {
      long = residue_length s message i;
      codes = remainder_codes s.arithmetic L (degree s i) (coefficients (modulus s i)) message;
    }

pub misfit_is_wrong : (s : Scheme) → FieldLaws s.arithmetic → (i : ℕ) (y : List ℕ) → ¬ (FitsPosition s i y)
    → (message : List ℕ) → charge s message i (Some y) ≡ degree s i
misfit_is_wrong s L i y unfit message = go (same y (residue s message i)) (decides_same y (residue s message i)).0
  where
    go : (right : Bool) → (right ≡ true → y ≡ residue s message i) → cond right 0 (degree s i) ≡ degree s i
    go true is = absurd (unfit (rw (is refl) (own_fits s L message i)))
    go false is = refl
