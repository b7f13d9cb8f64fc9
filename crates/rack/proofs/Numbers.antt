-- The first number of a list that is no code.
use Rattle.std.proofs.Common.{◌≡◌, ℕ, zero, suc, ◌<◌, ◌≤◌, Bool, true, false, cond, ltb, List, [], ◌∷◌, length, get_or, Some, None, Option, refl, ap, ◌∙◌, arith}
use Rattle.std.proofs.lemmas.Bool.{cond-false, cond-true, le-ltb, lt-ltb, ltb-true}
use Rattle.std.specs.Option.{option_map}
use Rattle.algebra.specs.Field.{Arithmetic}
use Rattle.algebra.specs.Polynomial.{coefficients}
use Rattle.plan.specs.Refusals.{AreCodes, FirstNoCode}
use Rattle.rack.specs.Ledger.{first_beyond}

module _ (f : Arithmetic) where
  pub beyond_none : (numbers : List ℕ) → AreCodes f numbers → first_beyond f.order numbers ≡ None
  beyond_none [] h = refl
  beyond_none (x ∷ xs) h =
      cond-true (ltb x f.order) _ _ (lt-ltb x f.order (h 0))
      ∙ ap (option_map suc) (beyond_none xs (λ i. h (suc i)))

  beyond_at : (numbers : List ℕ) (i : ℕ) → i < length numbers → f.order ≤ coefficients numbers i
      → ((j : ℕ) → j < i → coefficients numbers j < f.order) → first_beyond f.order numbers ≡ Some i
  beyond_at [] i l no_code before = absurd (omega arith)
  beyond_at (x ∷ xs) zero l no_code before = cond-false (ltb x f.order) _ _ (le-ltb x f.order no_code)
  beyond_at (x ∷ xs) (suc i) l no_code before =
      cond-true (ltb x f.order) _ _ (lt-ltb x f.order (before 0 (omega arith)))
      ∙ ap (option_map suc) (beyond_at xs i (omega arith) no_code (λ j h. before (suc j) (omega arith)))

  pub beyond_some : (numbers : List ℕ) (i : ℕ) → FirstNoCode f numbers i → first_beyond f.order numbers ≡ Some i
  beyond_some numbers i h = beyond_at numbers i h.place h.no_code h.before

mapped_none : (o : Option ℕ) → option_map suc o ≡ None → o ≡ None
mapped_none None e = refl
mapped_none (Some i) e = cc

-- The first number is not beyond, nor is any after it.
first_within : (q x : ℕ) (xs : List ℕ) → first_beyond q (x ∷ xs) ≡ None → (x < q) × (first_beyond q xs ≡ None)
first_within q x xs e = go (ltb x q) refl e
  where
    go : (b : Bool) → ltb x q ≡ b → cond b (option_map suc (first_beyond q xs)) (Some 0) ≡ None → (x < q) × (first_beyond q xs ≡ None)
    go true below e = (ltb-true x q below, mapped_none (first_beyond q xs) e)
    go false beyond e = cc

-- Where no number is beyond, each is below q.
pub none_beyond : (q : ℕ) (numbers : List ℕ) → first_beyond q numbers ≡ None → (i : ℕ) → i < length numbers → get_or numbers i 0 < q
none_beyond q [] e i l = absurd (omega arith)
none_beyond q (x ∷ xs) e zero l = (first_within q x xs e).0
none_beyond q (x ∷ xs) e (suc i) l = none_beyond q xs (first_within q x xs e).1 i (omega arith)
