-- Sums over positions, and what an account adds up to: missing, present and charged positions.
use Rattle.std.proofs.Common.{◌≡◌, ℕ, zero, suc, ◌+◌, ◌<◌, ◌≤◌, Bool, true, false, cond, eqb, List, [], ◌∷◌, is_some, Some, None, Decides, Option, sym, refl, ◌∙◌, add-one, arith}
use Rattle.std.proofs.lemmas.Bool.{false≢true, and_parts, and_from, eqb-true, eq-eqb, cond-true}
use Rattle.algebra.specs.Moduli.{total, chosen_degrees}
use Rattle.plan.specs.Schemes.{Scheme, positions, degree, residue, word_length}
use Rattle.plan.specs.Accounts.{Account, same, over_positions, lost, charge, missing, wrong}
use Rattle.plan.proofs.Sizes.{start_all, start_sum}

-- Residues are the same exactly when they are equal lists.
pub decides_same : (xs ys : List ℕ) → Decides (same xs ys) (xs ≡ ys)
decides_same xs ys = (equal xs ys, λ e. rw e (itself ys))
  where
    equal : (xs ys : List ℕ) → same xs ys ≡ true → xs ≡ ys
    equal [] [] h = refl
    equal [] (y ∷ ys) h = absurd (false≢true h)
    equal (x ∷ xs) [] h = absurd (false≢true h)
    equal (x ∷ xs) (y ∷ ys) h =
        let both = and_parts (eqb x y) (same xs ys) h in
        let first = eqb-true x y both.0 in
        let rest = equal xs ys both.1 in
        cc

    itself : (xs : List ℕ) → same xs xs ≡ true
    itself [] = refl
    itself (x ∷ xs) = and_from (eqb x x) (same xs xs) (eq-eqb x x refl) (itself xs)

-- Sums over positions: one more, the same amounts, no larger amounts, two amounts, and the same sum by algebra's name.
pub over_more : (amount : ℕ → ℕ) (n : ℕ) → over_positions amount (n + 1) ≡ over_positions amount n + amount n
over_more amount n = rw (add-one n)

pub over_same : (x y : ℕ → ℕ) (n : ℕ) → ((i : ℕ) → i < n → x i ≡ y i) → over_positions x n ≡ over_positions y n
over_same x y zero h = refl
over_same x y (suc n) h =
    let before = over_same x y n (λ i l. h i (omega arith)) in
    let here = h n (omega arith) in
    omega arith

pub over_most : (x y : ℕ → ℕ) (n : ℕ) → ((i : ℕ) → i < n → x i ≤ y i) → over_positions x n ≤ over_positions y n
over_most x y zero h = omega arith
over_most x y (suc n) h =
    let before = over_most x y n (λ i l. h i (omega arith)) in
    let here = h n (omega arith) in
    omega arith

pub over_add : (x y : ℕ → ℕ) (n : ℕ) → over_positions (λ i. x i + y i) n ≡ over_positions x n + over_positions y n
over_add x y zero = omega arith
over_add x y (suc n) = let before = over_add x y n in omega arith

pub over_total : (amount : ℕ → ℕ) (n : ℕ) → over_positions amount n ≡ total amount n
unfolding total
over_total amount zero = refl
over_total amount (suc n) = let before = over_total amount n in omega arith

abbrev pub present : Account → ℕ → Bool
present account i = is_some (account i)

module _ (s : Scheme) where
  over_all : over_positions (degree s) (positions s) ≡ word_length s
  over_all = sym (start_sum s (positions s) (omega arith)) ∙ start_all s

  -- Missing positions and present ones are all.
  pub missing_present : (account : Account)
      → missing s account + total (chosen_degrees (present account) (degree s)) (positions s) ≡ word_length s
  missing_present account =
      let x = over_total (chosen_degrees (present account) (degree s)) (positions s) in
      let y = over_add (λ i. lost s i (account i)) (chosen_degrees (present account) (degree s)) (positions s) in
      let z =
      over_same (λ i. lost s i (account i) + chosen_degrees (present account) (degree s) i) (degree s) (positions s) (λ i l. either i (account i)) in
      omega (arith, over_all)
    where
      either : (i : ℕ) (o : Option (List ℕ)) → lost s i o + cond (is_some o) (degree s i) 0 ≡ degree s i
      either i None = omega arith
      either i (Some y) = omega arith

  -- Only what is present is charged, with its degree at most: e + R ≤ N.
  pub wrong_most : (account : Account) (message : List ℕ) → wrong s account message + missing s account ≤ word_length s
  wrong_most account message =
      let x = over_add (λ i. charge s message i (account i)) (λ i. lost s i (account i)) (positions s) in
      let y =
      over_most (λ i. charge s message i (account i) + lost s i (account i)) (degree s) (positions s) (λ i l. at_most i (account i)) in
      omega (arith, over_all)
    where
      at_most : (i : ℕ) (o : Option (List ℕ)) → charge s message i o + lost s i o ≤ degree s i
      at_most i None = omega arith
      at_most i (Some y) = go (same y (residue s message i))
        where
          go : (right : Bool) → cond right 0 (degree s i) + 0 ≤ degree s i
          go true = omega arith
          go false = omega arith

  -- A message is not charged for its own residues.
  pub own_charge : (message : List ℕ) (i : ℕ) → charge s message i (Some (residue s message i)) ≡ 0
  own_charge message i = cond-true _ 0 (degree s i) ((decides_same (residue s message i) (residue s message i)).1 refl)
