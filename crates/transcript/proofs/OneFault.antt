-- What is handed in for a plan has one verdict: one fault, or none.
use Rattle.std.proofs.Common.{◌≡◌, ℕ, ◌<◌, List, refl, ap, ◌∙◌, subst, arith}
use Rattle.algebra.specs.Field.{Arithmetic}
use Rattle.plan.specs.Refusals.{Accepted, FirstBadModulus, FirstClash, Refused}
use Rattle.plan.specs.Schemes.{Scheme, AreModuli}
use Rattle.plan.specs.declared.faults.PlanFault.{PlanFault}
use Rattle.plan.specs.declared.faults.PlanFault.TheVariants.{Shape, Modulus, TotalDegree, SharedFactor}

-- Of two numbers neither of which is less, both are one.
neither_before : (a b : ℕ) → ¬ (a < b) → ¬ (b < a) → a ≡ b
neither_before a b h k = omega arith

module _ (s : Scheme) where
  -- There is one first modulus that is not lawful.
  one_bad : (i j : ℕ) → FirstBadModulus s i → FirstBadModulus s j → i ≡ j
  one_bad i j a b = neither_before i j (λ lt. a.bad (b.before i lt)) (λ lt. b.bad (a.before j lt))

  -- Where all moduli are lawful there is none.
  none_bad : (i : ℕ) → FirstBadModulus s i → ¬ (AreModuli s)
  none_bad i bad moduli = bad.bad (moduli i bad.place)

  -- No clash comes in an earlier row than a first one.
  row_before : (i j a b : ℕ) → FirstClash s i j → FirstClash s a b → ¬ (a < i)
  row_before i j a b first other lt = first.rows_before a b lt other.ordered other.place other.clash

  -- So first ones stand in one row.
  one_row : (i j a b : ℕ) → FirstClash s i j → FirstClash s a b → i ≡ a
  one_row i j a b first other = neither_before i a (row_before a b i j other first) (row_before i j a b first other)

  -- In its row no clash comes before it.
  one_column : (i j b : ℕ) → FirstClash s i j → FirstClash s i b → j ≡ b
  one_column i j b first other =
      neither_before j b (λ lt. other.before_in_row j first.ordered lt first.clash) (λ lt. first.before_in_row b other.ordered lt other.clash)

  -- There is one first pair of moduli that share a factor.
  one_clash : (i j a b : ℕ) → FirstClash s i j → FirstClash s a b → SharedFactor i j ≡ SharedFactor a b
  one_clash i j a b first other =
      let row = one_row i j a b first other in
      let moved : FirstClash s a j = subst (λ (n : ℕ). FirstClash s n j) row first in
      ap (λ (n : ℕ). SharedFactor n j) row ∙ ap (SharedFactor a) (one_column a j b moved other)

module _ (f : Arithmetic) (k : ℕ) (codes : List ℕ) where
  -- Of two faults both are one.
  pub one_fault : (a b : PlanFault) → Refused f k codes a → Refused f k codes b → a ≡ b
  one_fault Shape Shape _ _ = refl
  one_fault Shape (Modulus j) shape (shaped, _) = absurd (shape shaped)
  one_fault Shape TotalDegree shape (shaped, _, _) = absurd (shape shaped)
  one_fault Shape (SharedFactor a b) shape (shaped, _, _, _) = absurd (shape shaped)
  one_fault (Modulus i) Shape (shaped, _) shape = absurd (shape shaped)
  one_fault (Modulus i) (Modulus j) (_, first) (_, other) = ap Modulus (one_bad _ i j first other)
  one_fault (Modulus i) TotalDegree (_, first) (_, moduli, _) = absurd (none_bad _ i first moduli)
  one_fault (Modulus i) (SharedFactor a b) (_, first) (_, moduli, _, _) = absurd (none_bad _ i first moduli)
  one_fault TotalDegree Shape (shaped, _, _) shape = absurd (shape shaped)
  one_fault TotalDegree (Modulus j) (_, moduli, _) (_, other) = absurd (none_bad _ j other moduli)
  one_fault TotalDegree TotalDegree _ _ = refl
  one_fault TotalDegree (SharedFactor a b) (_, _, long) (_, _, short, _) = absurd (omega (arith, long, short))
  one_fault (SharedFactor i j) Shape (shaped, _, _, _) shape = absurd (shape shaped)
  one_fault (SharedFactor i j) (Modulus b) (_, moduli, _, _) (_, other) = absurd (none_bad _ b other moduli)
  one_fault (SharedFactor i j) TotalDegree (_, _, short, _) (_, _, long) = absurd (omega (arith, long, short))
  one_fault (SharedFactor i j) (SharedFactor a b) (_, _, _, first) (_, _, _, other) = one_clash _ i j a b first other

  -- What is accepted has none.
  pub none_accepted : (fault : PlanFault) → Refused f k codes fault → ¬ (Accepted f k codes)
  none_accepted Shape shape accepted = shape accepted.shaped
  none_accepted (Modulus i) (_, first) accepted = none_bad _ i first accepted.lawful.moduli_lawful
  none_accepted TotalDegree (_, _, long) accepted = omega (arith, long, accepted.lawful.short)
  none_accepted (SharedFactor i j) (_, _, _, first) accepted = accepted.lawful.apart i j first.ordered first.place first.clash
