-- At most one message lies within the allowance of an account, by error factors.
use Rattle.std.proofs.Common.{◌≡◌, ℕ, ◌+◌, ◌*◌, ◌<◌, ◌≤◌, Bool, true, false, cond, List, [], length, pos, negsuc, ◌+ℤ◌, ◌-ℤ◌, ◌≤ℤ◌, is_some, Some, None, Option, sym, refl, ◌∙◌, arith}
use native.Mathlib.Decide.{dec_lt, dec_le}
use Rattle.std.proofs.lemmas.List.{get_or_past}
use Rattle.std.proofs.lemmas.Int.{ints}
use Rattle.std.proofs.lemmas.Bool.{false≢true}
use Rattle.algebra.specs.Field.{Arithmetic, FieldLaws}
use Rattle.algebra.specs.Polynomial.{coefficients, Below, HasDegree, subtract, multiply, IsPolynomial, Divides}
use Rattle.algebra.specs.Moduli.{one, total, chosen_degrees}
use Rattle.algebra.specs.Theorems.{Moduli}
use Rattle.algebra.proofs.Codes.{zero_below}
use Rattle.algebra.proofs.Coefficients.{list_polynomial, one_polynomial, subtract_polynomial, multiply_polynomial, coefficients_below, below_more, degree_of_one}
use Rattle.algebra.proofs.Residues.{divides_self, divides_multiple, divides_product}
use Rattle.algebra.proofs.Remainders.{same_coefficients, remainders_congruent}
use Rattle.algebra.proofs.Charges.{charges_force}
use Rattle.plan.specs.Schemes.{Scheme, positions, modulus, degree, residue, word_length, message_length, IsMessage, IsScheme}
use Rattle.plan.specs.Accounts.{Account, same, over_positions, charge, missing, wrong, margin, Within}
use Rattle.plan.proofs.Sizes.{modulus_degree, modulus_polynomial}
use Rattle.plan.proofs.Tallies.{decides_same, over_total, present, missing_present}

module _ (s : Scheme) (L : FieldLaws s.arithmetic) (h : IsScheme s) where
  abbrev f : Arithmetic
  f = s.arithmetic

  abbrev m : ℕ → ℕ → ℕ
  m i = coefficients (modulus s i)

  -- The moduli of a scheme, and 0 past the last.
  pub scheme_polynomial : (i : ℕ) → IsPolynomial f (m i)
  scheme_polynomial i =
      elim (dec_lt i (positions s)) [
        | yes l ↦ modulus_polynomial f L (modulus s i) (h.moduli_lawful i l)
        | no l ↦
            let none : modulus s i ≡ [] = get_or_past s.moduli i [] (omega arith) in
            rw none (list_polynomial f L [] (λ j. zero_below f L))
      ]

  pub scheme_moduli : Moduli f (positions s) m (degree s)
  scheme_moduli =
      record { polynomial = scheme_polynomial; degree = λ i l. modulus_degree f (modulus s i) (h.moduli_lawful i l); apart = h.apart }

  pub message_polynomial : (a : List ℕ) → IsMessage s a → IsPolynomial f (coefficients a)
  message_polynomial a A = list_polynomial f L a A.codes

  pub message_below : (a : List ℕ) → IsMessage s a → Below (message_length s) (coefficients a)
  message_below a A = below_more (length a) (message_length s) (coefficients a) (omega (arith, A.long)) (coefficients_below a)

  -- Charges of any kind. Position i is charged e i to the message a and e' i to b, the degrees of error factors α i and β i. If
  -- each modulus whose residue is present divides α i · β i · (a - b), and the charges, the degrees of the missing positions
  -- and K are N at most, then a and b are one message.
  pub charges_decide : (account : Account) (a b : List ℕ) (e e' : ℕ → ℕ) (α β : ℕ → ℕ → ℕ) → IsMessage s a → IsMessage s b
      → ((i : ℕ) → IsPolynomial f (α i)) → ((i : ℕ) → IsPolynomial f (β i))
      → ((i : ℕ) → i < positions s → HasDegree (e i) (α i)) → ((i : ℕ) → i < positions s → HasDegree (e' i) (β i))
      → ((i : ℕ) (y : List ℕ) → i < positions s → account i ≡ Some y
      → Divides f (m i) (multiply f (multiply f (α i) (β i)) (subtract f (coefficients a) (coefficients b))))
      → over_positions e (positions s) + over_positions e' (positions s) + message_length s + missing s account ≤ word_length s → a ≡ b
  charges_decide account a b e e' α β A B hα hβ gα gβ clear l =
      same_coefficients a b (A.long ∙ sym B.long)
      (charges_force f L (positions s) (message_length s) m (degree s) e e' (present account) (coefficients a) (coefficients b) α β scheme_moduli
      (message_polynomial a A) (message_polynomial b B) (message_below a A) (message_below b B) hα hβ gα gβ
      (λ i g p. let y = held (account i) p in clear i y.0 g y.1) room)
    where
      held : (o : Option (List ℕ)) → is_some o ≡ true → (y : List ℕ) × (o ≡ Some y)
      held None p = absurd (false≢true p)
      held (Some y) p = (y, refl)

      room : total e (positions s) + total e' (positions s) + message_length s ≤ total (chosen_degrees (present account) (degree s)) (positions s)
      room =
          let x = over_total e (positions s) in
          let y = over_total e' (positions s) in
          let z = missing_present s account in
          omega arith

  -- The error factor of a wrong residue is the whole modulus; a right or a missing one needs none.
  abbrev factor : List ℕ → ℕ → Option (List ℕ) → ℕ → ℕ
  factor message i None = one
  factor message i (Some y) = cond (same y (residue s message i)) one (m i)

  factor_polynomial : (message : List ℕ) (i : ℕ) (o : Option (List ℕ)) → IsPolynomial f (factor message i o)
  factor_polynomial message i None = one_polynomial f L
  factor_polynomial message i (Some y) = go (same y (residue s message i))
    where
      go : (right : Bool) → IsPolynomial f (cond right one (m i))
      go true = one_polynomial f L
      go false = scheme_polynomial i

  factor_degree : (message : List ℕ) (i : ℕ) (o : Option (List ℕ)) → i < positions s → HasDegree (charge s message i o) (factor message i o)
  factor_degree message i None l = degree_of_one f L
  factor_degree message i (Some y) l = go (same y (residue s message i))
    where
      go : (right : Bool) → HasDegree (cond right 0 (degree s i)) (cond right one (m i))
      go true = degree_of_one f L
      go false = modulus_degree f (modulus s i) (h.moduli_lawful i l)

  -- Where a and b both have the residue y, their difference is a multiple of the modulus; else one of the factors is.
  factors_clear : (a b y : List ℕ) (i : ℕ) → IsMessage s a → IsMessage s b → i < positions s
      → Divides f (m i) (multiply f (multiply f (factor a i (Some y)) (factor b i (Some y))) (subtract f (coefficients a) (coefficients b)))
  factors_clear a b y i A B l =
      go (same y (residue s a i)) (same y (residue s b i)) (decides_same y (residue s a i)).0 (decides_same y (residue s b i)).0
    where
      hm : IsPolynomial f (m i)
      hm = scheme_polynomial i

      h1 : IsPolynomial f one
      h1 = one_polynomial f L

      hab : IsPolynomial f (subtract f (coefficients a) (coefficients b))
      hab = subtract_polynomial f L (coefficients a) (coefficients b) (message_polynomial a A) (message_polynomial b B)

      chosen_is : (right : Bool) → IsPolynomial f (cond right one (m i))
      chosen_is true = h1
      chosen_is false = hm

      go : (p q : Bool) → (p ≡ true → y ≡ residue s a i) → (q ≡ true → y ≡ residue s b i)
          → Divides f (m i) (multiply f (multiply f (cond p one (m i)) (cond q one (m i))) (subtract f (coefficients a) (coefficients b)))
      go true true x z =
          divides_multiple f L (m i) (subtract f (coefficients a) (coefficients b)) (multiply f one one) hm hab (multiply_polynomial f L one one h1 h1)
          (remainders_congruent f L (degree s i) (m i) a b hm (modulus_degree f (modulus s i) (h.moduli_lawful i l)) (h.moduli_lawful i l).leading
          A.codes B.codes (sym (x refl) ∙ z refl))
      go false q x z =
          divides_product f L (m i) (multiply f (m i) (cond q one (m i))) (subtract f (coefficients a) (coefficients b)) hm
          (multiply_polynomial f L (m i) (cond q one (m i)) hm (chosen_is q)) hab
          (divides_product f L (m i) (m i) (cond q one (m i)) hm hm (chosen_is q) (divides_self f L (m i) hm))
      go true false x z =
          divides_product f L (m i) (multiply f one (m i)) (subtract f (coefficients a) (coefficients b)) hm
          (multiply_polynomial f L one (m i) h1 hm) hab
          (divides_multiple f L (m i) (m i) one hm hm h1 (divides_self f L (m i) hm))

  -- The charges of an account to two messages leave no room for both, unless they are one.
  pub wrong_decides : (account : Account) (a b : List ℕ) → IsMessage s a → IsMessage s b
      → wrong s account a + wrong s account b + message_length s + missing s account ≤ word_length s → a ≡ b
  wrong_decides account a b A B =
      charges_decide account a b (λ i. charge s a i (account i)) (λ i. charge s b i (account i)) (λ i. factor a i (account i)) (λ i. factor b i (account i))
      A B (λ i. factor_polynomial a i (account i)) (λ i. factor_polynomial b i (account i)) (λ i. factor_degree a i (account i)) (λ i. factor_degree b i (account i))
      clear
    where
      clear : (i : ℕ) (y : List ℕ) → i < positions s → account i ≡ Some y
          → Divides f (m i) (multiply f (multiply f (factor a i (account i)) (factor b i (account i))) (subtract f (coefficients a) (coefficients b)))
      clear i y l e = rw e (factors_clear a b y i A B l)

-- Margins as differences.
within_room : (N K R e : ℕ) → pos 0 ≤ℤ (pos N -ℤ pos K -ℤ pos R -ℤ pos (2 * e)) → 2 * e + K + R ≤ N
within_room N K R e l = omega (arith, ints)

beyond_room : (N K R e e' : ℕ) → N < e + e' + K + R
    → ((pos N -ℤ pos K -ℤ pos R -ℤ pos (2 * e)) +ℤ (pos N -ℤ pos K -ℤ pos R -ℤ pos (2 * e'))) ≤ℤ negsuc 1
beyond_room N K R e e' l = omega (arith, ints)

pub one_within : (s : Scheme) → FieldLaws s.arithmetic → IsScheme s → (account : Account) (a b : List ℕ)
    → Within s account a → Within s account b → a ≡ b
one_within s L h account a b A B =
    let x = within_room (word_length s) (message_length s) (missing s account) (wrong s account a) A.margin_enough in
    let y = within_room (word_length s) (message_length s) (missing s account) (wrong s account b) B.margin_enough in
    wrong_decides s L h account a b A.is_message B.is_message (omega arith)

pub margins_apart : (s : Scheme) → FieldLaws s.arithmetic → IsScheme s → (account : Account) (a b : List ℕ)
    → IsMessage s a → IsMessage s b → ¬ (a ≡ b) → (margin s account a +ℤ margin s account b) ≤ℤ negsuc 1
margins_apart s L h account a b A B differ =
    elim (dec_le (wrong s account a + wrong s account b + message_length s + missing s account) (word_length s)) [
      | yes l ↦ absurd (differ (wrong_decides s L h account a b A B l))
      | no l ↦ beyond_room (word_length s) (message_length s) (missing s account) (wrong s account a) (wrong s account b) (omega arith)
    ]
