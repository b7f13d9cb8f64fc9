-- Some of a family of moduli: those whose residues are present, and those whose residues are wrong. The product of the wrong
-- ones is an error factor.
use Rattle.std.proofs.Common.{◌≡◌, ℕ, zero, suc, ◌<◌, ◌≤◌, Bool, true, false, cond, sym, refl, ap, ◌∙◌, subst, arith}
use Rattle.algebra.specs.Field.{Arithmetic, FieldLaws}
use Rattle.algebra.specs.Polynomial.{HasDegree, add, subtract, multiply, IsPolynomial, Divides, ShareFactor}
use Rattle.algebra.specs.Moduli.{one, Congruent, product_of, total, PairwiseCoprime, chosen, chosen_degrees}
use Rattle.algebra.specs.Theorems.{Moduli, IsJoined, Explains}
use Rattle.algebra.proofs.Coefficients.{subtract_polynomial, multiply_polynomial, one_polynomial, degree_of_one, multiply_add, subtract_chain}
use Rattle.algebra.proofs.Residues.{divides_multiple, divides_product, divides_add, one_divides, coprime_one, coprime_sym, coprime_not_shared, not_shared_coprime, member_divides, product_of_polynomial, product_of_degree}
use Rattle.algebra.proofs.Reading.{agrees_everywhere}

-- The degrees of some add up to no more than those of all.
pub chosen_total : (keep : ℕ → Bool) (d : ℕ → ℕ) (n : ℕ) → total (chosen_degrees keep d) n ≤ total d n
unfolding total
chosen_total keep d zero = omega arith
chosen_total keep d (suc n) =
    let before = chosen_total keep d n in
    let here = most (keep n) (d n) in
    omega arith
  where
    most : (b : Bool) (x : ℕ) → cond b x 0 ≤ x
    most true x = omega arith
    most false x = omega arith

module _ (f : Arithmetic) (L : FieldLaws f) where
  abbrev Is : (ℕ → ℕ) → Type 0
  Is = IsPolynomial f

  -- Moduli no two of which share a factor are pairwise coprime.
  pub pairwise : (n : ℕ) (m : ℕ → ℕ → ℕ) (d : ℕ → ℕ) → Moduli f n m d → PairwiseCoprime f m n
  pairwise n m d h i j l g = not_shared_coprime f L (m i) (m j) (h.polynomial i) (h.polynomial j) (h.apart i j l g)

  chosen_is : (b : Bool) (p : ℕ → ℕ) → Is p → Is (cond b p one)
  chosen_is true p h = h
  chosen_is false p h = one_polynomial f L

  chosen_degree : (b : Bool) (d : ℕ) (p : ℕ → ℕ) → HasDegree d p → HasDegree (cond b d 0) (cond b p one)
  chosen_degree true d p h = h
  chosen_degree false d p h = degree_of_one f L

  chosen_apart : (b c : Bool) (p q : ℕ → ℕ) → Is p → Is q → ¬ (ShareFactor f p q) → ¬ (ShareFactor f (cond b p one) (cond c q one))
  chosen_apart true true p q hp hq h = h
  chosen_apart true false p q hp hq h = coprime_not_shared f L p one hp (one_polynomial f L) (coprime_one f L p hp)
  chosen_apart false true p q hp hq h =
      coprime_not_shared f L one q (one_polynomial f L) hq (coprime_sym f L q one hq (one_polynomial f L) (coprime_one f L q hq))
  chosen_apart false false p q hp hq h =
      coprime_not_shared f L one one (one_polynomial f L) (one_polynomial f L) (coprime_one f L one (one_polynomial f L))

  -- Some moduli are moduli.
  pub chosen_moduli : (n : ℕ) (m : ℕ → ℕ → ℕ) (d : ℕ → ℕ) (keep : ℕ → Bool) → Moduli f n m d → Moduli f n (chosen keep m) (chosen_degrees keep d)
  chosen_moduli n m d keep h =
      record {
        polynomial = λ i. chosen_is (keep i) (m i) (h.polynomial i);
        degree = λ i l. chosen_degree (keep i) (d i) (m i) (h.degree i l);
        apart = λ i j l g. chosen_apart (keep i) (keep j) (m i) (m j) (h.polynomial i) (h.polynomial j) (h.apart i j l g);
      }

  pub moduli_polynomial : (n : ℕ) (m : ℕ → ℕ → ℕ) (d : ℕ → ℕ) → Moduli f n m d → Is (product_of f m n)
  moduli_polynomial n m d h = product_of_polynomial f L m n h.polynomial

  pub moduli_degree : (n : ℕ) (m : ℕ → ℕ → ℕ) (d : ℕ → ℕ) → Moduli f n m d → HasDegree (total d n) (product_of f m n)
  moduli_degree n m d h = product_of_degree f L m d n h.polynomial h.degree

  -- The product of the wrong moduli is an error factor: it explains every message with the right residues elsewhere. Only
  -- positions that are present count.
  pub wrong_explains : (n : ℕ) (m : ℕ → ℕ → ℕ) (d : ℕ → ℕ) (y : ℕ → ℕ → ℕ) (a : ℕ → ℕ) (present wrong : ℕ → Bool) → Moduli f n m d
      → ((i : ℕ) → Is (y i)) → Is a → ((i : ℕ) → i < n → present i ≡ true → wrong i ≡ false → Congruent f (m i) (y i) a)
      → Explains f n (chosen present m) y a (product_of f (chosen wrong m) n)
  wrong_explains n m d y a present wrong h hy ha right i l = go (present i) (wrong i) (right i l) whole
    where
      Λ : ℕ → ℕ
      Λ = product_of f (chosen wrong m) n

      hΛ : Is Λ
      hΛ = moduli_polynomial n (chosen wrong m) (chosen_degrees wrong d) (chosen_moduli n m d wrong h)

      hya : Is (subtract f (y i) a)
      hya = subtract_polynomial f L (y i) a (hy i) ha

      whole : Divides f (chosen wrong m i) Λ
      whole = member_divides f L (chosen wrong m) n i (chosen_moduli n m d wrong h).polynomial l

      go : (b c : Bool) → (b ≡ true → c ≡ false → Congruent f (m i) (y i) a) → Divides f (cond c (m i) one) Λ
          → Divides f (cond b (m i) one) (multiply f Λ (subtract f (y i) a))
      go false c r w = one_divides f L (multiply f Λ (subtract f (y i) a)) (multiply_polynomial f L Λ (subtract f (y i) a) hΛ hya)
      go true true r w = divides_product f L (m i) Λ (subtract f (y i) a) (h.polynomial i) hΛ hya w
      go true false r w = divides_multiple f L (m i) (subtract f (y i) a) Λ (h.polynomial i) hya hΛ (r refl refl)

  -- What explains the residues explains the word that joins them.
  pub joined_agrees : (n : ℕ) (m : ℕ → ℕ → ℕ) (d : ℕ → ℕ) (y : ℕ → ℕ → ℕ) (word a Λ : ℕ → ℕ) → Moduli f n m d → ((i : ℕ) → Is (y i)) → Is a → Is Λ
      → IsJoined f n m d y word → Explains f n m y a Λ → Congruent f (product_of f m n) (multiply f Λ word) (multiply f Λ a)
  joined_agrees n m d y word a Λ h hy ha hΛ W x =
      agrees_everywhere f L n m word a Λ h.polynomial W.polynomial ha hΛ (pairwise n m d h) each
    where
      each : (i : ℕ) → i < n → Divides f (m i) (multiply f Λ (subtract f word a))
      each i l =
          let hw = W.polynomial in
          let hwy = subtract_polynomial f L word (y i) hw (hy i) in
          let hya = subtract_polynomial f L (y i) a (hy i) ha in
          let sum =
          divides_add f L (m i) (multiply f Λ (subtract f word (y i))) (multiply f Λ (subtract f (y i) a)) (h.polynomial i)
          (multiply_polynomial f L Λ (subtract f word (y i)) hΛ hwy) (multiply_polynomial f L Λ (subtract f (y i) a) hΛ hya)
          (divides_multiple f L (m i) (subtract f word (y i)) Λ (h.polynomial i) hwy hΛ (W.congruent i l)) (x i l) in
          let same : add f (multiply f Λ (subtract f word (y i))) (multiply f Λ (subtract f (y i) a)) ≡ multiply f Λ (subtract f word a) =
          sym (multiply_add f L Λ (subtract f word (y i)) (subtract f (y i) a) hΛ hwy hya)
          ∙ ap (multiply f Λ) (subtract_chain f L word (y i) a hw (hy i) ha) in
          subst (Divides f (m i)) same sum
