-- Error factors, one for each position and message: two messages whose factors account for every present residue are one
-- message, as long as the factors' degrees leave room for it.
use Rattle.std.proofs.Common.{◌≡◌, ℕ, ◌+◌, ◌<◌, ◌≤◌, Bool, true, false, cond, sym, refl, ap, ◌∙◌, subst, arith}
use Rattle.algebra.specs.Abstract.{Ring}
use Rattle.algebra.specs.Field.{Arithmetic, FieldLaws}
use Rattle.algebra.specs.Polynomial.{Below, HasDegree, subtract, multiply, IsPolynomial, Divides}
use Rattle.algebra.specs.Moduli.{one, nought, product_of, total, chosen, chosen_degrees}
use Rattle.algebra.specs.Theorems.{Moduli}
use Rattle.algebra.proofs.Rings.{ring, difference, difference_is, difference_chain, plus_comm}
use Rattle.algebra.proofs.Polynomials.{Poly, 𝓟}
use Rattle.algebra.proofs.Codes.{𝓒, lift, codes_difference, codes_product}
use Rattle.algebra.proofs.Coefficients.{subtract_polynomial, multiply_polynomial, multiply_assoc, multiply_comm, subtract_nought, below_more, below_subtract, below_multiply, degree_multiply, factor_nought}
use Rattle.algebra.proofs.Residues.{divides_multiple, divides_subtract, one_divides, member_divides, all_divide, multiple_nought, product_of_polynomial, product_of_degree}
use Rattle.algebra.proofs.Selections.{pairwise, chosen_moduli, moduli_polynomial, moduli_degree}

module _ {R : Type 0} (𝓡 : Ring R) where
  open 𝓡 use {sum as ◌⊕◌, product as ◌·◌}

  infixl 60 ◌⊕◌
  infixl 70 ◌·◌
  regroup : (u x v y : R) → (u · x) · (v · y) ≡ (u · v) · (x · y)
  regroup u x v y = simp ring

  meet : (α β y a b : R) → (α · β) · difference 𝓡 a b ≡ difference 𝓡 (α · (β · difference 𝓡 y b)) (β · (α · difference 𝓡 y a))
  meet α β y a b = go (difference 𝓡 y a) (difference 𝓡 y b) (difference 𝓡 a b) (plus_comm 𝓡 _ _ ∙ difference_chain 𝓡 y a b)
    where
      go : (u v w : R) → w ⊕ u ≡ v → (α · β) · w ≡ difference 𝓡 (α · (β · v)) (β · (α · u))
      go u v w e =
          let x : (α · β) · w ⊕ β · (α · u) ≡ α · (β · (w ⊕ u)) = simp ring in
          difference_is 𝓡 (α · (β · v)) (β · (α · u)) ((α · β) · w) cc

module _ (f : Arithmetic) (L : FieldLaws f) where
  abbrev 𝓠 : Ring (Poly (𝓒 f L))
  𝓠 = 𝓟 (𝓒 f L)

  abbrev Is : (ℕ → ℕ) → Type 0
  Is = IsPolynomial f

  -- Divisors of two polynomials, multiplied, divide their product.
  pub divides_both : (x y p q : ℕ → ℕ) → Is x → Is y → Divides f x p → Divides f y q → Divides f (multiply f x y) (multiply f p q)
  divides_both x y p q hx hy h k =
      let U = lift f L h.by h.by_polynomial in
      let V = lift f L k.by k.by_polynomial in
      let X = lift f L x hx in
      let Y = lift f L y hy in
      record {
        by = multiply f h.by k.by;
        by_polynomial = multiply_polynomial f L h.by k.by h.by_polynomial k.by_polynomial;
        is =
            cc (
              h.is,
              k.is,
              regroup 𝓠 U X V Y,
              codes_product f L (𝓠.product U X) (𝓠.product V Y),
              codes_product f L U X,
              codes_product f L V Y,
              codes_product f L (𝓠.product U V) (𝓠.product X Y),
              codes_product f L U V,
              codes_product f L X Y,
            );
      }

  -- A factor that accounts for the residue y at the message a, and one at b, together account for the difference of a and b.
  pub factors_meet : (m y a b α β : ℕ → ℕ) → Is m → Is y → Is a → Is b → Is α → Is β
      → Divides f m (multiply f α (subtract f y a)) → Divides f m (multiply f β (subtract f y b))
      → Divides f m (multiply f (multiply f α β) (subtract f a b))
  factors_meet m y a b α β hm hy ha hb hα hβ h k = subst (Divides f m) (sym is) both
    where
      hya : Is (subtract f y a)
      hya = subtract_polynomial f L y a hy ha

      hyb : Is (subtract f y b)
      hyb = subtract_polynomial f L y b hy hb

      hαa : Is (multiply f α (subtract f y a))
      hαa = multiply_polynomial f L α (subtract f y a) hα hya

      hβb : Is (multiply f β (subtract f y b))
      hβb = multiply_polynomial f L β (subtract f y b) hβ hyb

      both : Divides f m (subtract f (multiply f α (multiply f β (subtract f y b))) (multiply f β (multiply f α (subtract f y a))))
      both =
          divides_subtract f L m (multiply f α (multiply f β (subtract f y b))) (multiply f β (multiply f α (subtract f y a))) hm
          (multiply_polynomial f L α (multiply f β (subtract f y b)) hα hβb) (multiply_polynomial f L β (multiply f α (subtract f y a)) hβ hαa)
          (divides_multiple f L m (multiply f β (subtract f y b)) α hm hβb hα k) (divides_multiple f L m (multiply f α (subtract f y a)) β hm hαa hβ h)

      is : multiply f (multiply f α β) (subtract f a b)
          ≡ subtract f (multiply f α (multiply f β (subtract f y b))) (multiply f β (multiply f α (subtract f y a)))
      is =
          let A = lift f L a ha in
          let B = lift f L b hb in
          let Y = lift f L y hy in
          let P = lift f L α hα in
          let Q = lift f L β hβ in
          cc (
            meet 𝓠 P Q Y A B,
            codes_product f L (𝓠.product P Q) (difference 𝓠 A B),
            codes_product f L P Q,
            codes_difference f L A B,
            codes_difference f L (𝓠.product P (𝓠.product Q (difference 𝓠 Y B))) (𝓠.product Q (𝓠.product P (difference 𝓠 Y A))),
            codes_product f L P (𝓠.product Q (difference 𝓠 Y B)),
            codes_product f L Q (difference 𝓠 Y B),
            codes_difference f L Y B,
            codes_product f L Q (𝓠.product P (difference 𝓠 Y A)),
            codes_product f L P (difference 𝓠 Y A),
            codes_difference f L Y A,
          )

  -- Each position i has an error factor α i of degree e i for the message a, and β i of degree e' i for b. If every present
  -- modulus divides α i · β i · (a - b), and the degrees of all factors and K are at most those of the present moduli, then a = b.
  pub charges_force : (n K : ℕ) (m : ℕ → ℕ → ℕ) (d e e' : ℕ → ℕ) (present : ℕ → Bool) (a b : ℕ → ℕ) (α β : ℕ → ℕ → ℕ) → Moduli f n m d
      → Is a → Is b → Below K a → Below K b → ((i : ℕ) → Is (α i)) → ((i : ℕ) → Is (β i))
      → ((i : ℕ) → i < n → HasDegree (e i) (α i)) → ((i : ℕ) → i < n → HasDegree (e' i) (β i))
      → ((i : ℕ) → i < n → present i ≡ true → Divides f (m i) (multiply f (multiply f (α i) (β i)) (subtract f a b)))
      → total e n + total e' n + K ≤ total (chosen_degrees present d) n → a ≡ b
  charges_force n K m d e e' present a b α β h ha hb ka kb hα hβ gα gβ clear l =
      subtract_nought f L a b ha hb (factor_nought f L (total e n + total e' n) (subtract f a b) Λ hab hΛ gΛ none)
    where
      Λ : ℕ → ℕ
      Λ = multiply f (product_of f α n) (product_of f β n)

      hΠα : Is (product_of f α n)
      hΠα = product_of_polynomial f L α n hα

      hΠβ : Is (product_of f β n)
      hΠβ = product_of_polynomial f L β n hβ

      hΛ : Is Λ
      hΛ = multiply_polynomial f L (product_of f α n) (product_of f β n) hΠα hΠβ

      gΛ : HasDegree (total e n + total e' n) Λ
      gΛ =
          degree_multiply f L (total e n) (total e' n) (product_of f α n) (product_of f β n) hΠα hΠβ
          (product_of_degree f L α e n hα gα) (product_of_degree f L β e' n hβ gβ)

      hab : Is (subtract f a b)
      hab = subtract_polynomial f L a b ha hb

      whole : Is (multiply f (subtract f a b) Λ)
      whole = multiply_polynomial f L (subtract f a b) Λ hab hΛ

      here : Moduli f n (chosen present m) (chosen_degrees present d)
      here = chosen_moduli f L n m d present h

      -- a present modulus divides (a - b)·Λ, since the factors of its position divide Λ
      each : (i : ℕ) → i < n → Divides f (chosen present m i) (multiply f (subtract f a b) Λ)
      each i g = go (present i) (clear i g)
        where
          part : Divides f (multiply f (α i) (β i)) Λ
          part =
              divides_both (α i) (β i) (product_of f α n) (product_of f β n) (hα i) (hβ i)
              (member_divides f L α n i hα g) (member_divides f L β n i hβ g)

          hαβ : Is (multiply f (α i) (β i))
          hαβ = multiply_polynomial f L (α i) (β i) (hα i) (hβ i)

          hu : Is part.by
          hu = part.by_polynomial

          is : multiply f part.by (multiply f (multiply f (α i) (β i)) (subtract f a b)) ≡ multiply f (subtract f a b) Λ
          is =
              sym (multiply_assoc f L part.by (multiply f (α i) (β i)) (subtract f a b) hu hαβ hab)
              ∙ ap (λ (p : ℕ → ℕ). multiply f p (subtract f a b)) (sym part.is)
              ∙ multiply_comm f L Λ (subtract f a b) hΛ hab

          go : (p : Bool) → (p ≡ true → Divides f (m i) (multiply f (multiply f (α i) (β i)) (subtract f a b)))
              → Divides f (cond p (m i) one) (multiply f (subtract f a b) Λ)
          go true c =
              subst (Divides f (m i)) is
              (divides_multiple f L (m i) (multiply f (multiply f (α i) (β i)) (subtract f a b)) part.by (h.polynomial i)
              (multiply_polynomial f L (multiply f (α i) (β i)) (subtract f a b) hαβ hab) hu (c refl))
          go false c = one_divides f L (multiply f (subtract f a b) Λ) whole

      none : multiply f (subtract f a b) Λ ≡ nought
      none =
          multiple_nought f L (total (chosen_degrees present d) n) (product_of f (chosen present m) n) (multiply f (subtract f a b) Λ)
          (moduli_polynomial f L n (chosen present m) (chosen_degrees present d) here) whole
          (moduli_degree f L n (chosen present m) (chosen_degrees present d) here)
          (all_divide f L (chosen present m) n (multiply f (subtract f a b) Λ) here.polynomial whole
          (pairwise f L n (chosen present m) (chosen_degrees present d) here) each)
          (below_more (K + (total e n + total e' n)) (total (chosen_degrees present d) n) (multiply f (subtract f a b) Λ) (omega arith)
          (below_multiply f L K (total e n + total e' n) (subtract f a b) Λ hab hΛ (below_subtract f L K a b ha hb ka kb) gΛ.above))
