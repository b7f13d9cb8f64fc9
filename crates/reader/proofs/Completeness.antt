-- A message within the allowance of an account is what reconstruction finds from the residues that can be used.
use Rattle.std.proofs.Common.{◌≡◌, ℕ, ◌+◌, ◌*◌, ◌<◌, ◌≤◌, Bool, true, false, cond, not, ◌&&◌, List, length, pos, ◌-ℤ◌, ◌≤ℤ◌, Some, None, Option, sym, refl, ap, ◌∙◌, subst, arith}
use Rattle.std.proofs.lemmas.Int.{ints}
use Rattle.algebra.specs.Field.{Arithmetic, FieldLaws}
use Rattle.algebra.specs.Polynomial.{coefficients, HasDegree, add, subtract, multiply, IsPolynomial, Divides, IsDivision}
use Rattle.algebra.specs.Moduli.{one, nought, Congruent, product_of, total, chosen, chosen_degrees}
use Rattle.algebra.specs.Theorems.{Moduli, Stopped}
use Rattle.algebra.proofs.Coefficients.{degree_one_only, list_polynomial, multiply_add, multiply_assoc, multiply_polynomial, one_polynomial, subtract_chain, subtract_polynomial}
use Rattle.algebra.proofs.Main.{reconstruction_stands}
use Rattle.algebra.proofs.Reading.{agrees_everywhere}
use Rattle.algebra.proofs.Remainders.{remainder_codes, remainder_agrees, same_coefficients}
use Rattle.algebra.proofs.Residues.{congruent_sym, divide_unique, divides_add, divides_multiple, divides_product, divides_self, exact_division, member_divides, one_divides, product_of_degree, product_of_polynomial}
use Rattle.algebra.proofs.Selections.{chosen_moduli, moduli_degree, moduli_polynomial, pairwise}
use Rattle.plan.specs.Accounts.{Account, Within, charge, lost, missing, over_positions, same, wrong}
use Rattle.plan.specs.Schemes.{IsMessage, IsScheme, Scheme, degree, message_length, modulus, positions, residue, word_length}
use Rattle.plan.proofs.Sizes.{modulus_degree, residue_length, start_all, start_sum}
use Rattle.plan.proofs.Tallies.{decides_same, over_add, over_most, over_same, over_total}
use Rattle.plan.proofs.Uniqueness.{message_below, message_polynomial, scheme_moduli, scheme_polynomial}

-- A margin of 0 or more leaves room for twice the charges.
allowed : (N K R e : ℕ) → pos 0 ≤ℤ (pos N -ℤ pos K -ℤ pos R -ℤ pos (2 * e)) → 2 * e + K + R ≤ N
allowed N K R e l = omega (arith, ints)

-- Error factors of any kind. If each kept modulus divides its factor times Y - a, then Y agrees with a modulo the product of
-- the kept moduli, but for the product of the factors.
module _ (f : Arithmetic) (L : FieldLaws f) where
  abbrev Is : (ℕ → ℕ) → Type 0
  Is = IsPolynomial f

  -- What accounts for a residue accounts for every polynomial with that residue.
  through : (m Y y a α : ℕ → ℕ) → Is m → Is Y → Is y → Is a → Is α → Congruent f m Y y → Divides f m (multiply f α (subtract f y a))
      → Divides f m (multiply f α (subtract f Y a))
  through m Y y a α hm hY hy ha hα near h =
      let hYy = subtract_polynomial f L Y y hY hy in
      let hya = subtract_polynomial f L y a hy ha in
      let both =
      divides_add f L m (multiply f α (subtract f Y y)) (multiply f α (subtract f y a)) hm (multiply_polynomial f L α (subtract f Y y) hα hYy)
      (multiply_polynomial f L α (subtract f y a) hα hya) (divides_multiple f L m (subtract f Y y) α hm hYy hα near) h in
      let is : add f (multiply f α (subtract f Y y)) (multiply f α (subtract f y a)) ≡ multiply f α (subtract f Y a) =
      sym (multiply_add f L α (subtract f Y y) (subtract f y a) hα hYy hya) ∙ ap (multiply f α) (subtract_chain f L Y y a hY hy ha) in
      subst (Divides f m) is both

  factors_agree : (n : ℕ) (m : ℕ → ℕ → ℕ) (d : ℕ → ℕ) (keep : ℕ → Bool) (Y a : ℕ → ℕ) (α : ℕ → ℕ → ℕ) → Moduli f n m d → Is Y → Is a → ((i : ℕ) → Is (α i))
      → ((i : ℕ) → i < n → keep i ≡ true → Divides f (m i) (multiply f (α i) (subtract f Y a)))
      → Congruent f (product_of f (chosen keep m) n) (multiply f (product_of f α n) Y) (multiply f (product_of f α n) a)
  factors_agree n m d keep Y a α h hY ha hα clear =
      agrees_everywhere f L n (chosen keep m) Y a Λ here.polynomial hY ha hΛ (pairwise f L n (chosen keep m) (chosen_degrees keep d) here) each
    where
      Λ : ℕ → ℕ
      Λ = product_of f α n

      hΛ : Is Λ
      hΛ = product_of_polynomial f L α n hα

      here : Moduli f n (chosen keep m) (chosen_degrees keep d)
      here = chosen_moduli f L n m d keep h

      gap : ℕ → ℕ
      gap = subtract f Y a

      hgap : Is gap
      hgap = subtract_polynomial f L Y a hY ha

      each : (i : ℕ) → i < n → Divides f (chosen keep m i) (multiply f Λ gap)
      each i l = go (keep i) (clear i l)
        where
          part : Divides f (α i) Λ
          part = member_divides f L α n i hα l

          is : multiply f part.by (multiply f (α i) gap) ≡ multiply f Λ gap
          is =
              sym (multiply_assoc f L part.by (α i) gap part.by_polynomial (hα i) hgap)
              ∙ ap (λ (p : ℕ → ℕ). multiply f p gap) (sym part.is)

          go : (b : Bool) → (b ≡ true → Divides f (m i) (multiply f (α i) gap)) → Divides f (cond b (m i) one) (multiply f Λ gap)
          go true c =
              subst (Divides f (m i)) is
              (divides_multiple f L (m i) (multiply f (α i) gap) part.by (h.polynomial i)
              (multiply_polynomial f L (α i) gap (hα i) hgap) part.by_polynomial (c refl))
          go false c = one_divides f L (multiply f Λ gap) (multiply_polynomial f L Λ gap hΛ hgap)

  -- Where r = t·a, division of r by t gives a and leaves nothing.
  pub exact_quotient : (e : ℕ) (r t a q rest : ℕ → ℕ) → Is t → Is a → r ≡ multiply f t a → HasDegree e t → IsDivision f e r t q rest
      → (q ≡ a) × (rest ≡ nought)
  exact_quotient e r t a q rest ht ha is h D = divide_unique f L e r t q rest a nought ht h D (exact_division f L e r t a ht ha is)

module _ (s : Scheme) where
  -- A residue that can be used: as many codes of the field as the position holds.
  pub record Usable (i : ℕ) (y : List ℕ) : Type 0 where
    pub long : length y ≡ degree s i
    pub codes : (j : ℕ) → coefficients y j < s.arithmetic.order

  -- A position is of no use where it is missing, or where no word can hold its residue.
  abbrev pub Useless : ℕ → Option (List ℕ) → Type 0
  Useless i None = Unit {0}
  Useless i (Some y) = ¬ (Usable i y)

  pub other_length : (i : ℕ) (y : List ℕ) → ¬ (length y ≡ degree s i) → Useless i (Some y)
  other_length i y h u = h u.long

  pub no_code : (i : ℕ) (y : List ℕ) (j : ℕ) → s.arithmetic.order ≤ coefficients y j → Useless i (Some y)
  no_code i y j h u = omega (arith, u.codes j)

  -- What is gathered from an account: the positions kept are those of use, M of degree D is the product of their moduli,
  -- and Y has their residues.
  pub record Gathered (account : Account) (keep : ℕ → Bool) (D : ℕ) (M Y : ℕ → ℕ) : Type 0 where
    pub kept :
        (i : ℕ) → i < positions s → keep i ≡ true
        → (y : List ℕ) × (account i ≡ Some y) × Usable i y × Congruent s.arithmetic (coefficients (modulus s i)) Y (coefficients y)
    pub left_out : (i : ℕ) → i < positions s → keep i ≡ false → Useless i (account i)
    pub M_is : M ≡ product_of s.arithmetic (chosen keep (λ i. coefficients (modulus s i))) (positions s)
    pub M_degree : HasDegree D M
    pub Y_polynomial : IsPolynomial s.arithmetic Y

  -- The kept positions at which the message's residue is another.
  abbrev differs : List ℕ → ℕ → Option (List ℕ) → Bool
  differs message i None = false
  differs message i (Some y) = not (same y (residue s message i))

  abbrev astray : Account → (ℕ → Bool) → List ℕ → ℕ → Bool
  astray account keep message i = keep i && differs message i (account i)

module _ (s : Scheme) (L : FieldLaws s.arithmetic) (h : IsScheme s) where
  abbrev f : Arithmetic
  f = s.arithmetic

  abbrev m : ℕ → ℕ → ℕ
  m i = coefficients (modulus s i)

  abbrev n : ℕ
  n = positions s

  -- A position of no use is charged to every message in full, where it is not missing.
  useless_charged : (message : List ℕ) (i : ℕ) (o : Option (List ℕ)) → Useless s i o → lost s i o + charge s message i o ≡ degree s i
  useless_charged message i None u = omega arith
  useless_charged message i (Some y) u = go (same y (residue s message i)) (decides_same y (residue s message i)).0
    where
      fits : y ≡ residue s message i → Usable s i y
      fits e =
          record {
            long = ap length e ∙ residue_length s message i;
            codes = λ j. rw e (remainder_codes f L (degree s i) (m i) message j);
          }

      go : (right : Bool) → (right ≡ true → y ≡ residue s message i) → 0 + cond right 0 (degree s i) ≡ degree s i
      go true x = absurd (u (fits (x refl)))
      go false x = omega arith

  module _ (account : Account) (keep : ℕ → Bool) (D : ℕ) (M Y : ℕ → ℕ) (G : Gathered s account keep D M Y) where
    -- D is the sum of the kept degrees.
    pub gathered_degree : D ≡ total (chosen_degrees keep (degree s)) n
    gathered_degree =
        degree_one_only D (total (chosen_degrees keep (degree s)) n) M G.M_degree
        (subst (HasDegree (total (chosen_degrees keep (degree s)) n)) (sym G.M_is)
        (moduli_degree f L n (chosen keep m) (chosen_degrees keep (degree s)) (chosen_moduli f L n m (degree s) keep (scheme_moduli s L h))))

    gathered_polynomial : IsPolynomial f M
    gathered_polynomial =
        subst (IsPolynomial f) (sym G.M_is)
        (moduli_polynomial f L n (chosen keep m) (chosen_degrees keep (degree s)) (chosen_moduli f L n m (degree s) keep (scheme_moduli s L h)))

    -- Charges of any kind. Position i is charged e i to the message, the degree of an error factor α i. If each kept modulus
    -- divides α i times the difference of residue and message, and twice the charges and K are D at most, then r = t·a.
    pub factors_find : (a : List ℕ) (e : ℕ → ℕ) (α : ℕ → ℕ → ℕ) → IsMessage s a → ((i : ℕ) → IsPolynomial f (α i))
        → ((i : ℕ) → i < n → HasDegree (e i) (α i))
        → ((i : ℕ) (y : List ℕ) → i < n → keep i ≡ true → account i ≡ Some y → Usable s i y
        → Divides f (m i) (multiply f (α i) (subtract f (coefficients y) (coefficients a))))
        → 2 * over_positions e n + message_length s ≤ D
        → (r t : ℕ → ℕ) → Stopped f D (message_length s) M Y r t → r ≡ multiply f t (coefficients a)
    factors_find a e α A hα gα clear room r t S =
        reconstruction_stands f L D (message_length s) (total e n) M Y (product_of f α n) (coefficients a) r t gathered_polynomial G.Y_polynomial
        (product_of_polynomial f L α n hα) ha G.M_degree (product_of_degree f L α e n hα gα) (omega (arith, over_total e n)) (message_below s L h a A) S
        (subst (λ (p : ℕ → ℕ). Congruent f p (multiply f (product_of f α n) Y) (multiply f (product_of f α n) (coefficients a))) (sym G.M_is)
        (factors_agree f L n m (degree s) keep Y (coefficients a) α (scheme_moduli s L h) G.Y_polynomial ha hα each))
      where
        ha : IsPolynomial f (coefficients a)
        ha = message_polynomial s L h a A

        each : (i : ℕ) → i < n → keep i ≡ true → Divides f (m i) (multiply f (α i) (subtract f Y (coefficients a)))
        each i l k =
            let found = G.kept i l k in
            through f L (m i) Y (coefficients found.0) (coefficients a) (α i) (scheme_polynomial s L h i) G.Y_polynomial
            (list_polynomial f L found.0 found.2.codes) ha (hα i) found.3 (clear i found.0 l k found.1 found.2)

    -- Position by position: what is kept, missing and charged is the degree and what is charged to a kept position.
    balance : (a : List ℕ) (i : ℕ) → i < n
        → chosen_degrees keep (degree s) i + (lost s i (account i) + charge s a i (account i))
        ≡ degree s i + chosen_degrees (astray s account keep a) (degree s) i
    balance a i l = go (keep i) (account i) (λ k. let found = G.kept i l k in (found.0, found.1)) (G.left_out i l)
      where
        go : (b : Bool) (o : Option (List ℕ)) → (b ≡ true → (y : List ℕ) × (o ≡ Some y)) → (b ≡ false → Useless s i o)
            → cond b (degree s i) 0 + (lost s i o + charge s a i o) ≡ degree s i + cond (b && differs s a i o) (degree s i) 0
        go true None x u = absurd (let y = x refl in let z : ◌≡◌ {A = ℕ} 0 1 = cc y.1 in omega arith)
        go true (Some y) x u = both (same y (residue s a i))
          where
            both : (right : Bool) → degree s i + (0 + cond right 0 (degree s i)) ≡ degree s i + cond (not right) (degree s i) 0
            both true = omega arith
            both false = omega arith
        go false o x u = omega (arith, useless_charged a i o (u refl))

    spare : (i : ℕ) → i < n → chosen_degrees keep (degree s) i + lost s i (account i) ≤ degree s i
    spare i l = go (keep i) (account i) (λ k. let found = G.kept i l k in (found.0, found.1))
      where
        go : (b : Bool) (o : Option (List ℕ)) → (b ≡ true → (y : List ℕ) × (o ≡ Some y)) → cond b (degree s i) 0 + lost s i o ≤ degree s i
        go true None x = absurd (let y = x refl in let z : ◌≡◌ {A = ℕ} 0 1 = cc y.1 in omega arith)
        go true (Some y) x = omega arith
        go false None x = omega arith
        go false (Some y) x = omega arith

    -- Within the allowance, twice the kept degrees that are astray and K are together at most D.
    gathered_room : (a : List ℕ) → Within s account a
        → 2 * over_positions (chosen_degrees (astray s account keep a) (degree s)) n + message_length s ≤ D
    gathered_room a W =
        let off = chosen_degrees (astray s account keep a) (degree s) in
        let each = over_same (λ i. kept i + (gone i + charged i)) (λ i. degree s i + off i) n (balance a) in
        let left = over_add kept (λ i. gone i + charged i) n in
        let further = over_add gone charged n in
        let right = over_add (degree s) off n in
        let most = over_most (λ i. kept i + gone i) (degree s) n spare in
        let parts = over_add kept gone n in
        let all : over_positions (degree s) n ≡ word_length s = sym (start_sum s n (omega arith)) ∙ start_all s in
        omega (
          arith,
          over_total kept n,
          gathered_degree,
          allowed (word_length s) (message_length s) (missing s account) (wrong s account a) W.margin_enough,
        )
      where
        kept : ℕ → ℕ
        kept = chosen_degrees keep (degree s)

        gone : ℕ → ℕ
        gone i = lost s i (account i)

        charged : ℕ → ℕ
        charged i = charge s a i (account i)

    -- A message within the allowance is no longer than what is gathered reaches.
    pub message_fits : (a : List ℕ) → Within s account a → message_length s ≤ D
    message_fits a W = omega (arith, gathered_room a W)

    -- Where the algorithm stops, r = t·a. The error factor of a wrong residue is the whole modulus.
    pub message_found : (a : List ℕ) → Within s account a → (r t : ℕ → ℕ) → Stopped f D (message_length s) M Y r t → r ≡ multiply f t (coefficients a)
    message_found a W =
        factors_find a (chosen_degrees (astray s account keep a) (degree s)) (chosen (astray s account keep a) m) W.is_message
        here.polynomial here.degree clear (gathered_room a W)
      where
        here : Moduli f n (chosen (astray s account keep a) m) (chosen_degrees (astray s account keep a) (degree s))
        here = chosen_moduli f L n m (degree s) (astray s account keep a) (scheme_moduli s L h)

        clear : (i : ℕ) (y : List ℕ) → i < n → keep i ≡ true → account i ≡ Some y → Usable s i y
            → Divides f (m i) (multiply f (chosen (astray s account keep a) m i) (subtract f (coefficients y) (coefficients a)))
        clear i y l k e u = rw (k, e) (go (same y (residue s a i)) (decides_same y (residue s a i)).0)
          where
            hm : IsPolynomial f (m i)
            hm = scheme_polynomial s L h i

            ha : IsPolynomial f (coefficients a)
            ha = message_polynomial s L h a W.is_message

            gap : ℕ → ℕ
            gap = subtract f (coefficients y) (coefficients a)

            hgap : IsPolynomial f gap
            hgap = subtract_polynomial f L (coefficients y) (coefficients a) (list_polynomial f L y u.codes) ha

            own : Congruent f (m i) (coefficients (residue s a i)) (coefficients a)
            own =
                congruent_sym f L (m i) (coefficients a) (coefficients (residue s a i)) hm ha
                (list_polynomial f L (residue s a i) (remainder_codes f L (degree s i) (m i) a))
                (remainder_agrees f L (degree s i) (m i) a hm (modulus_degree f (modulus s i) (h.moduli_lawful i l)) (h.moduli_lawful i l).leading
                W.is_message.codes)

            go : (right : Bool) → (right ≡ true → y ≡ residue s a i) → Divides f (m i) (multiply f (cond (not right) (m i) one) gap)
            go true x =
                divides_multiple f L (m i) gap one hm hgap (one_polynomial f L)
                (subst (λ (z : List ℕ). Congruent f (m i) (coefficients z) (coefficients a)) (sym (x refl)) own)
            go false x = divides_product f L (m i) (m i) gap hm hm hgap (divides_self f L (m i) hm)

    -- So the quotient of r by t is the message, and nothing remains.
    pub message_divided : (a : List ℕ) → Within s account a → (r t : ℕ → ℕ) → Stopped f D (message_length s) M Y r t
        → (e : ℕ) (q rest : ℕ → ℕ) → HasDegree e t → IsDivision f e r t q rest → (q ≡ coefficients a) × (rest ≡ nought)
    message_divided a W r t S e q rest =
        exact_quotient f L e r t (coefficients a) q rest S.t_polynomial (message_polynomial s L h a W.is_message) (message_found a W r t S)

    -- And K codes of that quotient are the message itself.
    pub message_read : (a : List ℕ) → Within s account a → (r t : ℕ → ℕ) → Stopped f D (message_length s) M Y r t
        → (e : ℕ) (rest : ℕ → ℕ) (b : List ℕ) → HasDegree e t → IsDivision f e r t (coefficients b) rest → length b ≡ message_length s → b ≡ a
    message_read a W r t S e rest b g V long =
        same_coefficients b a (long ∙ sym W.is_message.long) (message_divided a W r t S e (coefficients b) rest g V).0

    -- Where no message with that quotient for its coefficients lies within the allowance, none does.
    pub none_within : (r t : ℕ → ℕ) → Stopped f D (message_length s) M Y r t → (e : ℕ) (q rest : ℕ → ℕ) → HasDegree e t → IsDivision f e r t q rest
        → ((b : List ℕ) → coefficients b ≡ q → rest ≡ nought → ¬ (Within s account b)) → (a : List ℕ) → ¬ (Within s account a)
    none_within r t S e q rest g V none a W =
        let found = message_divided a W r t S e q rest g V in
        none a (sym found.0) found.1 W
