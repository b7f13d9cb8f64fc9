-- The main theorems, as specs/Theorems.antt states them.
use Rattle.std.proofs.Common.{◌≡◌, ℕ, zero, suc, ◌+◌, ◌*◌, ◌/◌, ◌<◌, ◌≤◌, Bool, ◌⊎◌, refl, ap, subst, inl, inr, arith}
use native.Mathlib.Decide.{dec_le, dec_lt}
use Rattle.algebra.specs.Field.{Arithmetic, FieldLaws}
use Rattle.algebra.specs.Polynomial.{Below, HasDegree, subtract, multiply, IsPolynomial, ShareFactor, IsDivision}
use Rattle.algebra.specs.Moduli.{one, nought, Congruent, Coprime, product_of, total, chosen, chosen_degrees}
use Rattle.algebra.specs.Theorems.{FieldOfCodes, OneDivision, Moduli, IsJoined, OneJoined, Explains, BelowHalf, Stopped, Found}
use Rattle.algebra.proofs.Codes.{code_ring, code_field}
use Rattle.algebra.proofs.Coefficients.{subtract_polynomial, multiply_polynomial, nought_polynomial, nought_below, nought_or_degree, below_more, degree_less, degree_one_only}
use Rattle.algebra.proofs.Residues.{divide, divide_unique, shared_or_coprime, coprime_not_shared, coprime_sym, coprime_all, coprime_inverse, congruent_sym, congruent_trans, congruent_divisor, congruent_same, all_divide, member_divides, product_of_polynomial, product_of_degree}
use Rattle.algebra.proofs.Selections.{pairwise, chosen_moduli, moduli_polynomial, moduli_degree, wrong_explains, joined_agrees}
use Rattle.algebra.proofs.Reading.{Euclidean, euclid_start, euclid_step, euclid_degrees, euclid_combination, reconstruct, unique_residues, joined, joined_polynomial, joined_old, joined_new, joined_below}

pub codes_form_a_field : (f : Arithmetic) → FieldLaws f → FieldOfCodes f
unfolding code_field code_ring
codes_form_a_field f L =
    record {
      field = code_field f L;
      zero_is = refl;
      one_is = refl;
      sum_is = λ a b. refl;
      negative_is = λ a. refl;
      product_is = λ a b. refl;
      inverse_is = λ a. refl;
    }

-- A degree less than n/2 is less than n/2 rounded up.
pub below_half : (n : ℕ) (p : ℕ → ℕ) → BelowHalf n p → Below ((n + 1) / 2) p
below_half n p h i l = h i (omega arith)

pub half_below : (n e : ℕ) (p : ℕ → ℕ) → 2 * e < n → Below (suc e) p → BelowHalf n p
half_below n e p l h i g = h i (omega arith)

module _ (f : Arithmetic) (L : FieldLaws f) where
  pub one_division : (d : ℕ) (a m : ℕ → ℕ) → IsPolynomial f a → IsPolynomial f m → HasDegree d m → OneDivision f d a m
  one_division d a m ha hm h =
      let D = divide f L d a m ha hm h in
      record {
        quotient = D.0;
        remainder = D.1;
        division = D.2;
        only = λ q r V. divide_unique f L d a m q r D.0 D.1 hm h V D.2;
      }

  pub coprime_or_shared : (m n : ℕ → ℕ) → IsPolynomial f m → IsPolynomial f n
      → (ShareFactor f m n ⊎ Coprime f m n) × (Coprime f m n → ¬ (ShareFactor f m n))
  coprime_or_shared m n hm hn = (shared_or_coprime f L m n hm hn, coprime_not_shared f L m n hm hn)

  -- Residues joined one modulus at a time.
  fewer : (n : ℕ) (m : ℕ → ℕ → ℕ) (d : ℕ → ℕ) → Moduli f (suc n) m d → Moduli f n m d
  fewer n m d h =
      record { polynomial = h.polynomial; degree = λ i l. h.degree i (omega arith); apart = λ i j l g. h.apart i j l (omega arith) }

  join_next : (n : ℕ) (m : ℕ → ℕ → ℕ) (d : ℕ → ℕ) (y : ℕ → ℕ → ℕ) → Moduli f (suc n) m d → ((i : ℕ) → IsPolynomial f (y i))
      → (word : ℕ → ℕ) → IsJoined f n m d y word → (v : ℕ → ℕ) × IsJoined f (suc n) m d y v
  unfolding total
  join_next n m d y h hy word W = (
    joined f L M word c,
    record {
      polynomial = hnew;
      below = joined_below f L (total d n) (d n) M word c hM W.polynomial hc (product_of_degree f L m d n hm (fewer n m d h).degree) W.below V.2.remainder_below;
      congruent = λ i l. elim (dec_lt i n) [ yes g ↦ old i g | no g ↦ let e : n ≡ i = omega arith in subst (λ j. Congruent f (m j) (joined f L M word c) (y j)) e new ];
    },
  )
    where
      hm : (i : ℕ) → IsPolynomial f (m i)
      hm = h.polynomial

      M : ℕ → ℕ
      M = product_of f m n

      hM : IsPolynomial f M
      hM = product_of_polynomial f L m n hm

      apart : Coprime f M (m n)
      apart =
          coprime_sym f L (m n) M (hm n) hM
          (coprime_all f L (m n) m n (hm n) hm
          (λ i l. coprime_sym f L (m i) (m n) (hm i) (hm n) (pairwise f L (suc n) m d h i n l (omega arith))))

      w : ℕ → ℕ
      w = apart.left

      gap : IsPolynomial f (multiply f (subtract f (y n) word) w)
      gap = multiply_polynomial f L (subtract f (y n) word) w (subtract_polynomial f L (y n) word (hy n) W.polynomial) apart.left_polynomial

      V : (q : ℕ → ℕ) × (r : ℕ → ℕ) × IsDivision f (d n) (multiply f (subtract f (y n) word) w) (m n) q r
      V = divide f L (d n) (multiply f (subtract f (y n) word) w) (m n) gap (hm n) (h.degree n (omega arith))

      c : ℕ → ℕ
      c = V.1

      hc : IsPolynomial f c
      hc = V.2.remainder_polynomial

      hnew : IsPolynomial f (joined f L M word c)
      hnew = joined_polynomial f L M word c hM W.polynomial hc

      old : (i : ℕ) → i < n → Congruent f (m i) (joined f L M word c) (y i)
      old i l =
          congruent_trans f L (m i) (joined f L M word c) word (y i) (hm i) hnew W.polynomial (hy i)
          (congruent_divisor f L (m i) M (joined f L M word c) word (hm i) hM hnew W.polynomial (member_divides f L m n i hm l)
          (joined_old f L M word c hM W.polynomial hc))
          (W.congruent i l)

      new : Congruent f (m n) (joined f L M word c) (y n)
      new =
          joined_new f L (d n) (m n) M w word (y n) V.0 c (hm n) hM apart.left_polynomial W.polynomial (hy n)
          (coprime_inverse f L M (m n) hM (hm n) apart) V.2

  join : (n : ℕ) (m : ℕ → ℕ → ℕ) (d : ℕ → ℕ) (y : ℕ → ℕ → ℕ) → Moduli f n m d → ((i : ℕ) → IsPolynomial f (y i))
      → (word : ℕ → ℕ) × IsJoined f n m d y word
  join zero m d y h hy =
      (nought, record { polynomial = nought_polynomial f L; below = nought_below (total d 0); congruent = λ i l. absurd (omega arith) })
  join (suc n) m d y h hy = let W = join n m d y (fewer n m d h) hy in join_next n m d y h hy W.0 W.1

  joined_same : (n : ℕ) (m : ℕ → ℕ → ℕ) (d : ℕ → ℕ) (y : ℕ → ℕ → ℕ) (v w : ℕ → ℕ) → Moduli f n m d → ((i : ℕ) → IsPolynomial f (y i))
      → IsJoined f n m d y v → IsJoined f n m d y w → v ≡ w
  joined_same n m d y v w h hy V W =
      let hm = h.polynomial in
      let hv = V.polynomial in
      let hw = W.polynomial in
      congruent_same f L (total d n) (product_of f m n) v w (product_of_polynomial f L m n hm) hv hw (product_of_degree f L m d n hm h.degree) V.below W.below
      (all_divide f L m n (subtract f v w) hm (subtract_polynomial f L v w hv hw) (pairwise f L n m d h)
      (λ i l. congruent_trans f L (m i) v (y i) w (hm i) hv (hy i) hw (V.congruent i l)
      (congruent_sym f L (m i) w (y i) (hm i) hw (hy i) (W.congruent i l))))

  pub residues_join : (n : ℕ) (m : ℕ → ℕ → ℕ) (d : ℕ → ℕ) (y : ℕ → ℕ → ℕ) → Moduli f n m d → ((i : ℕ) → IsPolynomial f (y i)) → OneJoined f n m d y
  residues_join n m d y h hy =
      let W = join n m d y h hy in
      record { word = W.0; joined = W.1; only = λ v V. joined_same n m d y v W.0 h hy V W.1 }

  pub one_message_at_most : (n K e e' : ℕ) (m : ℕ → ℕ → ℕ) (d : ℕ → ℕ) (y : ℕ → ℕ → ℕ) (a b Λ Λ' : ℕ → ℕ)
      → Moduli f n m d → ((i : ℕ) → IsPolynomial f (y i)) → IsPolynomial f a → IsPolynomial f b → IsPolynomial f Λ → IsPolynomial f Λ'
      → HasDegree e Λ → HasDegree e' Λ' → e + e' + K ≤ total d n → Below K a → Below K b
      → Explains f n m y a Λ → Explains f n m y b Λ' → a ≡ b
  one_message_at_most n K e e' m d y a b Λ Λ' h hy ha hb hΛ hΛ' gΛ gΛ' l ka kb A B =
      unique_residues f L (total d n) K e e' n m y a b Λ Λ' h.polynomial hy ha hb hΛ hΛ' (pairwise f L n m d h)
      (product_of_degree f L m d n h.polynomial h.degree) gΛ gΛ' l ka kb A B

  -- A state of the extended algorithm whose remainder is low enough is where it stops.
  pub euclid_stopped : (D K n : ℕ) (M Y p r t₀ t : ℕ → ℕ) → Euclidean f L D M Y p r t₀ t → HasDegree n p → D + K ≤ 2 * n → BelowHalf (D + K) r
      → Stopped f D K M Y r t
  euclid_stopped D K n M Y p r t₀ t I h l k =
      let G = euclid_degrees f L D M Y p r t₀ t I in
      let S = euclid_combination f L D M Y p r t₀ t I in
      let same = degree_one_only n G.previous_degree p h G.previous_has in
      let all = G.sum_is in
      record {
        r_polynomial = I.remainder_polynomial;
        t_polynomial = I.t_polynomial;
        s = S.0;
        s_polynomial = S.1;
        r_is = S.2;
        r_below = k;
        t_degree = G.t_degree;
        t_has = G.t_has;
        before = n;
        before_not_below = l;
        degrees = omega arith;
      }

  -- The remainder is below k, so that k steps are enough.
  euclid_runs : (k D K n : ℕ) (M Y p r t₀ t : ℕ → ℕ) → Euclidean f L D M Y p r t₀ t → HasDegree n p → D + K ≤ 2 * n → Below k r
      → (r' : ℕ → ℕ) × (t' : ℕ → ℕ) × Stopped f D K M Y r' t'
  euclid_runs zero D K n M Y p r t₀ t I h l g = (r, t, euclid_stopped D K n M Y p r t₀ t I h l (λ i _. g i (omega arith)))
  euclid_runs (suc k) D K n M Y p r t₀ t I h l g =
      elim (nought_or_degree f L r I.remainder_polynomial) [
        | inl z ↦ (r, t, euclid_stopped D K n M Y p r t₀ t I h l (λ i _. ap (λ (q : ℕ → ℕ). q i) z))
        | inr u ↦
            elim (dec_le (D + K) (2 * u.0)) [
              | yes b ↦
                  let V = divide f L u.0 p r I.previous_polynomial I.remainder_polynomial u.1 in
                  let less = degree_less u.0 (suc k) r u.1 g in
                  euclid_runs k D K u.0 M Y r V.1 t (subtract f t₀ (multiply f V.0 t))
                  (euclid_step f L D u.0 M Y p r t₀ t V.0 V.1 I u.1 V.2) u.1 b
                  (below_more u.0 k V.1 (omega arith) V.2.remainder_below)
              | no b ↦ (r, t, euclid_stopped D K n M Y p r t₀ t I h l (half_below (D + K) u.0 r (omega arith) u.1.above))
            ]
      ]

  pub euclid_stops : (D K : ℕ) (M Y : ℕ → ℕ) → IsPolynomial f M → IsPolynomial f Y → HasDegree D M → Below D Y → K ≤ D
      → (r : ℕ → ℕ) × (t : ℕ → ℕ) × Stopped f D K M Y r t
  euclid_stops D K M Y hM hY h g l =
      euclid_runs D D K D M Y M Y nought one (euclid_start f L D M Y hM hY h g) h (omega arith) g

  pub reconstruction_stands : (D K e : ℕ) (M Y Λ a r t : ℕ → ℕ) → IsPolynomial f M → IsPolynomial f Y → IsPolynomial f Λ → IsPolynomial f a
      → HasDegree D M → HasDegree e Λ → 2 * e + K ≤ D → Below K a → Stopped f D K M Y r t
      → Congruent f M (multiply f Λ Y) (multiply f Λ a) → r ≡ multiply f t a
  reconstruction_stands D K e M Y Λ a r t hM hY hΛ ha gM gΛ l ka S agrees =
      reconstruct f L D K e ((D + K + 1) / 2) S.before S.t_degree M Y Λ a r S.s t hM hY hΛ ha S.r_polynomial S.s_polynomial S.t_polynomial
      gM gΛ l ka (below_half (D + K) r S.r_below) (omega arith) S.t_has S.degrees S.before_not_below S.r_is agrees

  -- Reading: the residues that are present are joined, the algorithm is run on their product and the word, and where it stops
  -- the wrong residues' moduli make the error factor.
  pub every_message_is_found : (n K : ℕ) (m : ℕ → ℕ → ℕ) (d : ℕ → ℕ) (y : ℕ → ℕ → ℕ) (present : ℕ → Bool)
      → Moduli f n m d → ((i : ℕ) → IsPolynomial f (y i)) → K ≤ total (chosen_degrees present d) n → Found f n K m d y present
  every_message_is_found n K m d y present h hy l =
      record {
        r = stop.0;
        t = stop.1;
        r_polynomial = stop.2.r_polynomial;
        t_polynomial = stop.2.t_polynomial;
        t_degree = stop.2.t_degree;
        t_has = stop.2.t_has;
        finds =
            λ a wrong ha ka le right.
            let hw = chosen_moduli f L n m d wrong h in
            let hΛ = moduli_polynomial f L n (chosen wrong m) (chosen_degrees wrong d) hw in
            reconstruction_stands D K (total (chosen_degrees wrong d) n) M word (product_of f (chosen wrong m) n) a stop.0 stop.1 hM W.joined.polynomial hΛ ha
            gM (moduli_degree f L n (chosen wrong m) (chosen_degrees wrong d) hw) le ka stop.2
            (joined_agrees f L n (chosen present m) (chosen_degrees present d) y word a (product_of f (chosen wrong m) n) here hy ha hΛ W.joined
            (wrong_explains f L n m d y a present wrong h hy ha right));
      }
    where
      here : Moduli f n (chosen present m) (chosen_degrees present d)
      here = chosen_moduli f L n m d present h

      W : OneJoined f n (chosen present m) (chosen_degrees present d) y
      W = residues_join n (chosen present m) (chosen_degrees present d) y here hy

      word : ℕ → ℕ
      word = W.word

      D : ℕ
      D = total (chosen_degrees present d) n

      M : ℕ → ℕ
      M = product_of f (chosen present m) n

      hM : IsPolynomial f M
      hM = moduli_polynomial f L n (chosen present m) (chosen_degrees present d) here

      gM : HasDegree D M
      gM = moduli_degree f L n (chosen present m) (chosen_degrees present d) here

      stop : (r : ℕ → ℕ) × (t : ℕ → ℕ) × Stopped f D K M word r t
      stop = euclid_stops D K M word hM W.joined.polynomial gM W.joined.below l
