-- Euclid's extended algorithm, reconstruction, uniqueness and the joining of residues, on coefficient functions.
use Rattle.std.proofs.Common.{◌≡◌, ℕ, ◌+◌, ◌*◌, ◌<◌, ◌≤◌, sym, ap, ◌∙◌, arith}
use Rattle.algebra.specs.Abstract.{Ring, Code}
use Rattle.algebra.specs.Field.{Arithmetic, FieldLaws}
use Rattle.algebra.specs.Polynomial.{Below, HasDegree, add, subtract, multiply, IsPolynomial, Divides, ShareFactor, IsDivision}
use Rattle.algebra.specs.Moduli.{monomial, one, nought, Congruent, Coprime, product_of, PairwiseCoprime}
use Rattle.algebra.proofs.Polynomials.{Poly, 𝓟, term}
use Rattle.algebra.proofs.Euclid as theory_euclid
use Rattle.algebra.proofs.Reconstruction as theory
use Rattle.algebra.proofs.Codes.{𝓒, code_field, lift, codes_of, codes_polynomial, same_codes, codes_one, codes_term, codes_product, codes_combination, under_from, below_from, degree_from, has_degree_from, share_factor_from, coded_coprime_from}
use Rattle.algebra.proofs.Coefficients.{lift_add, lift_subtract, lift_multiply, lift_one, lift_nought, add_polynomial, subtract_polynomial, multiply_polynomial, one_polynomial, nought_polynomial, multiply_subtract, degree_one_only}
use Rattle.algebra.proofs.Residues.{division_up, divides_up, congruent_up, congruent_down, remainder_congruent, product_of_polynomial, product_of_up, pairwise_up, all_divide}

module _ (f : Arithmetic) (L : FieldLaws f) where
  abbrev 𝓠 : Ring (Poly (𝓒 f L))
  𝓠 = 𝓟 (𝓒 f L)

  abbrev up : (p : ℕ → ℕ) → IsPolynomial f p → Poly (𝓒 f L)
  up = lift f L

  abbrev Is : (ℕ → ℕ) → Type 0
  Is = IsPolynomial f

  -- A state of the extended algorithm on M, of degree D, and Y: two remainders that follow one another, and the factors of
  -- Y in them. It is made by `euclid_start` and `euclid_step` and read by what follows them.
  pub record Euclidean (D : ℕ) (M Y previous remainder t_previous t : ℕ → ℕ) : Type 0 where
    pub M_polynomial : Is M
    pub Y_polynomial : Is Y
    pub previous_polynomial : Is previous
    pub remainder_polynomial : Is remainder
    pub t_previous_polynomial : Is t_previous
    pub t_polynomial : Is t
    pub run :
        theory_euclid.Run (𝓒 f L) D (up M M_polynomial) (up Y Y_polynomial) (up previous previous_polynomial)
        (up remainder remainder_polynomial) (up t_previous t_previous_polynomial) (up t t_polynomial)

  pub euclid_start : (D : ℕ) (M Y : ℕ → ℕ) → Is M → Is Y → HasDegree D M → Below D Y → Euclidean D M Y M Y nought one
  euclid_start D M Y hM hY h k =
      record {
        M_polynomial = hM;
        Y_polynomial = hY;
        previous_polynomial = hM;
        remainder_polynomial = hY;
        t_previous_polynomial = nought_polynomial f L;
        t_polynomial = one_polynomial f L;
        run =
            rw (lift_nought f L (nought_polynomial f L), lift_one f L (one_polynomial f L))
            (theory_euclid.run_start (𝓒 f L) D (up M hM) (up Y hY) (degree_from f L D (up M hM) h) (under_from f L D (up Y hY) k));
      }

  -- One step: the previous remainder divided by the present one, and t_previous - q·t.
  pub euclid_step : (D e : ℕ) (M Y p r t₀ t q n : ℕ → ℕ) → Euclidean D M Y p r t₀ t → HasDegree e r → IsDivision f e p r q n
      → Euclidean D M Y r n t (subtract f t₀ (multiply f q t))
  euclid_step D e M Y p r t₀ t q n I h V =
      let hq = V.quotient_polynomial in
      let hn = V.remainder_polynomial in
      let hr = I.remainder_polynomial in
      let ht = I.t_polynomial in
      let ht₀ = I.t_previous_polynomial in
      let hqt = multiply_polynomial f L q t hq ht in
      let hnew = subtract_polynomial f L t₀ (multiply f q t) ht₀ hqt in
      record {
        M_polynomial = I.M_polynomial;
        Y_polynomial = I.Y_polynomial;
        previous_polynomial = hr;
        remainder_polynomial = hn;
        t_previous_polynomial = ht;
        t_polynomial = hnew;
        run =
            rw (lift_subtract f L t₀ (multiply f q t) ht₀ hqt hnew, lift_multiply f L q t hq ht hqt)
            (theory_euclid.run_step (𝓒 f L) D e (up M I.M_polynomial) (up Y I.Y_polynomial) (up p I.previous_polynomial) (up r hr)
            (up t₀ ht₀) (up t ht) (up q hq) (up n hn) I.run (degree_from f L e (up r hr) h) (under_from f L e (up n hn) V.remainder_below)
            (division_up f L e p r q n I.previous_polynomial hr V));
      }

  -- The degrees at a state: deg t + deg previous = D, and the remainder is lower than the previous one.
  pub record EuclidDegrees (D : ℕ) (previous remainder t : ℕ → ℕ) : Type 0 where
    pub t_degree : ℕ
    pub previous_degree : ℕ
    pub t_has : HasDegree t_degree t
    pub previous_has : HasDegree previous_degree previous
    pub remainder_below : Below previous_degree remainder
    pub sum_is : t_degree + previous_degree ≡ D

  pub euclid_degrees : (D : ℕ) (M Y p r t₀ t : ℕ → ℕ) → Euclidean D M Y p r t₀ t → EuclidDegrees D p r t
  euclid_degrees D M Y p r t₀ t I =
      record {
        t_degree = I.run.t_degree;
        previous_degree = I.run.previous_degree;
        t_has = has_degree_from f L I.run.t_degree (up t I.t_polynomial) I.run.t_has;
        previous_has = has_degree_from f L I.run.previous_degree (up p I.previous_polynomial) I.run.previous_has;
        remainder_below = below_from f L I.run.previous_degree (up r I.remainder_polynomial) I.run.remainder_under;
        sum_is = I.run.total;
      }

  -- The remainder is s·M + t·Y for some s.
  pub euclid_combination : (D : ℕ) (M Y p r t₀ t : ℕ → ℕ) → Euclidean D M Y p r t₀ t
      → (s : ℕ → ℕ) × Is s × (r ≡ add f (multiply f s M) (multiply f t Y))
  euclid_combination D M Y p r t₀ t I =
      let S = I.run.s in (
        codes_of f L S,
        codes_polynomial f L S,
        ap (codes_of f L) I.run.remainder_is ∙ codes_combination f L S (up M I.M_polynomial) (up t I.t_polynomial) (up Y I.Y_polynomial),
      )

  -- Where the remainder is 0 and the one before it has degree 1 or more, M and Y share it.
  pub euclid_shared : (D d : ℕ) (M Y p t₀ t : ℕ → ℕ) → Euclidean D M Y p nought t₀ t → HasDegree d p → 1 ≤ d → ShareFactor f M Y
  euclid_shared D d M Y p t₀ t I h l =
      share_factor_from f L (up M I.M_polynomial) (up Y I.Y_polynomial)
      (theory_euclid.run_shared (𝓒 f L) D d (up M I.M_polynomial) (up Y I.Y_polynomial) (up p I.previous_polynomial)
      (up t₀ I.t_previous_polynomial) (up t I.t_polynomial)
      (rw (lift_nought f L I.remainder_polynomial) at I.run)
      (degree_from f L d (up p I.previous_polynomial) h) l)

  -- A constant other than 0 has an inverse.
  pub constant_inverse : (p : ℕ → ℕ) → Is p → HasDegree 0 p → multiply f (monomial (f.inverse (p 0)) 0) p ≡ one
  unfolding code_field
  constant_inverse p hp h =
      let c : Code f.order = (f.inverse (p 0), L.inverse_below (p 0)) in
      let C = term (𝓒 f L).ring c 0 in
      ap (λ (m : ℕ → ℕ). multiply f m p) (sym (codes_term f L c 0))
      ∙ sym (codes_product f L C (up p hp))
      ∙ ap (codes_of f L) (theory_euclid.constant_inverse (𝓒 f L) (up p hp) (degree_from f L 0 (up p hp) h))
      ∙ codes_one f L

  -- If c·previous = 1, then c·t_previous is the inverse of Y modulo M.
  pub euclid_inverse : (D : ℕ) (M Y p r t₀ t c : ℕ → ℕ) → Euclidean D M Y p r t₀ t → Is c → multiply f c p ≡ one
      → Congruent f M (multiply f (multiply f c t₀) Y) one
  euclid_inverse D M Y p r t₀ t c I hc e =
      let hM = I.M_polynomial in
      let hY = I.Y_polynomial in
      let hp = I.previous_polynomial in
      let ht₀ = I.t_previous_polynomial in
      let hct = multiply_polynomial f L c t₀ hc ht₀ in
      let hcty = multiply_polynomial f L (multiply f c t₀) Y hct hY in
      congruent_down f L M (multiply f (multiply f c t₀) Y) one hM hcty (one_polynomial f L)
      (rw (lift_multiply f L (multiply f c t₀) Y hct hY hcty, lift_multiply f L c t₀ hc ht₀ hct, lift_one f L (one_polynomial f L))
      (theory_euclid.run_inverse (𝓒 f L) D (up M hM) (up Y hY) (up p hp) (up r I.remainder_polynomial) (up t₀ ht₀) (up t I.t_polynomial) (up c hc)
      I.run (same_codes f L _ _ (codes_product f L (up c hc) (up p hp) ∙ e ∙ sym (codes_one f L)))))

  -- A remainder that is a constant other than 0: M and Y are coprime.
  pub euclid_coprime : (D : ℕ) (M Y p r t₀ t : ℕ → ℕ) → Euclidean D M Y p r t₀ t → HasDegree 0 p → Coprime f M Y
  euclid_coprime D M Y p r t₀ t I h =
      let hp = I.previous_polynomial in
      let C = term (𝓒 f L).ring ((𝓒 f L).inverse ((up p hp).0 0)) 0 in
      coded_coprime_from f L (up M I.M_polynomial) (up Y I.Y_polynomial)
      (theory_euclid.run_coprime (𝓒 f L) D (up M I.M_polynomial) (up Y I.Y_polynomial) (up p hp) (up r I.remainder_polynomial)
      (up t₀ I.t_previous_polynomial) (up t I.t_polynomial) C I.run
      (theory_euclid.constant_inverse (𝓒 f L) (up p hp) (degree_from f L 0 (up p hp) h)))

  -- Reconstruction. M has degree D; a is below K; the word Y agrees with a modulo M but for a factor Λ of degree e with
  -- 2e + K ≤ D; r = s·M + t·Y is the first remainder of degree less than (D + K)/2, so that deg t = D - n where n, the degree
  -- of the one before, is not less. Then r = t·a.
  pub reconstruct : (D K e h n d : ℕ) (M Y Λ a r s t : ℕ → ℕ) → Is M → Is Y → Is Λ → Is a → Is r → Is s → Is t
      → HasDegree D M → HasDegree e Λ → 2 * e + K ≤ D → Below K a → Below h r → 2 * h ≤ D + K + 1 → HasDegree d t → d + n ≡ D → D + K ≤ 2 * n
      → r ≡ add f (multiply f s M) (multiply f t Y) → Congruent f M (multiply f Λ Y) (multiply f Λ a) → r ≡ multiply f t a
  reconstruct D K e h n d M Y Λ a r s t hM hY hΛ ha hr hs ht gM gΛ l ka kr l₁ gt l₂ l₃ is agrees =
      ap (codes_of f L)
      (theory.reconstruct (𝓒 f L) D K e h n d (up M hM) (up Y hY) (up Λ hΛ) (up a ha) (up r hr) (up s hs) (up t ht)
      (degree_from f L D (up M hM) gM) (degree_from f L e (up Λ hΛ) gΛ) l (under_from f L K (up a ha) ka) (under_from f L h (up r hr) kr) l₁
      (degree_from f L d (up t ht) gt) l₂ l₃
      (same_codes f L _ _
      (is ∙ sym (codes_combination f L (up s hs) (up M hM) (up t ht) (up Y hY))))
      (agrees_up M Y Λ a hM hY hΛ ha agrees))
      ∙ codes_product f L (up t ht) (up a ha)
    where
      agrees_up : (M Y Λ a : ℕ → ℕ) (hM : Is M) (hY : Is Y) (hΛ : Is Λ) (ha : Is a) → Congruent f M (multiply f Λ Y) (multiply f Λ a)
          → theory.Agree 𝓠 (up M hM) (up Y hY) (up Λ hΛ) (up a ha)
      agrees_up M Y Λ a hM hY hΛ ha h =
          rw (lift_multiply f L Λ Y hΛ hY (multiply_polynomial f L Λ Y hΛ hY), lift_multiply f L Λ a hΛ ha (multiply_polynomial f L Λ a hΛ ha)) at
          (congruent_up f L M (multiply f Λ Y) (multiply f Λ a) hM (multiply_polynomial f L Λ Y hΛ hY) (multiply_polynomial f L Λ a hΛ ha) h)

  -- The same at a state of the extended algorithm.
  pub euclid_reconstructs : (D K e h n : ℕ) (M Y Λ a p r t₀ t : ℕ → ℕ) → Euclidean D M Y p r t₀ t → Is Λ → Is a
      → HasDegree D M → HasDegree e Λ → 2 * e + K ≤ D → Below K a → Below h r → 2 * h ≤ D + K + 1 → HasDegree n p → D + K ≤ 2 * n
      → Congruent f M (multiply f Λ Y) (multiply f Λ a) → r ≡ multiply f t a
  euclid_reconstructs D K e h n M Y Λ a p r t₀ t I hΛ ha gM gΛ l ka kr l₁ gp l₃ agrees =
      let G = euclid_degrees D M Y p r t₀ t I in
      let S = euclid_combination D M Y p r t₀ t I in
      let same = degree_one_only n G.previous_degree p gp G.previous_has in
      let all = G.sum_is in
      reconstruct D K e h n G.t_degree M Y Λ a r S.0 t I.M_polynomial I.Y_polynomial hΛ ha I.remainder_polynomial S.1 I.t_polynomial
      gM gΛ l ka kr l₁ G.t_has (omega arith) l₃ S.2 agrees

  -- What divides Λ·(y - a), for lifted polynomials.
  explained_up : (m y a Λ : ℕ → ℕ) (hm : Is m) (hy : Is y) (ha : Is a) (hΛ : Is Λ) → Divides f m (multiply f Λ (subtract f y a))
      → theory.Explained 𝓠 (up m hm) (up y hy) (up a ha) (up Λ hΛ)
  explained_up m y a Λ hm hy ha hΛ h =
      let hya = subtract_polynomial f L y a hy ha in
      rw (lift_multiply f L Λ (subtract f y a) hΛ hya (multiply_polynomial f L Λ (subtract f y a) hΛ hya), lift_subtract f L y a hy ha hya) at
      (divides_up f L m (multiply f Λ (subtract f y a)) hm (multiply_polynomial f L Λ (subtract f y a) hΛ hya) h)

  -- Two messages below K that explain one word, with error factors of degrees e and e', are equal if e + e' + K ≤ deg M.
  pub unique : (D K e e' : ℕ) (M y a b Λ Λ' : ℕ → ℕ) → Is M → Is y → Is a → Is b → Is Λ → Is Λ'
      → HasDegree D M → HasDegree e Λ → HasDegree e' Λ' → e + e' + K ≤ D → Below K a → Below K b
      → Divides f M (multiply f Λ (subtract f y a)) → Divides f M (multiply f Λ' (subtract f y b)) → a ≡ b
  unique D K e e' M y a b Λ Λ' hM hy ha hb hΛ hΛ' gM gΛ gΛ' l ka kb h k =
      ap (codes_of f L)
      (theory.unique (𝓒 f L) D K e e' (up M hM) (up y hy) (up a ha) (up b hb) (up Λ hΛ) (up Λ' hΛ')
      (degree_from f L D (up M hM) gM) (degree_from f L e (up Λ hΛ) gΛ) (degree_from f L e' (up Λ' hΛ') gΛ') l
      (under_from f L K (up a ha) ka) (under_from f L K (up b hb) kb)
      (explained_up M y a Λ hM hy ha hΛ h) (explained_up M y b Λ' hM hy hb hΛ' k))

  -- The same for n pairwise coprime moduli m i with a residue y i each.
  pub unique_residues : (D K e e' n : ℕ) (m y : ℕ → ℕ → ℕ) (a b Λ Λ' : ℕ → ℕ) → ((i : ℕ) → Is (m i)) → ((i : ℕ) → Is (y i))
      → Is a → Is b → Is Λ → Is Λ' → PairwiseCoprime f m n → HasDegree D (product_of f m n) → HasDegree e Λ → HasDegree e' Λ'
      → e + e' + K ≤ D → Below K a → Below K b
      → ((i : ℕ) → i < n → Divides f (m i) (multiply f Λ (subtract f (y i) a)))
      → ((i : ℕ) → i < n → Divides f (m i) (multiply f Λ' (subtract f (y i) b))) → a ≡ b
  unique_residues D K e e' n m y a b Λ Λ' hm hy ha hb hΛ hΛ' c gM gΛ gΛ' l ka kb h k =
      let hM = product_of_polynomial f L m n hm in
      ap (codes_of f L)
      (theory.unique_residues (𝓒 f L) D K e e' n (λ i. up (m i) (hm i)) (λ i. up (y i) (hy i)) (up a ha) (up b hb) (up Λ hΛ) (up Λ' hΛ')
      (pairwise_up f L m n hm c)
      (rw (product_of_up f L m n hm hM) at (degree_from f L D (up (product_of f m n) hM) gM))
      (degree_from f L e (up Λ hΛ) gΛ) (degree_from f L e' (up Λ' hΛ') gΛ') l
      (under_from f L K (up a ha) ka) (under_from f L K (up b hb) kb)
      (λ i g. explained_up (m i) (y i) a Λ (hm i) (hy i) ha hΛ (h i g))
      (λ i g. explained_up (m i) (y i) b Λ' (hm i) (hy i) hb hΛ' (k i g)))

  -- A word that agrees with a but for Λ modulo each of pairwise coprime moduli does so modulo their product.
  pub agrees_everywhere : (n : ℕ) (m : ℕ → ℕ → ℕ) (Y a Λ : ℕ → ℕ) → ((i : ℕ) → Is (m i)) → Is Y → Is a → Is Λ → PairwiseCoprime f m n
      → ((i : ℕ) → i < n → Divides f (m i) (multiply f Λ (subtract f Y a))) → Congruent f (product_of f m n) (multiply f Λ Y) (multiply f Λ a)
  agrees_everywhere n m Y a Λ hm hY ha hΛ c h =
      rw (multiply_subtract f L Λ Y a hΛ hY ha) at
      (all_divide f L m n (multiply f Λ (subtract f Y a)) hm (multiply_polynomial f L Λ (subtract f Y a) hΛ (subtract_polynomial f L Y a hY ha)) c h)

  -- Residues joined: Y stands for those so far, modulo M; w is the inverse of M modulo m; y is the residue modulo m; c is the
  -- remainder of (y - Y)·w by m. Then Y + M·c is congruent to Y modulo M and to y modulo m, and is below deg M + deg m.
  abbrev pub joined : (ℕ → ℕ) → (ℕ → ℕ) → (ℕ → ℕ) → ℕ → ℕ
  joined M Y c = add f Y (multiply f M c)

  pub joined_polynomial : (M Y c : ℕ → ℕ) → Is M → Is Y → Is c → Is (joined M Y c)
  joined_polynomial M Y c hM hY hc = add_polynomial f L Y (multiply f M c) hY (multiply_polynomial f L M c hM hc)

  joined_up : (M Y c : ℕ → ℕ) (hM : Is M) (hY : Is Y) (hc : Is c)
      → up (joined M Y c) (joined_polynomial M Y c hM hY hc) ≡ 𝓠.sum (up Y hY) (𝓠.product (up M hM) (up c hc))
  joined_up M Y c hM hY hc =
      lift_add f L Y (multiply f M c) hY (multiply_polynomial f L M c hM hc) (joined_polynomial M Y c hM hY hc)
      ∙ ap (𝓠.sum (up Y hY)) (lift_multiply f L M c hM hc (multiply_polynomial f L M c hM hc))

  pub joined_old : (M Y c : ℕ → ℕ) → Is M → Is Y → Is c → Congruent f M (joined M Y c) Y
  joined_old M Y c hM hY hc =
      congruent_down f L M (joined M Y c) Y hM (joined_polynomial M Y c hM hY hc) hY
      (rw (joined_up M Y c hM hY hc) (theory.joined_old 𝓠 (up M hM) (up Y hY) (up c hc)))

  pub joined_new : (d : ℕ) (m M w Y y q c : ℕ → ℕ) → Is m → Is M → Is w → Is Y → Is y → Congruent f m (multiply f w M) one
      → IsDivision f d (multiply f (subtract f y Y) w) m q c → Congruent f m (joined M Y c) y
  joined_new d m M w Y y q c hm hM hw hY hy h V =
      let hc = V.remainder_polynomial in
      let hyY = subtract_polynomial f L y Y hy hY in
      let hyYw = multiply_polynomial f L (subtract f y Y) w hyY hw in
      let hwM = multiply_polynomial f L w M hw hM in
      congruent_down f L m (joined M Y c) y hm (joined_polynomial M Y c hM hY hc) hy
      (rw (joined_up M Y c hM hY hc)
      (theory.joined_new 𝓠 (up m hm) (up M hM) (up w hw) (up Y hY) (up y hy) (up c hc)
      (rw (lift_multiply f L w M hw hM hwM, lift_one f L (one_polynomial f L)) at (congruent_up f L m (multiply f w M) one hm hwM (one_polynomial f L) h))
      (rw (lift_multiply f L (subtract f y Y) w hyY hw hyYw, lift_subtract f L y Y hy hY hyY) at
      (congruent_up f L m (multiply f (subtract f y Y) w) c hm hyYw hc
      (remainder_congruent f L d (multiply f (subtract f y Y) w) m q c hm V)))))

  pub joined_below : (D d : ℕ) (M Y c : ℕ → ℕ) → Is M → Is Y → Is c → HasDegree D M → Below D Y → Below d c → Below (D + d) (joined M Y c)
  joined_below D d M Y c hM hY hc gM kY kc =
      below_from f L (D + d) (up (joined M Y c) (joined_polynomial M Y c hM hY hc))
      (rw (joined_up M Y c hM hY hc)
      (theory.joined_under (𝓒 f L) D d (up M hM) (up Y hY) (up c hc) (degree_from f L D (up M hM) gM) (under_from f L D (up Y hY) kY)
      (under_from f L d (up c hc) kc)))
