-- Euclid's algorithm: greatest common divisors exist, so that two polynomials are coprime or share a factor; and what the
-- extended algorithm keeps at every step.
use Rattle.std.proofs.Common.{◌≡◌, ℕ, zero, suc, ◌+◌, ◌-◌, ◌≤◌, ◌⊎◌, sym, ◌∙◌, inl, inr, arith}
use mathlib.Core.Path.{fun_ext}
use Rattle.algebra.specs.Abstract.{Ring, Field}
use Rattle.algebra.proofs.Rings.{ring, cancel, plus_zero, zero_plus, plus_comm, times_comm, one_times, zero_times, times_zero, difference, difference_plus}
use Rattle.algebra.proofs.Polynomials.{Poly, 𝓟, Under, Degree, term, term_from, of_one, same_coefficients, zero_or_degree, degree_one, degree_term, degree_under, degree_less, degree_difference, degree_product, under_more, under_zero, zero_under, first_bound}
use Rattle.algebra.proofs.Division.{divide, quotient_degree}
use Rattle.algebra.proofs.Modulo.{Divides, Congruent, Coprime, congruent_by, congruent_sym, divides_self, divides_zero, divides_sum, divides_multiple, coprime_common, divisor_degree}

module _ {R : Type 0} (𝓡 : Ring R) where
  open 𝓡 use {𝟎, 𝟏, sum as ◌⊕◌, product as ◌·◌}

  infixl 60 ◌⊕◌
  infixl 70 ◌·◌
  -- A common divisor that is a sum of multiples of the two, hence the greatest.
  pub record Gcd (m n : R) : Type 0 where
    pub gcd : R
    pub left : R
    pub right : R
    pub is : gcd ≡ left · m ⊕ right · n
    pub divides_left : Divides 𝓡 gcd m
    pub divides_right : Divides 𝓡 gcd n

  -- How a = 1·a + 0·b and b = 0·a + 1·b.
  pub left_of_two : (a b : R) → a ≡ 𝟏 · a ⊕ 𝟎 · b
  left_of_two a b = sym (cc (one_times 𝓡 a, zero_times 𝓡 b, plus_zero 𝓡 a))

  pub right_of_two : (a b : R) → b ≡ 𝟎 · a ⊕ 𝟏 · b
  right_of_two a b = sym (cc (one_times 𝓡 b, zero_times 𝓡 a, zero_plus 𝓡 b))

  gcd_zero : (m : R) → Gcd m 𝟎
  gcd_zero m =
      record {
        gcd = m;
        left = 𝟏;
        right = 𝟎;
        is = left_of_two m 𝟎;
        divides_left = divides_self 𝓡 m;
        divides_right = divides_zero 𝓡 m;
      }

  -- From n and the remainder r of m by n to m and n.
  gcd_step : (m n q r : R) → m ≡ q · n ⊕ r → Gcd n r → Gcd m n
  gcd_step m n q r e G =
      record {
        gcd = G.gcd;
        left = G.right;
        right = difference 𝓡 G.left (G.right · q);
        is = go G.left G.right (difference 𝓡 G.left (G.right · q)) G.is (difference_plus 𝓡 G.left (G.right · q));
        divides_left =
            rw e (divides_sum 𝓡 G.gcd (q · n) r (divides_multiple 𝓡 G.gcd n q G.divides_left) G.divides_right);
        divides_right = G.divides_left;
      }
    where
      go : (u v w : R) → G.gcd ≡ u · n ⊕ v · r → w ⊕ v · q ≡ u → G.gcd ≡ v · m ⊕ w · n
      go u v w f g =
          let x : v · (q · n ⊕ r) ⊕ w · n ≡ (w ⊕ v · q) · n ⊕ v · r = simp ring in
          cc

  -- A next remainder is again a sum of multiples of M and Y.
  combine : (M Y q p r n s₀ s s₁ t₀ t t₁ : R) → p ≡ s₀ · M ⊕ t₀ · Y → r ≡ s · M ⊕ t · Y → p ≡ q · r ⊕ n
      → s₁ ⊕ q · s ≡ s₀ → t₁ ⊕ q · t ≡ t₀ → n ≡ s₁ · M ⊕ t₁ · Y
  combine M Y q p r n s₀ s s₁ t₀ t t₁ e f g hs ht =
      let x : q · (s · M ⊕ t · Y) ⊕ (s₁ · M ⊕ t₁ · Y) ≡ (s₁ ⊕ q · s) · M ⊕ (t₁ ⊕ q · t) · Y = simp ring in
      cancel 𝓡 (q · r) n (s₁ · M ⊕ t₁ · Y) cc

  scaled_combination : (c g u v m n : R) → g ≡ u · m ⊕ v · n → c · g ≡ c · u · m ⊕ c · v · n
  scaled_combination c g u v m n e = rw e (simp ring)

module _ {E : Type 0} (𝓕 : Field E) where
  open 𝓕 use {ring as 𝓡, inverse, product_inverse}
  open 𝓟 𝓕 use {𝟎, 𝟏, sum as ◌⊕◌, product as ◌·◌}

  infixl 60 ◌⊕◌ ◌⊖◌
  infixl 70 ◌·◌
  abbrev ◌⊖◌ : Poly 𝓕 → Poly 𝓕 → Poly 𝓕
  a ⊖ b = difference (𝓟 𝓕) a b

  gcd_under : (k : ℕ) (m n : Poly 𝓕) → Under 𝓕 k n → Gcd (𝓟 𝓕) m n
  gcd_under zero m n h = rw (under_zero 𝓕 n h) (gcd_zero (𝓟 𝓕) m)
  gcd_under (suc k) m n h =
      elim (zero_or_degree 𝓕 n) [
        | inl z ↦ rw z (gcd_zero (𝓟 𝓕) m)
        | inr u ↦
            let D = divide 𝓕 u.0 n m u.1 in
            let l = degree_less 𝓕 u.0 (suc k) n u.1 h in
            gcd_step (𝓟 𝓕) m n D.quotient D.remainder D.is
            (gcd_under k n D.remainder (under_more 𝓕 u.0 k D.remainder (omega arith) D.remainder_under))
      ]

  -- Any two polynomials have a greatest common divisor, and it is a sum of multiples of the two.
  pub gcd_exists : (m n : Poly 𝓕) → Gcd (𝓟 𝓕) m n
  gcd_exists m n = gcd_under (first_bound 𝓕 n).0 m n (record { ends = (first_bound 𝓕 n).1.0 })

  -- A polynomial of degree 0 is a constant other than 0, and has an inverse.
  pub constant_inverse : (g : Poly 𝓕) → Degree 𝓕 0 g → term 𝓡 (inverse (g.0 0)) 0 · g ≡ 𝟏
  constant_inverse g h = same_coefficients 𝓡 (term 𝓡 c 0 · g) 𝟏 (fun_ext each ∙ sym (of_one 𝓡))
    where
      c : E
      c = inverse (g.0 0)

      each : (n : ℕ) → (term 𝓡 c 0 · g).0 n ≡ (term 𝓡 𝓡.𝟏 0).0 n
      each zero = cc (term_from 𝓡 c 0 g 0 0 (omega arith), times_comm 𝓡 c (g.0 0), product_inverse (g.0 0) h.has.top)
      each (suc n) = cc (term_from 𝓡 c 0 g (suc n) (suc n) (omega arith), h.has.ends (suc n) (omega arith), times_zero 𝓡 c)

  -- A common divisor of degree 1 or more.
  pub record Shared (m n : Poly 𝓕) : Type 0 where
    pub factor : Poly 𝓕
    pub degree : ℕ
    pub degree_least : 1 ≤ degree
    pub has_degree : Degree 𝓕 degree factor
    pub divides_left : Divides (𝓟 𝓕) factor m
    pub divides_right : Divides (𝓟 𝓕) factor n

  pub shared_or_coprime : (m n : Poly 𝓕) → Shared m n ⊎ Coprime (𝓟 𝓕) m n
  shared_or_coprime m n = go (gcd_exists m n)
    where
      -- What 0 divides is 0.
      only_zero : (g a : Poly 𝓕) → g ≡ 𝟎 → Divides (𝓟 𝓕) g a → a ≡ 𝟎
      only_zero g a z h = cc (h.is, times_zero (𝓟 𝓕) h.by)

      z_divides : (g a : Poly 𝓕) → g ≡ 𝟎 → Divides (𝓟 𝓕) g a → Divides (𝓟 𝓕) (term 𝓡 𝓡.𝟏 1) a
      z_divides g a z h = rw (only_zero g a z h) (divides_zero (𝓟 𝓕) (term 𝓡 𝓡.𝟏 1))

      by_degree : (G : Gcd (𝓟 𝓕) m n) (d : ℕ) → Degree 𝓕 d G.gcd → Shared m n ⊎ Coprime (𝓟 𝓕) m n
      by_degree G zero h =
          let c = term 𝓡 (inverse (G.gcd.0 0)) 0 in
          inr (record {
            left = c · G.left;
            right = c · G.right;
            is = sym (scaled_combination (𝓟 𝓕) c G.gcd G.left G.right m n G.is) ∙ constant_inverse G.gcd h;
          })
      by_degree G (suc d) h =
          inl (record {
            factor = G.gcd;
            degree = suc d;
            degree_least = omega arith;
            has_degree = h;
            divides_left = G.divides_left;
            divides_right = G.divides_right;
          })

      go : Gcd (𝓟 𝓕) m n → Shared m n ⊎ Coprime (𝓟 𝓕) m n
      go G =
          elim (zero_or_degree 𝓕 G.gcd) [
            | inl z ↦
                inl (record {
                  factor = term 𝓡 𝓡.𝟏 1;
                  degree = 1;
                  degree_least = omega arith;
                  has_degree = degree_term 𝓕 𝓡.𝟏 1 𝓕.one_not_zero;
                  divides_left = z_divides G.gcd m z G.divides_left;
                  divides_right = z_divides G.gcd n z G.divides_right;
                })
            | inr u ↦ by_degree G u.0 u.1
          ]

  pub coprime_not_shared : (m n : Poly 𝓕) → Coprime (𝓟 𝓕) m n → ¬ (Shared m n)
  coprime_not_shared m n c S =
      let h = coprime_common (𝓟 𝓕) m n S.factor c S.divides_left S.divides_right in
      let l = divisor_degree 𝓕 S.degree 0 S.factor 𝟏 S.has_degree (degree_one 𝓕) h in
      let one = S.degree_least in
      omega arith

  -- A state of the extended algorithm on M, of degree D, and Y: two remainders that follow one another, and the factors
  -- of Y in them. The factors of M are known to exist and never needed.
  pub record Run (D : ℕ) (M Y previous remainder t_previous t : Poly 𝓕) : Type 0 where
    pub s_previous : Poly 𝓕
    pub s : Poly 𝓕
    pub previous_is : previous ≡ s_previous · M ⊕ t_previous · Y
    pub remainder_is : remainder ≡ s · M ⊕ t · Y
    pub t_degree : ℕ
    pub t_has : Degree 𝓕 t_degree t
    pub t_previous_under : Under 𝓕 t_degree t_previous
    pub previous_degree : ℕ
    pub previous_has : Degree 𝓕 previous_degree previous
    pub remainder_under : Under 𝓕 previous_degree remainder
    pub total : t_degree + previous_degree ≡ D
    pub common : (g : Poly 𝓕) → Divides (𝓟 𝓕) g previous → Divides (𝓟 𝓕) g remainder → Divides (𝓟 𝓕) g M × Divides (𝓟 𝓕) g Y

  pub run_start : (D : ℕ) (M Y : Poly 𝓕) → Degree 𝓕 D M → Under 𝓕 D Y → Run D M Y M Y 𝟎 𝟏
  run_start D M Y hM hY =
      record {
        s_previous = 𝟏;
        s = 𝟎;
        previous_is = left_of_two (𝓟 𝓕) M Y;
        remainder_is = right_of_two (𝓟 𝓕) M Y;
        t_degree = 0;
        t_has = degree_one 𝓕;
        t_previous_under = zero_under 𝓕 0;
        previous_degree = D;
        previous_has = hM;
        remainder_under = hY;
        total = omega arith;
        common = λ g h k. (h, k);
      }

  -- One step, with any division of the previous remainder by the present one.
  pub run_step : (D e : ℕ) (M Y p r t₀ t q n : Poly 𝓕) → Run D M Y p r t₀ t → Degree 𝓕 e r → Under 𝓕 e n → p ≡ q · r ⊕ n
      → Run D M Y r n t (t₀ ⊖ q · t)
  run_step D e M Y p r t₀ t q n I hr hn eq =
      let l = degree_less 𝓕 e I.previous_degree r hr I.remainder_under in
      let hq = quotient_degree 𝓕 I.previous_degree e p r q n I.previous_has hr (omega arith) hn eq in
      let all = I.total in
      let k = I.previous_degree - e + I.t_degree in
      record {
        s_previous = I.s;
        s = I.s_previous ⊖ q · I.s;
        previous_is = I.remainder_is;
        remainder_is =
            combine (𝓟 𝓕) M Y q p r n I.s_previous I.s (I.s_previous ⊖ q · I.s) t₀ t (t₀ ⊖ q · t) I.previous_is I.remainder_is eq
            (difference_plus (𝓟 𝓕) I.s_previous (q · I.s)) (difference_plus (𝓟 𝓕) t₀ (q · t));
        t_degree = k;
        t_has =
            degree_difference 𝓕 k t₀ (q · t) (under_more 𝓕 I.t_degree k t₀ (omega arith) I.t_previous_under)
            (degree_product 𝓕 (I.previous_degree - e) I.t_degree q t hq I.t_has);
        t_previous_under = under_more 𝓕 (suc I.t_degree) k t (omega arith) (degree_under 𝓕 I.t_degree t I.t_has);
        previous_degree = e;
        previous_has = hr;
        remainder_under = hn;
        total = omega arith;
        common = λ g h j. I.common g (rw eq (divides_sum (𝓟 𝓕) g (q · r) n (divides_multiple (𝓟 𝓕) g r q h) j)) h;
      }

  -- Where the remainder is 0, the previous one divides both.
  pub run_divides : (D : ℕ) (M Y p t₀ t : Poly 𝓕) → Run D M Y p 𝟎 t₀ t → Divides (𝓟 𝓕) p M × Divides (𝓟 𝓕) p Y
  run_divides D M Y p t₀ t I = I.common p (divides_self (𝓟 𝓕) p) (divides_zero (𝓟 𝓕) p)

  -- If that one has degree 1 or more, M and Y share it.
  pub run_shared : (D d : ℕ) (M Y p t₀ t : Poly 𝓕) → Run D M Y p 𝟎 t₀ t → Degree 𝓕 d p → 1 ≤ d → Shared M Y
  run_shared D d M Y p t₀ t I h l =
      let both = run_divides D M Y p t₀ t I in
      record { factor = p; degree = d; degree_least = l; has_degree = h; divides_left = both.0; divides_right = both.1 }

  -- A remainder that is 1 up to a factor c shows that M and Y are coprime.
  pub run_coprime : (D : ℕ) (M Y p r t₀ t c : Poly 𝓕) → Run D M Y p r t₀ t → c · p ≡ 𝟏 → Coprime (𝓟 𝓕) M Y
  run_coprime D M Y p r t₀ t c I e =
      record {
        left = c · I.s_previous;
        right = c · t₀;
        is = sym (scaled_combination (𝓟 𝓕) c p I.s_previous t₀ M Y I.previous_is) ∙ e;
      }

  -- And c·t₀ is then the inverse of Y modulo M.
  pub run_inverse : (D : ℕ) (M Y p r t₀ t c : Poly 𝓕) → Run D M Y p r t₀ t → c · p ≡ 𝟏 → Congruent (𝓟 𝓕) M (c · t₀ · Y) 𝟏
  run_inverse D M Y p r t₀ t c I e =
      congruent_sym (𝓟 𝓕) M 𝟏 (c · t₀ · Y)
      (congruent_by (𝓟 𝓕) M 𝟏 (c · t₀ · Y) (c · I.s_previous)
      (sym e ∙ scaled_combination (𝓟 𝓕) c p I.s_previous t₀ M Y I.previous_is ∙ plus_comm (𝓟 𝓕) (c · I.s_previous · M) (c · t₀ · Y)))
