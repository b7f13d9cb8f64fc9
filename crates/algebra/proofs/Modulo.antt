-- Divisibility, congruence and coprimality in a ring, and families of pairwise coprime moduli with their product.
use Rattle.std.proofs.Common.{◌≡◌, ℕ, zero, suc, ◌+◌, ◌<◌, ◌≤◌, sym, ◌∙◌, arith}
use native.Mathlib.Decide.{dec_le, dec_lt}
use Rattle.algebra.specs.Abstract.{Ring, Field}
use Rattle.algebra.proofs.Rings.{ring, plus_comm, plus_zero, times_assoc, times_comm, one_times, plus_times, zero_times, times_difference, difference, difference_plus, difference_is, difference_chain}
use Rattle.algebra.proofs.Polynomials.{Poly, 𝓟, Under, Degree, degree_one, degree_product, degree_under, degree_not_zero, under_more, under_zero, under_factor}

module _ {R : Type 0} (𝓡 : Ring R) where
  open 𝓡 use {𝟎, 𝟏, sum as ◌⊕◌, product as ◌·◌}

  infixl 60 ◌⊕◌ ◌⊖◌
  infixl 70 ◌·◌
  abbrev ◌⊖◌ : R → R → R
  a ⊖ b = difference 𝓡 a b

  -- m divides a.
  pub record Divides (m a : R) : Type 0 where
    pub by : R
    pub is : a ≡ by · m

  pub divides_self : (m : R) → Divides m m
  divides_self m = record { by = 𝟏; is = sym (one_times 𝓡 m) }

  pub divides_zero : (m : R) → Divides m 𝟎
  divides_zero m = record { by = 𝟎; is = sym (zero_times 𝓡 m) }

  pub divides_multiple : (m a x : R) → Divides m a → Divides m (x · a)
  divides_multiple m a x h = record { by = x · h.by; is = rw h.is (sym (times_assoc 𝓡 x h.by m)) }

  pub divides_product : (m a x : R) → Divides m a → Divides m (a · x)
  divides_product m a x h = rw (times_comm 𝓡 a x) (divides_multiple m a x h)

  pub divides_sum : (m a b : R) → Divides m a → Divides m b → Divides m (a ⊕ b)
  divides_sum m a b h k = record { by = h.by ⊕ k.by; is = rw (h.is, k.is) (sym (plus_times 𝓡 h.by k.by m)) }

  pub divides_difference : (m a b : R) → Divides m a → Divides m b → Divides m (a ⊖ b)
  divides_difference m a b h k =
      record {
        by = h.by ⊖ k.by;
        is =
            cc (h.is, k.is, times_comm 𝓡 h.by m, times_comm 𝓡 k.by m, times_comm 𝓡 (h.by ⊖ k.by) m, times_difference 𝓡 m h.by k.by);
      }

  pub divides_trans : (l m a : R) → Divides l m → Divides m a → Divides l a
  divides_trans l m a h k =
      record { by = k.by · h.by; is = cc (k.is, h.is, times_assoc 𝓡 k.by h.by l) }

  -- a and b are congruent modulo m: m divides their difference.
  abbrev pub Congruent : R → R → R → Type 0
  Congruent m a b = Divides m (a ⊖ b)

  pub congruent_is : (m a b : R) (h : Congruent m a b) → a ≡ b ⊕ h.by · m
  congruent_is m a b h = cc (difference_plus 𝓡 a b, h.is, plus_comm 𝓡 (h.by · m) b)

  pub congruent_by : (m a b k : R) → a ≡ b ⊕ k · m → Congruent m a b
  congruent_by m a b k e = record { by = k; is = sym (difference_is 𝓡 a b (k · m) (cc (plus_comm 𝓡 (k · m) b))) }

  pub congruent_refl : (m a : R) → Congruent m a a
  congruent_refl m a = congruent_by m a a 𝟎 (cc (zero_times 𝓡 m, plus_zero 𝓡 a))

  pub congruent_trans : (m a b c : R) → Congruent m a b → Congruent m b c → Congruent m a c
  congruent_trans m a b c h k = rw (← difference_chain 𝓡 a b c) (divides_sum m (a ⊖ b) (b ⊖ c) h k)

  pub congruent_sym : (m a b : R) → Congruent m a b → Congruent m b a
  congruent_sym m a b h =
      rw (difference_is 𝓡 (b ⊖ b) (a ⊖ b) (b ⊖ a) (difference_chain 𝓡 b a b)) (divides_difference m (b ⊖ b) (a ⊖ b) (congruent_refl m b) h)

  pub congruent_sum : (m a b c d : R) → Congruent m a b → Congruent m c d → Congruent m (a ⊕ c) (b ⊕ d)
  congruent_sum m a b c d h k =
      congruent_by m (a ⊕ c) (b ⊕ d) (h.by ⊕ k.by) (go h.by k.by (congruent_is m a b h) (congruent_is m c d k))
    where
      go : (x y : R) → a ≡ b ⊕ x · m → c ≡ d ⊕ y · m → a ⊕ c ≡ (b ⊕ d) ⊕ (x ⊕ y) · m
      go x y e f = rw (e, f) (simp ring)

  pub congruent_difference : (m a b c d : R) → Congruent m a b → Congruent m c d → Congruent m (a ⊖ c) (b ⊖ d)
  congruent_difference m a b c d h k =
      congruent_by m (a ⊖ c) (b ⊖ d) (h.by ⊖ k.by) (go h.by k.by (congruent_is m a b h) (congruent_is m c d k))
    where
      regroup : (u v x y : R) → (u ⊕ v · m) ⊕ (x ⊕ y · m) ≡ (u ⊕ x) ⊕ (v ⊕ y) · m
      regroup u v x y = simp ring

      back : (x y : R) → a ≡ b ⊕ x · m → c ≡ d ⊕ y · m → ((b ⊖ d) ⊕ (x ⊖ y) · m) ⊕ c ≡ a
      back x y e f = rw (f, e, regroup (b ⊖ d) (x ⊖ y) d y, difference_plus 𝓡 b d, difference_plus 𝓡 x y)

      go : (x y : R) → a ≡ b ⊕ x · m → c ≡ d ⊕ y · m → a ⊖ c ≡ (b ⊖ d) ⊕ (x ⊖ y) · m
      go x y e f = sym (difference_is 𝓡 a c ((b ⊖ d) ⊕ (x ⊖ y) · m) (back x y e f))

  pub congruent_product : (m a b c d : R) → Congruent m a b → Congruent m c d → Congruent m (a · c) (b · d)
  congruent_product m a b c d h k =
      congruent_by m (a · c) (b · d) (h.by · d ⊕ b · k.by ⊕ h.by · k.by · m)
      (go h.by k.by (congruent_is m a b h) (congruent_is m c d k))
    where
      go : (x y : R) → a ≡ b ⊕ x · m → c ≡ d ⊕ y · m → a · c ≡ b · d ⊕ (x · d ⊕ b · y ⊕ x · y · m) · m
      go x y e f = rw (e, f) (simp ring)

  -- m and n are coprime: some sum of multiples of the two is 1.
  pub record Coprime (m n : R) : Type 0 where
    pub left : R
    pub right : R
    pub is : left · m ⊕ right · n ≡ 𝟏

  pub coprime_sym : (m n : R) → Coprime m n → Coprime n m
  coprime_sym m n c =
      record { left = c.right; right = c.left; is = plus_comm 𝓡 (c.right · n) (c.left · m) ∙ c.is }

  pub coprime_one : (m : R) → Coprime m 𝟏
  coprime_one m = record { left = 𝟎; right = 𝟏; is = cc (zero_times 𝓡 m, one_times 𝓡 𝟏, Ring.sum_comm 𝓡 𝟎 𝟏, plus_zero 𝓡 𝟏) }

  -- If u·M + v·m = 1, then u is the inverse of M modulo m.
  pub inverse_modulo : (M m u v : R) → u · M ⊕ v · m ≡ 𝟏 → Congruent m (u · M) 𝟏
  inverse_modulo M m u v e = congruent_sym m 𝟏 (u · M) (congruent_by m 𝟏 (u · M) v (sym e))

  -- A common divisor of coprime elements divides 1.
  pub coprime_common : (m n g : R) → Coprime m n → Divides g m → Divides g n → Divides g 𝟏
  coprime_common m n g c h k =
      rw c.is at
      (divides_sum g (c.left · m) (c.right · n) (divides_multiple g m c.left h) (divides_multiple g n c.right k))

  -- Coprime to two, coprime to their product.
  pub coprime_product : (m a b : R) → Coprime m a → Coprime m b → Coprime m (a · b)
  coprime_product m a b c d =
      record {
        left = c.left · d.left · m ⊕ c.left · d.right · b ⊕ c.right · a · d.left;
        right = c.right · d.right;
        is = go c.left c.right d.left d.right c.is d.is;
      }
    where
      go : (s t u v : R) → s · m ⊕ t · a ≡ 𝟏 → u · m ⊕ v · b ≡ 𝟏 → (s · u · m ⊕ s · v · b ⊕ t · a · u) · m ⊕ t · v · (a · b) ≡ 𝟏
      go s t u v e f =
          let x : (s · u · m ⊕ s · v · b ⊕ t · a · u) · m ⊕ t · v · (a · b) ≡ (s · m ⊕ t · a) · (u · m ⊕ v · b) = simp ring in
          cc (one_times 𝓡 𝟏)

  -- What two coprime moduli divide, their product divides.
  pub coprime_divides : (m n a : R) → Coprime m n → Divides m a → Divides n a → Divides (m · n) a
  coprime_divides m n a c h k =
      record { by = c.left · k.by ⊕ c.right · h.by; is = go c.left c.right h.by k.by c.is h.is k.is }
    where
      go : (u v x y : R) → u · m ⊕ v · n ≡ 𝟏 → a ≡ x · m → a ≡ y · n → a ≡ (u · y ⊕ v · x) · (m · n)
      go u v x y e f g =
          let z : u · m · (y · n) ⊕ v · n · (x · m) ≡ (u · y ⊕ v · x) · (m · n) = simp ring in
          cc (one_times 𝓡 a, plus_times 𝓡 (u · m) (v · n) a)

  -- The product of the first n of a family.
  unfoldable pub product_of : (ℕ → R) → ℕ → R
  product_of m zero = 𝟏
  product_of m (suc n) = product_of m n · m n

  abbrev pub PairwiseCoprime : (ℕ → R) → ℕ → Type 0
  PairwiseCoprime m n = (i j : ℕ) → i < j → j < n → Coprime (m i) (m j)

  pub member_divides : (m : ℕ → R) (n i : ℕ) → i < n → Divides (m i) (product_of m n)
  unfolding product_of
  member_divides m zero i l = absurd (omega arith)
  member_divides m (suc n) i l =
      elim (dec_lt i n) [
        | yes g ↦ divides_product (m i) (product_of m n) (m n) (member_divides m n i g)
        | no g ↦
            let e : i ≡ n = omega arith in
            rw e (divides_multiple (m n) (m n) (product_of m n) (divides_self (m n)))
      ]

  -- Coprime to each, coprime to the product.
  pub coprime_all : (a : R) (m : ℕ → R) (n : ℕ) → ((i : ℕ) → i < n → Coprime a (m i)) → Coprime a (product_of m n)
  unfolding product_of
  coprime_all a m zero h = coprime_one a
  coprime_all a m (suc n) h =
      coprime_product a (product_of m n) (m n) (coprime_all a m n (λ i l. h i (omega arith))) (h n (omega arith))

  -- What each of pairwise coprime moduli divides, their product divides.
  pub all_divide : (m : ℕ → R) (n : ℕ) (a : R) → PairwiseCoprime m n → ((i : ℕ) → i < n → Divides (m i) a) → Divides (product_of m n) a
  unfolding product_of
  all_divide m zero a c h = record { by = a; is = sym (Ring.product_one 𝓡 a) }
  all_divide m (suc n) a c h =
      coprime_divides (product_of m n) (m n) a
      (coprime_sym (m n) (product_of m n) (coprime_all (m n) m n (λ i l. coprime_sym (m i) (m n) (c i n l (omega arith)))))
      (all_divide m n a (λ i j l g. c i j l (omega arith)) (λ i l. h i (omega arith)))
      (h n (omega arith))

module _ {E : Type 0} (𝓕 : Field E) where
  open 𝓟 𝓕 use {𝟎, product as ◌·◌}

  infixl 70 ◌·◌
  -- A multiple of m that is lower than m is 0.
  pub multiple_zero : (d : ℕ) (m a : Poly 𝓕) → Degree 𝓕 d m → Divides (𝓟 𝓕) m a → Under 𝓕 d a → a ≡ 𝟎
  multiple_zero d m a hm h ha =
      let low : Under 𝓕 (d + 0) (m · h.by) =
      rw (times_comm (𝓟 𝓕) m h.by, ← h.is) (under_more 𝓕 d (d + 0) a (omega arith) ha) in
      let none = under_zero 𝓕 h.by (under_factor 𝓕 d 0 m h.by hm low) in
      cc (h.is, zero_times (𝓟 𝓕) m)

  pub divisor_degree : (d n : ℕ) (m a : Poly 𝓕) → Degree 𝓕 d m → Degree 𝓕 n a → Divides (𝓟 𝓕) m a → d ≤ n
  divisor_degree d n m a hm ha h =
      elim (dec_le d n) [
        | yes l ↦ l
        | no l ↦
            absurd (degree_not_zero 𝓕 n a ha
            (multiple_zero d m a hm h (under_more 𝓕 (suc n) d a (omega arith) (degree_under 𝓕 n a ha))))
      ]

  -- The sum of the first n degrees is the degree of the product.
  pub product_degree : (m : ℕ → Poly 𝓕) (d total : ℕ → ℕ) (n : ℕ) → total 0 ≡ 0 → ((i : ℕ) → total (suc i) ≡ total i + d i)
      → ((i : ℕ) → i < n → Degree 𝓕 (d i) (m i)) → Degree 𝓕 (total n) (product_of (𝓟 𝓕) m n)
  unfolding product_of
  product_degree m d total zero z s h = rw z (degree_one 𝓕)
  product_degree m d total (suc n) z s h =
      rw (s n)
      (degree_product 𝓕 (total n) (d n) (product_of (𝓟 𝓕) m n) (m n)
      (product_degree m d total n z s (λ i l. h i (omega arith))) (h n (omega arith)))
