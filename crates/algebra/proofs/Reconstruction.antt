-- Why a word can be read: the remainder at which Euclid's algorithm stops is t times the message, two messages cannot both
-- explain one word, and residues are put together one modulus at a time.
use Rattle.std.proofs.Common.{◌≡◌, ℕ, ◌+◌, ◌-◌, ◌*◌, ◌<◌, ◌≤◌, sym, ◌∙◌, arith}
use Rattle.algebra.specs.Abstract.{Ring, Field}
use Rattle.algebra.proofs.Rings.{ring, cancel, plus_comm, times_comm, difference, difference_plus, difference_is, difference_zero, difference_chain}
use Rattle.algebra.proofs.Polynomials.{Poly, 𝓟, Under, Degree, degree_under, degree_product, factor_zero, under_more, under_sum, under_product, under_difference}
use Rattle.algebra.proofs.Modulo.{Divides, Congruent, congruent_is, congruent_by, congruent_sym, divides_multiple, divides_difference, multiple_zero, product_of, PairwiseCoprime, all_divide}

module _ {R : Type 0} (𝓡 : Ring R) where
  open 𝓡 use {𝟎, 𝟏, sum as ◌⊕◌, product as ◌·◌}

  infixl 60 ◌⊕◌ ◌⊖◌
  infixl 70 ◌·◌
  abbrev ◌⊖◌ : R → R → R
  a ⊖ b = difference 𝓡 a b

  -- The word Y agrees with the message a modulo M, but for the error factor Λ: Λ·Y ≡ Λ·a.
  abbrev pub Agree : R → R → R → R → Type 0
  Agree M Y Λ a = Congruent 𝓡 M (Λ · Y) (Λ · a)

  -- The same with one difference: m divides Λ·(y - a).
  abbrev pub Explained : R → R → R → R → Type 0
  Explained m y a Λ = Divides 𝓡 m (Λ · (y ⊖ a))

  -- r = s·M + t·Y and Λ·Y ≡ Λ·a modulo M: then M divides Λ·(r - t·a).
  key_divides : (M Y Λ a r s t : R) → r ≡ s · M ⊕ t · Y → Agree M Y Λ a → Divides 𝓡 M (Λ · (r ⊖ t · a))
  key_divides M Y Λ a r s t e h =
      record {
        by = Λ · s ⊕ t · h.by;
        is = go h.by (r ⊖ t · a) (congruent_is 𝓡 M (Λ · Y) (Λ · a) h) (difference_plus 𝓡 r (t · a));
      }
    where
      go : (k u : R) → Λ · Y ≡ Λ · a ⊕ k · M → u ⊕ t · a ≡ r → Λ · u ≡ (Λ · s ⊕ t · k) · M
      go k u f g =
          let x : Λ · (t · a) ⊕ Λ · u ≡ Λ · (u ⊕ t · a) = simp ring in
          let y : Λ · (s · M ⊕ t · Y) ≡ Λ · (s · M) ⊕ t · (Λ · Y) = simp ring in
          let z : Λ · (t · a) ⊕ (Λ · s ⊕ t · k) · M ≡ Λ · (s · M) ⊕ t · (Λ · a ⊕ k · M) = simp ring in
          cancel 𝓡 (Λ · (t · a)) (Λ · u) ((Λ · s ⊕ t · k) · M) cc

  -- What divides Λ·(y - a) and Λ'·(y - b) divides Λ·Λ'·(b - a).
  apart_divides : (m y a b Λ Λ' : R) → Explained m y a Λ → Explained m y b Λ' → Divides 𝓡 m (Λ · Λ' · (b ⊖ a))
  apart_divides m y a b Λ Λ' h k =
      rw (go (y ⊖ a) (y ⊖ b) (b ⊖ a) gap)
      (divides_difference 𝓡 m (Λ' · (Λ · (y ⊖ a))) (Λ · (Λ' · (y ⊖ b)))
      (divides_multiple 𝓡 m (Λ · (y ⊖ a)) Λ' h) (divides_multiple 𝓡 m (Λ' · (y ⊖ b)) Λ k))
    where
      gap : (b ⊖ a) ⊕ (y ⊖ b) ≡ y ⊖ a
      gap = plus_comm 𝓡 (b ⊖ a) (y ⊖ b) ∙ difference_chain 𝓡 y b a

      go : (u v w : R) → w ⊕ v ≡ u → Λ · Λ' · w ≡ Λ' · (Λ · u) ⊖ Λ · (Λ' · v)
      go u v w e =
          let x : Λ · Λ' · w ⊕ Λ · (Λ' · v) ≡ Λ' · (Λ · (w ⊕ v)) = simp ring in
          difference_is 𝓡 (Λ' · (Λ · u)) (Λ · (Λ' · v)) (Λ · Λ' · w) cc

  -- Residues put together. Y stands for the residues so far, modulo M; w is the inverse of M modulo m; c ≡ (y - Y)·w.
  pub joined_old : (M Y c : R) → Congruent 𝓡 M (Y ⊕ M · c) Y
  joined_old M Y c = congruent_by 𝓡 M (Y ⊕ M · c) Y c (cc (times_comm 𝓡 M c))

  pub joined_new : (m M w Y y c : R) → Congruent 𝓡 m (w · M) 𝟏 → Congruent 𝓡 m ((y ⊖ Y) · w) c → Congruent 𝓡 m (Y ⊕ M · c) y
  joined_new m M w Y y c hw hc =
      congruent_sym 𝓡 m y (Y ⊕ M · c)
      (congruent_by 𝓡 m y (Y ⊕ M · c) (M · hc.by ⊖ (y ⊖ Y) · hw.by)
      (go hw.by hc.by (y ⊖ Y) (M · hc.by ⊖ (y ⊖ Y) · hw.by) (congruent_is 𝓡 m (w · M) 𝟏 hw)
      (congruent_is 𝓡 m ((y ⊖ Y) · w) c hc) (difference_plus 𝓡 y Y) (difference_plus 𝓡 (M · hc.by) ((y ⊖ Y) · hw.by))))
    where
      go : (k l u v : R) → w · M ≡ 𝟏 ⊕ k · m → u · w ≡ c ⊕ l · m → u ⊕ Y ≡ y → v ⊕ u · k ≡ M · l → y ≡ (Y ⊕ M · c) ⊕ v · m
      go k l u v e f g h =
          let x : M · (u · w) ≡ u · (w · M) = simp ring in
          let x' : M · (c ⊕ l · m) ≡ M · c ⊕ M · l · m = simp ring in
          let x'' : u · (𝟏 ⊕ k · m) ≡ u · 𝟏 ⊕ u · k · m = simp ring in
          let y₁ : M · c ⊕ (v ⊕ u · k) · m ≡ u · k · m ⊕ (M · c ⊕ v · m) = simp ring in
          let y₂ : u · 𝟏 ⊕ u · k · m ≡ u · k · m ⊕ u = cc (Ring.product_one 𝓡 u, plus_comm 𝓡 u (u · k · m)) in
          let z : u ≡ M · c ⊕ v · m = cancel 𝓡 (u · k · m) u (M · c ⊕ v · m) cc in
          let y₃ : (M · c ⊕ v · m) ⊕ Y ≡ (Y ⊕ M · c) ⊕ v · m = simp ring in
          cc

module _ {E : Type 0} (𝓕 : Field E) where
  open 𝓟 𝓕 use {𝟎, 𝟏, sum as ◌⊕◌, product as ◌·◌}

  infixl 60 ◌⊕◌ ◌⊝◌
  infixl 70 ◌·◌
  abbrev ◌⊝◌ : Poly 𝓕 → Poly 𝓕 → Poly 𝓕
  a ⊝ b = difference (𝓟 𝓕) a b

  -- A factor Λ of degree e, and a word Y that agrees with a but for Λ. If r and t·a are under b, and b + e is at most the
  -- degree of M, then r = t·a.
  pub reconstruct_under : (D e b : ℕ) (M Y Λ a r s t : Poly 𝓕) → Degree 𝓕 D M → Degree 𝓕 e Λ → b + e ≤ D
      → Under 𝓕 b r → Under 𝓕 b (t · a) → r ≡ s · M ⊕ t · Y → Agree (𝓟 𝓕) M Y Λ a → r ≡ t · a
  reconstruct_under D e b M Y Λ a r s t hM hΛ l hr ht is agrees =
      let u = r ⊝ t · a in
      let low : Under 𝓕 D (Λ · u) =
      rw (times_comm (𝓟 𝓕) Λ u)
      (under_more 𝓕 (b + e) D (u · Λ) l (under_product 𝓕 b e u Λ (under_difference 𝓕 b r (t · a) hr ht) (degree_under 𝓕 e Λ hΛ))) in
      let none = multiple_zero 𝓕 D M (Λ · u) hM (key_divides (𝓟 𝓕) M Y Λ a r s t is agrees) low in
      difference_zero (𝓟 𝓕) r (t · a) (factor_zero 𝓕 e Λ u hΛ none)

  -- The first remainder r with 2·deg r < D + K, where the message a is under K and 2e + K ≤ D: r = t·a.
  pub reconstruct : (D K e h n d : ℕ) (M Y Λ a r s t : Poly 𝓕) → Degree 𝓕 D M → Degree 𝓕 e Λ → 2 * e + K ≤ D → Under 𝓕 K a
      → Under 𝓕 h r → 2 * h ≤ D + K + 1 → Degree 𝓕 d t → d + n ≡ D → D + K ≤ 2 * n
      → r ≡ s · M ⊕ t · Y → Agree (𝓟 𝓕) M Y Λ a → r ≡ t · a
  reconstruct D K e h n d M Y Λ a r s t hM hΛ l ha hr l₁ ht l₂ l₃ is agrees =
      reconstruct_under D e (D - e) M Y Λ a r s t hM hΛ (omega arith) (under_more 𝓕 h (D - e) r (omega arith) hr)
      (rw (times_comm (𝓟 𝓕) t a)
      (under_more 𝓕 (K + d) (D - e) (a · t) (omega arith) (under_product 𝓕 K d a t ha (degree_under 𝓕 d t ht))))
      is agrees

  -- Two messages under K whose error factors have degrees that add up to deg M - K at most are one.
  unique_from : (D K e e' : ℕ) (M a b Λ Λ' : Poly 𝓕) → Degree 𝓕 D M → Degree 𝓕 e Λ → Degree 𝓕 e' Λ' → e + e' + K ≤ D
      → Under 𝓕 K a → Under 𝓕 K b → Divides (𝓟 𝓕) M (Λ · Λ' · (b ⊝ a)) → a ≡ b
  unique_from D K e e' M a b Λ Λ' hM hΛ hΛ' l ha hb h =
      let both = degree_product 𝓕 e e' Λ Λ' hΛ hΛ' in
      let low : Under 𝓕 D (Λ · Λ' · (b ⊝ a)) =
      rw (times_comm (𝓟 𝓕) (Λ · Λ') (b ⊝ a))
      (under_more 𝓕 (K + (e + e')) D ((b ⊝ a) · (Λ · Λ')) (omega arith)
      (under_product 𝓕 K (e + e') (b ⊝ a) (Λ · Λ') (under_difference 𝓕 K b a hb ha) (degree_under 𝓕 (e + e') (Λ · Λ') both))) in
      let none = multiple_zero 𝓕 D M (Λ · Λ' · (b ⊝ a)) hM h low in
      sym (difference_zero (𝓟 𝓕) b a (factor_zero 𝓕 (e + e') (Λ · Λ') (b ⊝ a) both none))

  pub unique : (D K e e' : ℕ) (M y a b Λ Λ' : Poly 𝓕) → Degree 𝓕 D M → Degree 𝓕 e Λ → Degree 𝓕 e' Λ' → e + e' + K ≤ D
      → Under 𝓕 K a → Under 𝓕 K b → Explained (𝓟 𝓕) M y a Λ → Explained (𝓟 𝓕) M y b Λ' → a ≡ b
  unique D K e e' M y a b Λ Λ' hM hΛ hΛ' l ha hb h k =
      unique_from D K e e' M a b Λ Λ' hM hΛ hΛ' l ha hb (apart_divides (𝓟 𝓕) M y a b Λ Λ' h k)

  -- With one residue y i for each of n pairwise coprime moduli m i.
  pub unique_residues : (D K e e' n : ℕ) (m y : ℕ → Poly 𝓕) (a b Λ Λ' : Poly 𝓕) → PairwiseCoprime (𝓟 𝓕) m n
      → Degree 𝓕 D (product_of (𝓟 𝓕) m n) → Degree 𝓕 e Λ → Degree 𝓕 e' Λ' → e + e' + K ≤ D → Under 𝓕 K a → Under 𝓕 K b
      → ((i : ℕ) → i < n → Explained (𝓟 𝓕) (m i) (y i) a Λ) → ((i : ℕ) → i < n → Explained (𝓟 𝓕) (m i) (y i) b Λ') → a ≡ b
  unique_residues D K e e' n m y a b Λ Λ' c hM hΛ hΛ' l ha hb h k =
      unique_from D K e e' (product_of (𝓟 𝓕) m n) a b Λ Λ' hM hΛ hΛ' l ha hb
      (all_divide (𝓟 𝓕) m n (Λ · Λ' · (b ⊝ a)) c (λ i g. apart_divides (𝓟 𝓕) (m i) (y i) a b Λ Λ' (h i g) (k i g)))

  -- Joined residues stay under the degree of the joined product.
  pub joined_under : (D d : ℕ) (M Y c : Poly 𝓕) → Degree 𝓕 D M → Under 𝓕 D Y → Under 𝓕 d c → Under 𝓕 (D + d) (Y ⊕ M · c)
  joined_under D d M Y c hM hY hc =
      under_sum 𝓕 (D + d) Y (M · c) (under_more 𝓕 D (D + d) Y (omega arith) hY)
      (rw (times_comm (𝓟 𝓕) M c) (under_more 𝓕 (d + D) (D + d) (c · M) (omega arith) (under_product 𝓕 d D c M hc (degree_under 𝓕 D M hM))))
