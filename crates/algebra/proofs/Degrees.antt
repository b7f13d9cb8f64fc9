-- Where a series ends, its degree, and what products do to both.
use Rattle.std.proofs.Common.{◌≡◌, ℕ, zero, suc, ◌+◌, ◌-◌, ◌≤◌, ◌≢◌, sym, refl, ap, ◌∙◌, arith}
use mathlib.Core.Path.{fun_ext}
use mathlib.Core.HLevel.{Σ_prop_path, Π_prop, ×_prop}
use native.Mathlib.Bridge.{le_prop}
use native.Mathlib.Decide.{dec_le, ℕ_discrete}
use Rattle.algebra.specs.Abstract.{Ring, Field}
use Rattle.algebra.proofs.Rings.{plus_zero, zero_plus, times_assoc, times_comm, one_times, times_zero, negative_zero}
use Rattle.algebra.proofs.Series.{Series, rest, put, ◌⊞◌, ◌∗◌, null, opposite, monomial, first, next, null_left}

module _ {E : Type 0} (𝓡 : Ring E) where
  open 𝓡 use {𝟎, 𝟏, sum as ◌⊕◌, product as ◌·◌}

  infixl 60 ◌⊕◌
  infixl 70 ◌·◌
  -- The coefficients from z^d on are 0.
  abbrev pub Ends : ℕ → Series E → Type 0
  Ends d a = (i : ℕ) → d ≤ i → a i ≡ 𝟎

  pub record HasTop (d : ℕ) (a : Series E) : Type 0 where
    pub top : a d ≢ 𝟎
    pub ends : Ends (suc d) a

  pub ends_null : (a : Series E) → Ends 0 a → a ≡ null 𝓡
  ends_null a h = fun_ext (λ i. h i (omega arith))

  pub ends_later : (d e : ℕ) (a : Series E) → d ≤ e → Ends d a → Ends e a
  ends_later d e a l h i g = h i (omega arith)

  -- One earlier, where the last coefficient is 0.
  pub ends_earlier : (d : ℕ) (a : Series E) → Ends (suc d) a → a d ≡ 𝟎 → Ends d a
  ends_earlier d a h z i l = elim (ℕ_discrete i d) [ yes e ↦ rw e z | no e ↦ h i (omega arith) ]

  pub ends_sum : (d : ℕ) (a b : Series E) → Ends d a → Ends d b → Ends d (◌⊞◌ 𝓡 a b)
  ends_sum d a b h k i l = cc (h i l, k i l, plus_zero 𝓡 𝟎)

  pub ends_opposite : (d : ℕ) (a : Series E) → Ends d a → Ends d (opposite 𝓡 a)
  ends_opposite d a h i l = cc (h i l, negative_zero 𝓡)

  pub ends_put : (d : ℕ) (c : E) (a : Series E) → Ends d a → Ends (suc d) (put c a)
  ends_put d c a h zero l = absurd (omega arith)
  ends_put d c a h (suc i) l = h i (omega arith)

  pub ends_monomial : (c : E) (k : ℕ) → Ends (suc k) (monomial 𝓡 c k)
  ends_monomial c zero = ends_put 0 c (null 𝓡) (λ i l. refl)
  ends_monomial c (suc k) = ends_put (suc k) 𝟎 (monomial 𝓡 c k) (ends_monomial c k)

  pub monomial_top : (c : E) (k : ℕ) → monomial 𝓡 c k k ≡ c
  monomial_top c zero = refl
  monomial_top c (suc k) = monomial_top c k

  -- Past the last coefficients, one product is left of those that make up a coefficient: if a ends by d + 1 and b by e + 1,
  -- then from z^(d + e) on the coefficient of z^n in a·b is a_d · b_(n - d).
  last_product : (d e n : ℕ) (a b : Series E) → Ends (suc d) a → Ends (suc e) b → d + e ≤ n → ◌∗◌ 𝓡 a b n ≡ a d · b (n - d)
  last_product zero e n a b h k l = let whole : n - 0 ≡ n = omega arith in rw whole (constant n)
    where
      constant : (n : ℕ) → ◌∗◌ 𝓡 a b n ≡ a 0 · b n
      constant zero = first 𝓡 a b
      constant (suc n) =
          let none = ends_null (rest a) (λ i g. h (suc i) (omega arith)) in
          next 𝓡 n a b ∙ rw none (cc (null_left 𝓡 n b, plus_zero 𝓡 (a 0 · b (suc n))))
  last_product (suc d) e zero a b h k l = absurd (omega arith)
  last_product (suc d) e (suc n) a b h k l =
      let before = last_product d e n (rest a) b (λ i g. h (suc i) (omega arith)) k (omega arith) in
      let same : suc n - suc d ≡ n - d = omega arith in
      rw same
      (cc (next 𝓡 n a b, k (suc n) (omega arith), times_zero 𝓡 (a 0), before, zero_plus 𝓡 (a (suc d) · b (n - d))))

  pub top_product : (d e : ℕ) (a b : Series E) → Ends (suc d) a → Ends (suc e) b → ◌∗◌ 𝓡 a b (d + e) ≡ a d · b e
  top_product d e a b h k =
      let there : d + e - d ≡ e = omega arith in
      last_product d e (d + e) a b h k (omega arith) ∙ ap (λ (i : ℕ). a d · b i) there

  pub ends_product : (d e : ℕ) (a b : Series E) → Ends d a → Ends (suc e) b → Ends (d + e) (◌∗◌ 𝓡 a b)
  ends_product zero e a b h k n l = rw (ends_null a h) (null_left 𝓡 n b)
  ends_product (suc d) e a b h k n l =
      last_product d e n a b h k (omega arith) ∙ cc (k (n - d) (omega arith), times_zero 𝓡 (a d))

module _ {E : Type 0} (𝓕 : Field E) where
  open 𝓕 use {ring as 𝓡, inverse, product_inverse, decide}
  open 𝓡 use {𝟎, 𝟏, product as ◌·◌}

  infixl 70 ◌·◌
  -- A field has no zero divisors.
  pub no_zero_divisor : (a b : E) → a ≢ 𝟎 → a · b ≡ 𝟎 → b ≡ 𝟎
  no_zero_divisor a b h e =
      cc (times_assoc 𝓡 (inverse a) a b, times_comm 𝓡 (inverse a) a, product_inverse a h, one_times 𝓡 b, times_zero 𝓡 (inverse a))

  -- The first place by which a series ends; there is at most one.
  abbrev pub Extent : Series E → Type 0
  Extent a = (d : ℕ) × (Ends 𝓡 d a × ((e : ℕ) → Ends 𝓡 e a → d ≤ e))

  pub extent_prop : (a : Series E) → IsProp (Extent a)
  extent_prop a x y =
      Σ_prop_path (λ d. ×_prop (Π_prop (λ i. Π_prop (λ l. 𝓡.is_set _ _))) (Π_prop (λ e. Π_prop (λ h. le_prop {n = d} {m = e})))) {u = x} {v = y}
      (both (x.1.1 y.0 y.1.0) (y.1.1 x.0 x.1.0))
    where
      both : x.0 ≤ y.0 → y.0 ≤ x.0 → x.0 ≡ y.0
      both l g = omega arith

  pub extent : (k : ℕ) (a : Series E) → Ends 𝓡 k a → Extent a
  extent zero a h = (0, (h, λ e g. omega arith))
  extent (suc k) a h =
      elim (decide (a k) 𝟎) [
        | yes z ↦ extent k a (ends_earlier 𝓡 k a h z)
        | no z ↦ (suc k, (h, λ e g. elim (dec_le (suc k) e) [ yes l ↦ l | no l ↦ absurd (z (g k (omega arith))) ]))
      ]

  -- If a has degree d and a·b ends by d + e, then b, which ends somewhere, ends by e: its last coefficient would show in the
  -- product.
  pub ends_factor : (k d e : ℕ) (a b : Series E) → HasTop 𝓡 d a → Ends 𝓡 k b → Ends 𝓡 (d + e) (◌∗◌ 𝓡 a b) → Ends 𝓡 e b
  ends_factor k d e a b ha hb h = shown (extent k b hb)
    where
      shown : Extent b → Ends 𝓡 e b
      shown (zero, (ends, least)) = ends_later 𝓡 0 e b (omega arith) ends
      shown (suc j, (ends, least)) =
          elim (dec_le (suc j) e) [
            | yes l ↦ ends_later 𝓡 (suc j) e b l ends
            | no l ↦
                let product = sym (top_product 𝓡 d j a b ha.ends ends) ∙ h (d + j) (omega arith) in
                let none = no_zero_divisor (a d) (b j) ha.top product in
                let earlier = least j (ends_earlier 𝓡 j b ends none) in
                absurd (omega arith)
          ]

  pub top_of_product : (d e : ℕ) (a b : Series E) → HasTop 𝓡 d a → HasTop 𝓡 e b → HasTop 𝓡 (d + e) (◌∗◌ 𝓡 a b)
  top_of_product d e a b ha hb =
      record {
        top = λ z. hb.top (no_zero_divisor (a d) (b e) ha.top (sym (top_product 𝓡 d e a b ha.ends hb.ends) ∙ z));
        ends = λ i l. ends_product 𝓡 (suc d) e a b ha.ends hb.ends i (omega arith);
      }
