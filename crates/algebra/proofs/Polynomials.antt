-- Polynomials over a field: series that end somewhere. Their ring, their degrees, and the monomials.
use Rattle.std.proofs.Common.{◌≡◌, ℕ, zero, suc, ◌+◌, ◌<◌, ◌≤◌, ◌≢◌, ◌⊎◌, sym, refl, ◌∙◌, inl, inr, arith}
use mathlib.Core.Logic.{∥∥₁_prop, ∥∥₁_elim, ∥∥₁_map, ∥∥₁_map₂}
use mathlib.Core.HLevel.{Σ_set, Σ_prop_path, →_set, prop→set, Π_prop}
use native.Mathlib.Decide.{dec_le}
use Rattle.algebra.specs.Abstract.{Ring, Field}
use Rattle.algebra.proofs.Rings.{difference, difference_twice}
use Rattle.algebra.proofs.Series.{Series, ◌⊞◌, ◌∗◌, null, unit, opposite, series_ring, monomial, monomial_from, monomial_before}
use Rattle.algebra.proofs.Degrees.{Ends, HasTop, Extent, extent, extent_prop, ends_null, ends_later, ends_earlier, ends_sum, ends_opposite, ends_monomial, ends_product, ends_factor, monomial_top, top_of_product}

module _ {E : Type 0} (𝓡 : Ring E) where
  -- That a series ends somewhere is a proposition, so that polynomials with the same coefficients are equal.
  abbrev pub Polynomial : Type 0
  Polynomial = (a : Series E) × ∥ ((d : ℕ) × Ends 𝓡 d a) ∥₁

  pub same_coefficients : (p q : Polynomial) → p.0 ≡ q.0 → p ≡ q
  same_coefficients p q e = Σ_prop_path (λ a. ∥∥₁_prop) e

  -- Shut: a proof opens it only to read coefficients.
  unfoldable pub polynomial_ring : Ring Polynomial
  polynomial_ring =
      record {
        is_set = Σ_set (→_set 𝓡.is_set) (λ a. prop→set ∥∥₁_prop);
        𝟎 = (null 𝓡, ∣ (0, λ i l. refl) ∣₁);
        𝟏 = (unit 𝓡, ∣ (1, ends_monomial 𝓡 𝓡.𝟏 0) ∣₁);
        sum =
            λ p q. (
              ◌⊞◌ 𝓡 p.0 q.0,
              ∥∥₁_map₂ p.1 q.1 (λ u v. (u.0 + v.0, ends_sum 𝓡 (u.0 + v.0) p.0 q.0 (λ i l. u.1 i (omega arith)) (λ i l. v.1 i (omega arith)))),
            );
        negative = λ p. (opposite 𝓡 p.0, ∥∥₁_map p.1 (λ u. (u.0, ends_opposite 𝓡 u.0 p.0 u.1)));
        product =
            λ p q. (
              ◌∗◌ 𝓡 p.0 q.0,
              ∥∥₁_map₂ p.1 q.1 (λ u v. (u.0 + v.0, ends_product 𝓡 u.0 v.0 p.0 q.0 u.1 (λ i l. v.1 i (omega arith)))),
            );
        sum_assoc = λ p q r. same_coefficients _ _ ((series_ring 𝓡).sum_assoc p.0 q.0 r.0);
        sum_comm = λ p q. same_coefficients _ _ ((series_ring 𝓡).sum_comm p.0 q.0);
        sum_zero = λ p. same_coefficients _ _ ((series_ring 𝓡).sum_zero p.0);
        sum_negative = λ p. same_coefficients _ _ ((series_ring 𝓡).sum_negative p.0);
        product_assoc = λ p q r. same_coefficients _ _ ((series_ring 𝓡).product_assoc p.0 q.0 r.0);
        product_comm = λ p q. same_coefficients _ _ ((series_ring 𝓡).product_comm p.0 q.0);
        product_one = λ p. same_coefficients _ _ ((series_ring 𝓡).product_one p.0);
        distributes = λ p q r. same_coefficients _ _ ((series_ring 𝓡).distributes p.0 q.0 r.0);
      }

  pub of_one : polynomial_ring.𝟏.0 ≡ unit 𝓡
  unfolding polynomial_ring
  of_one = refl

  pub of_difference : (p q : Polynomial) (i : ℕ) → (difference polynomial_ring p q).0 i ≡ difference 𝓡 (p.0 i) (q.0 i)
  unfolding polynomial_ring
  of_difference p q i = refl

  -- c·z^k
  abbrev pub term : E → ℕ → Polynomial
  term c k = (monomial 𝓡 c k, ∣ (suc k, ends_monomial 𝓡 c k) ∣₁)

  pub term_from : (c : E) (k : ℕ) (p : Polynomial) (i n : ℕ) → k + i ≡ n → (polynomial_ring.product (term c k) p).0 n ≡ 𝓡.product c (p.0 i)
  unfolding polynomial_ring
  term_from c k p i n e = monomial_from 𝓡 c k p.0 i n e

  pub term_before : (c : E) (k : ℕ) (p : Polynomial) (n : ℕ) → n < k → (polynomial_ring.product (term c k) p).0 n ≡ 𝓡.𝟎
  unfolding polynomial_ring
  term_before c k p n l = monomial_before 𝓡 c k p.0 n l

module _ {E : Type 0} (𝓕 : Field E) where
  open 𝓕 use {ring as 𝓡}

  -- The polynomials over the field, and their ring.
  abbrev pub Poly : Type 0
  Poly = Polynomial 𝓡

  abbrev pub 𝓟 : Ring Poly
  𝓟 = polynomial_ring 𝓡

  open 𝓟 use {𝟎, 𝟏, sum as ◌⊕◌, product as ◌·◌}

  infixl 60 ◌⊕◌
  infixl 70 ◌·◌
  -- p has degree less than d, where 0 has degree less than any.
  pub record Under (d : ℕ) (p : Poly) : Type 0 where
    pub ends : Ends 𝓡 d p.0

  -- p has degree d.
  pub record Degree (d : ℕ) (p : Poly) : Type 0 where
    pub has : HasTop 𝓡 d p.0

  pub under_prop : (d : ℕ) (p : Poly) → IsProp (Ends 𝓡 d p.0)
  under_prop d p = Π_prop (λ i. Π_prop (λ l. 𝓡.is_set _ _))

  pub under_zero : (p : Poly) → Under 0 p → p ≡ 𝟎
  unfolding polynomial_ring
  under_zero p h = same_coefficients 𝓡 p 𝟎 (ends_null 𝓡 p.0 h.ends)

  pub zero_under : (d : ℕ) → Under d 𝟎
  unfolding polynomial_ring
  zero_under d = record { ends = λ i l. refl }

  pub under_more : (d e : ℕ) (p : Poly) → d ≤ e → Under d p → Under e p
  under_more d e p l h = record { ends = ends_later 𝓡 d e p.0 l h.ends }

  pub under_sum : (d : ℕ) (p q : Poly) → Under d p → Under d q → Under d (p ⊕ q)
  unfolding polynomial_ring
  under_sum d p q h k = record { ends = ends_sum 𝓡 d p.0 q.0 h.ends k.ends }

  pub under_difference : (d : ℕ) (p q : Poly) → Under d p → Under d q → Under d (difference 𝓟 p q)
  unfolding polynomial_ring
  under_difference d p q h k =
      record { ends = ends_sum 𝓡 d p.0 (opposite 𝓡 q.0) h.ends (ends_opposite 𝓡 d q.0 k.ends) }

  pub under_product : (d e : ℕ) (p q : Poly) → Under d p → Under (suc e) q → Under (d + e) (p · q)
  unfolding polynomial_ring
  under_product d e p q h k = record { ends = ends_product 𝓡 d e p.0 q.0 h.ends k.ends }

  pub degree_under : (d : ℕ) (p : Poly) → Degree d p → Under (suc d) p
  degree_under d p h = record { ends = h.has.ends }

  -- A degree is less than every bound.
  pub degree_less : (d e : ℕ) (p : Poly) → Degree d p → Under e p → d < e
  degree_less d e p h k = elim (dec_le e d) [ yes l ↦ absurd (h.has.top (k.ends d l)) | no l ↦ omega arith ]

  pub degree_not_zero : (d : ℕ) (p : Poly) → Degree d p → p ≢ 𝟎
  degree_not_zero d p h z = let l = degree_less d 0 p h (rw z (zero_under 0)) in omega arith

  pub degree_of : (d : ℕ) (p : Poly) → Under (suc d) p → ¬ (Under d p) → Degree d p
  degree_of d p h n =
      record { has = record { top = λ z. n (record { ends = ends_earlier 𝓡 d p.0 h.ends z }); ends = h.ends } }

  pub degree_product : (d e : ℕ) (p q : Poly) → Degree d p → Degree e q → Degree (d + e) (p · q)
  unfolding polynomial_ring
  degree_product d e p q h k = record { has = top_of_product 𝓕 d e p.0 q.0 h.has k.has }

  pub degree_one : Degree 0 𝟏
  unfolding polynomial_ring
  degree_one = record { has = record { top = 𝓕.one_not_zero; ends = ends_monomial 𝓡 𝓡.𝟏 0 } }

  pub under_term : (c : E) (k : ℕ) → Under (suc k) (term 𝓡 c k)
  under_term c k = record { ends = ends_monomial 𝓡 c k }

  pub degree_term : (c : E) (k : ℕ) → c ≢ 𝓡.𝟎 → Degree k (term 𝓡 c k)
  degree_term c k h =
      record { has = record { top = λ z. h (sym (monomial_top 𝓡 c k) ∙ z); ends = ends_monomial 𝓡 c k } }

  -- If p has degree d and p·q is under d + e, then q is under e.
  pub under_factor : (d e : ℕ) (p q : Poly) → Degree d p → Under (d + e) (p · q) → Under e q
  unfolding polynomial_ring
  under_factor d e p q h k =
      record { ends = ∥∥₁_elim q.1 (under_prop e q) (λ u. ends_factor 𝓕 u.0 d e p.0 q.0 h.has u.1 k.ends) }

  -- Polynomials have no zero divisors.
  pub factor_zero : (d : ℕ) (p q : Poly) → Degree d p → p · q ≡ 𝟎 → q ≡ 𝟎
  factor_zero d p q h e = under_zero q (under_factor d 0 p q h (rw e (zero_under (d + 0))))

  -- The first bound of a polynomial; with it, every polynomial is 0 or has a degree.
  pub first_bound : (p : Poly) → Extent 𝓕 p.0
  first_bound p = ∥∥₁_elim p.1 (extent_prop 𝓕 p.0) (λ u. extent 𝓕 u.0 p.0 u.1)

  pub zero_or_degree : (p : Poly) → (p ≡ 𝟎) ⊎ ((d : ℕ) × Degree d p)
  zero_or_degree p = go (first_bound p).0 (first_bound p).1.0 (first_bound p).1.1
    where
      go : (d : ℕ) → Ends 𝓡 d p.0 → ((e : ℕ) → Ends 𝓡 e p.0 → d ≤ e) → (p ≡ 𝟎) ⊎ ((d : ℕ) × Degree d p)
      go zero h least = inl (under_zero p (record { ends = h }))
      go (suc d) h least = inr (d, degree_of d p (record { ends = h }) (λ k. let l = least d k.ends in absurd (omega arith)))

  -- A lower polynomial does not change the degree.
  pub degree_difference : (d : ℕ) (p q : Poly) → Under d p → Degree d q → Degree d (difference 𝓟 p q)
  degree_difference d p q h k =
      degree_of d (difference 𝓟 p q) (under_difference (suc d) p q (under_more d (suc d) p (omega arith) h) (degree_under d q k)) lower
    where
      lower : ¬ (Under d (difference 𝓟 p q))
      lower u =
          let v : Under d q = rw (difference_twice 𝓟 p q) (under_difference d p (difference 𝓟 p q) h u) in
          let l = degree_less d d q k v in
          omega arith
