-- Division with remainder: it exists, by long division, and it is unique.
use Rattle.std.proofs.Common.{◌≡◌, ℕ, zero, suc, ◌+◌, ◌-◌, ◌≤◌, sym, arith}
use Rattle.algebra.specs.Abstract.{Ring, Field}
use Rattle.algebra.proofs.Rings.{ring, cancel, times_assoc, times_comm, times_zero, zero_times, zero_plus, difference, difference_plus, difference_is, difference_zero}
use Rattle.algebra.proofs.Degrees.{ends_earlier}
use Rattle.algebra.proofs.Polynomials.{Poly, 𝓟, Under, Degree, term, term_from, of_difference, under_term, degree_under, degree_less, degree_of, under_zero, under_more, under_sum, under_difference, under_product, under_factor, first_bound}

module _ {R : Type 0} (𝓡 : Ring R) where
  open 𝓡 use {sum as ◌⊕◌, product as ◌·◌}

  infixl 60 ◌⊕◌
  infixl 70 ◌·◌
  -- With one multiple of m taken off first.
  take_off : (a m t q r : R) → difference 𝓡 a (t · m) ≡ q · m ⊕ r → a ≡ (t ⊕ q) · m ⊕ r
  take_off a m t q r e =
      let x : (q · m ⊕ r) ⊕ t · m ≡ (t ⊕ q) · m ⊕ r = simp ring in
      cc (difference_plus 𝓡 a (t · m))

  -- Two divisions of one element: the quotients' difference times m is that of the remainders.
  two_divisions : (m q r s t : R) → q · m ⊕ r ≡ s · m ⊕ t → m · difference 𝓡 q s ≡ difference 𝓡 t r
  two_divisions m q r s t e =
      difference_is 𝓡 t r (m · difference 𝓡 q s)
      (cancel 𝓡 (s · m) (m · difference 𝓡 q s ⊕ r) t (go (difference 𝓡 q s) (difference_plus 𝓡 q s)))
    where
      go : (u : R) → u ⊕ s ≡ q → s · m ⊕ (m · u ⊕ r) ≡ s · m ⊕ t
      go u h = let x : s · m ⊕ (m · u ⊕ r) ≡ (u ⊕ s) · m ⊕ r = simp ring in cc

module _ {E : Type 0} (𝓕 : Field E) where
  open 𝓕 use {ring as 𝓡, inverse, product_inverse}
  open 𝓟 𝓕 use {𝟎, sum as ◌⊕◌, product as ◌·◌}

  infixl 60 ◌⊕◌
  infixl 70 ◌·◌
  -- a = quotient · m + remainder, with the remainder under d, the degree of m.
  pub record Division (d : ℕ) (m a : Poly 𝓕) : Type 0 where
    pub quotient : Poly 𝓕
    pub remainder : Poly 𝓕
    pub remainder_under : Under 𝓕 d remainder
    pub is : a ≡ quotient · m ⊕ remainder

  -- The multiple of m that takes off a coefficient x of z^(d + k): m's leading coefficient goes into x that often.
  leading : (k d : ℕ) (m : Poly 𝓕) → E → Poly 𝓕
  leading k d m x = term 𝓡 (𝓡.product x (inverse (m.0 d))) k

  leading_under : (k d : ℕ) (m : Poly 𝓕) (x : E) → Under 𝓕 (suc k) (leading k d m x)
  unfolding leading
  leading_under k d m x = under_term 𝓕 (𝓡.product x (inverse (m.0 d))) k

  leading_at : (k d : ℕ) (m : Poly 𝓕) (x : E) → Degree 𝓕 d m → (leading k d m x · m).0 (d + k) ≡ x
  unfolding leading
  leading_at k d m x h =
      cc (
        term_from 𝓡 (𝓡.product x (inverse (m.0 d))) k m d (d + k) (omega arith),
        times_assoc 𝓡 x (inverse (m.0 d)) (m.0 d),
        times_comm 𝓡 (inverse (m.0 d)) (m.0 d),
        product_inverse (m.0 d) h.has.top,
        𝓡.product_one x,
      )

  leading_off : (k d : ℕ) (m a : Poly 𝓕) → Degree 𝓕 d m → Under 𝓕 (d + suc k) a
      → Under 𝓕 (d + k) (difference (𝓟 𝓕) a (leading k d m (a.0 (d + k)) · m))
  leading_off k d m a hm ha =
      let t = leading k d m (a.0 (d + k)) in
      let ht = under_product 𝓕 (suc k) d t m (leading_under k d m (a.0 (d + k))) (degree_under 𝓕 d m hm) in
      let whole =
      under_difference 𝓕 (suc (d + k)) a (t · m) (under_more 𝓕 (d + suc k) (suc (d + k)) a (omega arith) ha)
      (under_more 𝓕 (suc k + d) (suc (d + k)) (t · m) (omega arith) ht) in
      let top : (difference (𝓟 𝓕) a (t · m)).0 (d + k) ≡ 𝓡.𝟎 =
      cc (of_difference 𝓡 a (t · m) (d + k), leading_at k d m (a.0 (d + k)) hm, 𝓡.sum_negative (a.0 (d + k))) in
      record { ends = ends_earlier 𝓡 (d + k) (difference (𝓟 𝓕) a (t · m)).0 whole.ends top }

  -- Long division, k steps.
  pub divide_steps : (k d : ℕ) (m a : Poly 𝓕) → Degree 𝓕 d m → Under 𝓕 (d + k) a → Division d m a
  divide_steps zero d m a hm ha =
      record {
        quotient = 𝟎;
        remainder = a;
        remainder_under = under_more 𝓕 (d + 0) d a (omega arith) ha;
        is = sym (cc (zero_times (𝓟 𝓕) m, zero_plus (𝓟 𝓕) a));
      }
  divide_steps (suc k) d m a hm ha = finish (divide_steps k d m (difference (𝓟 𝓕) a (t · m)) hm (leading_off k d m a hm ha))
    where
      t : Poly 𝓕
      t = leading k d m (a.0 (d + k))

      finish : Division d m (difference (𝓟 𝓕) a (t · m)) → Division d m a
      finish D =
          record {
            quotient = t ⊕ D.quotient;
            remainder = D.remainder;
            remainder_under = D.remainder_under;
            is = take_off (𝓟 𝓕) a m t D.quotient D.remainder D.is;
          }

  pub divide : (d : ℕ) (m a : Poly 𝓕) → Degree 𝓕 d m → Division d m a
  divide d m a hm =
      let b = first_bound 𝓕 a in
      divide_steps b.0 d m a hm (under_more 𝓕 b.0 (d + b.0) a (omega arith) (record { ends = b.1.0 }))

  pub divide_unique : (d : ℕ) (m q r s t : Poly 𝓕) → Degree 𝓕 d m → Under 𝓕 d r → Under 𝓕 d t
      → q · m ⊕ r ≡ s · m ⊕ t → (q ≡ s) × (r ≡ t)
  divide_unique d m q r s t hm hr ht e =
      let x = two_divisions (𝓟 𝓕) m q r s t e in
      let low : Under 𝓕 (d + 0) (m · difference (𝓟 𝓕) q s) =
      rw x (under_more 𝓕 d (d + 0) (difference (𝓟 𝓕) t r) (omega arith) (under_difference 𝓕 d t r ht hr)) in
      let none = under_zero 𝓕 (difference (𝓟 𝓕) q s) (under_factor 𝓕 d 0 m (difference (𝓟 𝓕) q s) hm low) in
      let same : difference (𝓟 𝓕) t r ≡ 𝟎 = cc (times_zero (𝓟 𝓕) m) in
      (difference_zero (𝓟 𝓕) q s none, sym (difference_zero (𝓟 𝓕) t r same))

  -- How high a quotient is: if a is under d + k and m has degree d, under k.
  pub quotient_under : (k d : ℕ) (a m q r : Poly 𝓕) → Degree 𝓕 d m → Under 𝓕 (d + k) a → Under 𝓕 d r → a ≡ q · m ⊕ r → Under 𝓕 k q
  quotient_under k d a m q r hm ha hr e =
      under_factor 𝓕 d k m q hm
      (rw (times_comm (𝓟 𝓕) m q, difference_is (𝓟 𝓕) a r (q · m) (sym e))
      (under_difference 𝓕 (d + k) a r ha (under_more 𝓕 d (d + k) r (omega arith) hr)))

  -- If a has degree n, at least d, the quotient has degree n - d.
  pub quotient_degree : (n d : ℕ) (a m q r : Poly 𝓕) → Degree 𝓕 n a → Degree 𝓕 d m → d ≤ n → Under 𝓕 d r
      → a ≡ q · m ⊕ r → Degree 𝓕 (n - d) q
  quotient_degree n d a m q r ha hm l hr e =
      degree_of 𝓕 (n - d) q
      (quotient_under (suc (n - d)) d a m q r hm (under_more 𝓕 (suc n) (d + suc (n - d)) a (omega arith) (degree_under 𝓕 n a ha)) hr e)
      lower
    where
      lower : ¬ (Under 𝓕 (n - d) q)
      lower h =
          let x = under_more 𝓕 (n - d + d) n (q · m) (omega arith) (under_product 𝓕 (n - d) d q m h (degree_under 𝓕 d m hm)) in
          let y : Under 𝓕 n a = rw e (under_sum 𝓕 n (q · m) r x (under_more 𝓕 d n r l hr)) in
          let z = degree_less 𝓕 n n a ha y in
          omega arith
