-- From the laws of a finite field on codes to the field of codes, and from coefficient functions to polynomials over it and
-- back: what is proved of polynomials over any field holds of coefficient functions.
use Rattle.std.proofs.Common.{◌≡◌, ℕ, zero, suc, ◌<◌, ◌≢◌, ◌↔◌, sym, refl, ap, ◌∙◌, arith}
use mathlib.Core.Path.{fun_ext}
use mathlib.Core.HLevel.{Discrete, hedberg, Σ_prop_path, Σ_prop_discrete}
use native.Mathlib.Bridge.{le_prop}
use native.Mathlib.Decide.{ℕ_discrete, dec_lt}
use Rattle.algebra.specs.Abstract.{Ring, Field, Code}
use Rattle.algebra.specs.Field.{Arithmetic, FieldLaws}
use Rattle.algebra.specs.Polynomial.{Below, HasDegree, add, subtract, multiply, IsPolynomial}
use Rattle.algebra.specs.Polynomial as coded
use Rattle.algebra.specs.Moduli as coded_moduli
use Rattle.algebra.proofs.Rings.{difference, negative_zero, times_zero}
use Rattle.algebra.proofs.Series.{Series, rest, ◌∗◌, monomial}
use Rattle.algebra.proofs.Degrees.{no_zero_divisor}
use Rattle.algebra.proofs.Polynomials.{Poly, 𝓟, polynomial_ring, same_coefficients, Under, Degree, first_bound, term}
use Rattle.algebra.proofs.Modulo.{Divides, Coprime, product_of}
use Rattle.algebra.proofs.Euclid.{Shared}

pub same_code : (q : ℕ) (a b : Code q) → a.0 ≡ b.0 → a ≡ b
same_code q a b e = Σ_prop_path (λ (k : ℕ). le_prop {n = suc k} {m = q}) {u = a} {v = b} e

pub decide_code : (q : ℕ) → Discrete (Code q)
decide_code q = Σ_prop_discrete (λ (k : ℕ). le_prop {n = suc k} {m = q}) ℕ_discrete

module _ (f : Arithmetic) (L : FieldLaws f) where
  unfoldable pub code_ring : Ring (Code f.order)
  code_ring =
      record {
        is_set = hedberg (decide_code f.order);
        𝟎 = (0, omega (arith, L.order_least));
        𝟏 = (1, omega (arith, L.order_least));
        sum = λ a b. (f.sum a.0 b.0, L.sum_below a.0 b.0);
        negative = λ a. (f.negative a.0, L.negative_below a.0);
        product = λ a b. (f.product a.0 b.0, L.product_below a.0 b.0);
        sum_assoc = λ a b c. same_code f.order _ _ (L.sum_assoc a.0 b.0 c.0 a.1 b.1 c.1);
        sum_comm = λ a b. same_code f.order _ _ (L.sum_comm a.0 b.0 a.1 b.1);
        sum_zero = λ a. same_code f.order _ _ (L.sum_zero a.0 a.1);
        sum_negative = λ a. same_code f.order _ _ (L.sum_negative a.0 a.1);
        product_assoc = λ a b c. same_code f.order _ _ (L.product_assoc a.0 b.0 c.0 a.1 b.1 c.1);
        product_comm = λ a b. same_code f.order _ _ (L.product_comm a.0 b.0 a.1 b.1);
        product_one = λ a. same_code f.order _ _ (L.product_one a.0 a.1);
        distributes = λ a b c. same_code f.order _ _ (L.distributes a.0 b.0 c.0 a.1 b.1 c.1);
      }

  -- The codes of a finite field form a field.
  unfoldable pub code_field : Field (Code f.order)
  unfolding code_ring
  code_field =
      record {
        ring = code_ring;
        decide = decide_code f.order;
        inverse = λ a. (f.inverse a.0, L.inverse_below a.0);
        product_inverse = λ a h. same_code f.order _ _ (L.product_inverse a.0 a.1 (positive a h));
        one_not_zero = λ e. let z : ◌≡◌ {A = ℕ} 1 0 = ap (λ (c : Code f.order). c.0) e in omega arith;
      }
    where
      positive : (a : Code f.order) → a ≢ code_ring.𝟎 → 0 < a.0
      positive a h =
          elim (dec_lt 0 a.0) [ yes l ↦ l | no l ↦ absurd (h (same_code f.order a code_ring.𝟎 (nothing a.0 l))) ]
        where
          nothing : (n : ℕ) → ¬ (0 < n) → n ≡ 0
          nothing n l = omega arith

  abbrev pub 𝓒 : Field (Code f.order)
  𝓒 = code_field

  pub zero_code : (a : Code f.order) → a.0 ≡ 0 → a ≡ 𝓒.ring.𝟎
  unfolding code_field code_ring
  zero_code a e = same_code f.order a code_ring.𝟎 e

  pub zero_value : (a : Code f.order) → a ≡ 𝓒.ring.𝟎 → a.0 ≡ 0
  unfolding code_field code_ring
  zero_value a e = ap (λ (c : Code f.order). c.0) e

  -- What the laws give besides, for codes.
  pub zero_below : 0 < f.order
  zero_below = omega (arith, L.order_least)

  pub negative_of_zero : f.negative 0 ≡ 0
  unfolding code_field code_ring
  negative_of_zero = ap (λ (a : Code f.order). a.0) (negative_zero code_ring)

  pub zero_sum : (a : ℕ) → a < f.order → f.sum 0 a ≡ a
  zero_sum a l = L.sum_comm 0 a zero_below l ∙ L.sum_zero a l

  pub product_zero : (a : ℕ) → a < f.order → f.product a 0 ≡ 0
  unfolding code_field code_ring
  product_zero a l = ap (λ (c : Code f.order). c.0) (times_zero code_ring (a, l))

  pub zero_product : (a : ℕ) → a < f.order → f.product 0 a ≡ 0
  zero_product a l = L.product_comm 0 a zero_below l ∙ product_zero a l

  pub one_product : (a : ℕ) → a < f.order → f.product 1 a ≡ a
  one_product a l = L.product_comm 1 a (omega (arith, L.order_least)) l ∙ L.product_one a l

  pub product_positive : (a b : ℕ) → a < f.order → b < f.order → 0 < a → 0 < b → 0 < f.product a b
  unfolding code_field code_ring
  product_positive a b la lb ga gb =
      elim (dec_lt 0 (f.product a b)) [
        | yes l ↦ l
        | no l ↦
            let z : f.product a b ≡ 0 = omega arith in
            let e : b ≡ 0 =
            ap (λ (c : Code f.order). c.0)
            (no_zero_divisor 𝓒 (a, la) (b, lb) (λ x. absurd (positive x)) (same_code f.order _ _ z)) in
            absurd (omega arith)
      ]
    where
      positive : ◌≡◌ {A = Code f.order} (a, la) code_ring.𝟎 → ⊥
      positive x = let z : a ≡ 0 = ap (λ (c : Code f.order). c.0) x in omega arith

  pub inverse_positive : (a : ℕ) → a < f.order → 0 < a → 0 < f.inverse a
  inverse_positive a l g =
      elim (dec_lt 0 (f.inverse a)) [
        | yes h ↦ h
        | no h ↦
            let z : f.inverse a ≡ 0 = omega arith in
            let e : ◌≡◌ {A = ℕ} 1 0 = sym (L.product_inverse a l g) ∙ ap (f.product a) z ∙ product_zero a l in
            absurd (omega arith)
      ]

  -- The polynomial of a coefficient function, and the coefficient function of a polynomial.
  abbrev pub lift : (p : ℕ → ℕ) → IsPolynomial f p → Poly 𝓒
  lift p h = (λ i. (p i, h.codes i), ∣ (h.bound, λ i l. zero_code (p i, h.codes i) (h.ends i l)) ∣₁)

  abbrev pub codes_of : Poly 𝓒 → ℕ → ℕ
  codes_of P = λ i. (P.0 i).0

  pub codes_polynomial : (P : Poly 𝓒) → IsPolynomial f (codes_of P)
  codes_polynomial P =
      let b = first_bound 𝓒 P in
      record { codes = λ i. (P.0 i).1; bound = b.0; ends = λ i l. zero_value (P.0 i) (b.1.0 i l) }

  -- Polynomials are equal if and only if their coefficient functions are.
  pub same_codes : (P Q : Poly 𝓒) → codes_of P ≡ codes_of Q → P ≡ Q
  same_codes P Q e =
      same_coefficients 𝓒.ring P Q
      (fun_ext (λ i. same_code f.order (P.0 i) (Q.0 i) (ap (λ (p : ℕ → ℕ). p i) e)))

  pub same_lifts : (p q : ℕ → ℕ) (h : IsPolynomial f p) (k : IsPolynomial f q) → lift p h ≡ lift q k ↔ p ≡ q
  same_lifts p q h k = (λ e. ap codes_of e, λ e. same_codes (lift p h) (lift q k) e)

  -- The operations agree.
  pub codes_zero : codes_of (𝓟 𝓒).𝟎 ≡ coded_moduli.nought
  unfolding polynomial_ring code_field code_ring
  codes_zero = refl

  pub codes_sum : (P Q : Poly 𝓒) → codes_of ((𝓟 𝓒).sum P Q) ≡ add f (codes_of P) (codes_of Q)
  unfolding polynomial_ring code_field code_ring
  codes_sum P Q = refl

  pub codes_difference : (P Q : Poly 𝓒) → codes_of (difference (𝓟 𝓒) P Q) ≡ subtract f (codes_of P) (codes_of Q)
  unfolding polynomial_ring code_field code_ring
  codes_difference P Q = refl

  series_product : (n : ℕ) (a b : Series (Code f.order)) → (◌∗◌ 𝓒.ring a b n).0 ≡ multiply f (λ i. (a i).0) (λ i. (b i).0) n
  unfolding ◌∗◌ multiply code_field code_ring
  series_product zero a b = refl
  series_product (suc n) a b = ap (f.sum (f.product (a 0).0 (b (suc n)).0)) (series_product n (rest a) b)

  pub codes_product : (P Q : Poly 𝓒) → codes_of ((𝓟 𝓒).product P Q) ≡ multiply f (codes_of P) (codes_of Q)
  unfolding polynomial_ring
  codes_product P Q = fun_ext (λ n. series_product n P.0 Q.0)

  series_monomial : (c : Code f.order) (k n : ℕ) → (monomial 𝓒.ring c k n).0 ≡ coded_moduli.monomial c.0 k n
  unfolding code_field code_ring
  series_monomial c zero zero = refl
  series_monomial c zero (suc n) = refl
  series_monomial c (suc k) zero = refl
  series_monomial c (suc k) (suc n) = series_monomial c k n

  pub codes_term : (c : Code f.order) (k : ℕ) → codes_of (term 𝓒.ring c k) ≡ coded_moduli.monomial c.0 k
  codes_term c k = fun_ext (series_monomial c k)

  pub codes_one : codes_of (𝓟 𝓒).𝟏 ≡ coded_moduli.one
  unfolding polynomial_ring code_field code_ring
  codes_one = fun_ext (series_monomial code_ring.𝟏 0)

  pub codes_product_of : (m : ℕ → Poly 𝓒) (n : ℕ)
      → codes_of (product_of (𝓟 𝓒) m n) ≡ coded_moduli.product_of f (λ i. codes_of (m i)) n
  unfolding product_of coded_moduli.product_of
  codes_product_of m zero = codes_one
  codes_product_of m (suc n) =
      codes_product (product_of (𝓟 𝓒) m n) (m n) ∙ ap (λ (p : ℕ → ℕ). multiply f p (codes_of (m n))) (codes_product_of m n)

  -- Bounds and degrees agree.
  pub under_from : (d : ℕ) (P : Poly 𝓒) → Below d (codes_of P) → Under 𝓒 d P
  under_from d P h = record { ends = λ i l. zero_code (P.0 i) (h i l) }

  pub below_from : (d : ℕ) (P : Poly 𝓒) → Under 𝓒 d P → Below d (codes_of P)
  below_from d P h i l = zero_value (P.0 i) (h.ends i l)

  pub degree_from : (d : ℕ) (P : Poly 𝓒) → HasDegree d (codes_of P) → Degree 𝓒 d P
  degree_from d P h =
      record {
        has =
            record {
              top = λ e. let z = zero_value (P.0 d) e in let l = h.leading in omega arith;
              ends = (under_from (suc d) P h.above).ends;
            };
      }

  pub has_degree_from : (d : ℕ) (P : Poly 𝓒) → Degree 𝓒 d P → HasDegree d (codes_of P)
  has_degree_from d P h =
      record {
        leading = elim (dec_lt 0 (P.0 d).0) [ yes l ↦ l | no l ↦ absurd (h.has.top (zero_code (P.0 d) (omega arith))) ];
        above = below_from (suc d) P (record { ends = h.has.ends });
      }

  -- So do divisibility, shared factors and coprimality.
  pub divides_from : (M A : Poly 𝓒) → coded.Divides f (codes_of M) (codes_of A) → Divides (𝓟 𝓒) M A
  divides_from M A h =
      let B = lift h.by h.by_polynomial in
      record { by = B; is = same_codes A ((𝓟 𝓒).product B M) (h.is ∙ sym (codes_product B M)) }

  pub coded_divides_from : (M A : Poly 𝓒) → Divides (𝓟 𝓒) M A → coded.Divides f (codes_of M) (codes_of A)
  coded_divides_from M A h =
      record {
        by = codes_of h.by;
        by_polynomial = codes_polynomial h.by;
        is = ap codes_of h.is ∙ codes_product h.by M;
      }

  pub shared_from : (M N : Poly 𝓒) → coded.ShareFactor f (codes_of M) (codes_of N) → Shared 𝓒 M N
  shared_from M N h =
      let g = lift h.factor h.factor_polynomial in
      record {
        factor = g;
        degree = h.degree;
        degree_least = h.degree_least;
        has_degree = degree_from h.degree g h.has_degree;
        divides_left = divides_from g M h.divides_left;
        divides_right = divides_from g N h.divides_right;
      }

  pub share_factor_from : (M N : Poly 𝓒) → Shared 𝓒 M N → coded.ShareFactor f (codes_of M) (codes_of N)
  share_factor_from M N h =
      record {
        factor = codes_of h.factor;
        factor_polynomial = codes_polynomial h.factor;
        degree = h.degree;
        degree_least = h.degree_least;
        has_degree = has_degree_from h.degree h.factor h.has_degree;
        divides_left = coded_divides_from h.factor M h.divides_left;
        divides_right = coded_divides_from h.factor N h.divides_right;
      }

  pub codes_combination : (u m v n : Poly 𝓒)
      → codes_of ((𝓟 𝓒).sum ((𝓟 𝓒).product u m) ((𝓟 𝓒).product v n)) ≡ add f (multiply f (codes_of u) (codes_of m)) (multiply f (codes_of v) (codes_of n))
  codes_combination u m v n =
      codes_sum ((𝓟 𝓒).product u m) ((𝓟 𝓒).product v n)
      ∙ rw (codes_product u m, codes_product v n) refl

  pub coprime_from : (M N : Poly 𝓒) → coded_moduli.Coprime f (codes_of M) (codes_of N) → Coprime (𝓟 𝓒) M N
  coprime_from M N h =
      let u = lift h.left h.left_polynomial in
      let v = lift h.right h.right_polynomial in
      record {
        left = u;
        right = v;
        is = same_codes ((𝓟 𝓒).sum ((𝓟 𝓒).product u M) ((𝓟 𝓒).product v N)) (𝓟 𝓒).𝟏 (codes_combination u M v N ∙ h.is ∙ sym codes_one);
      }

  pub coded_coprime_from : (M N : Poly 𝓒) → Coprime (𝓟 𝓒) M N → coded_moduli.Coprime f (codes_of M) (codes_of N)
  coded_coprime_from M N h =
      record {
        left = codes_of h.left;
        left_polynomial = codes_polynomial h.left;
        right = codes_of h.right;
        right_polynomial = codes_polynomial h.right;
        is = sym (codes_combination h.left M h.right N) ∙ ap codes_of h.is ∙ codes_one;
      }
