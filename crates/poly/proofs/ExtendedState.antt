-- The states of the extended algorithm as their facts on coefficients, and as the theory has them: one step keeps them.
use Rattle.std.proofs.Common.{◌≡◌, ℕ, zero, suc, ◌+◌, ◌-◌, ◌≤◌, List, ◌∷◌, length, take, replicate, sym, refl, ap, ◌∙◌, inl, inr, arith}
use mathlib.Core.Path.{fun_ext}
use native.Mathlib.Decide.{dec_lt}
use Rattle.algebra.specs.Field.{Arithmetic, FieldLaws}
use Rattle.algebra.specs.Polynomial.{Below, HasDegree, IsPolynomial, subtract, multiply, coefficients}
use Rattle.algebra.specs.Moduli.{nought, one}
use Rattle.algebra.proofs.Codes.{lift, codes_of, codes_polynomial, same_codes, codes_combination, under_from, below_from, degree_from, has_degree_from, divides_from, coded_divides_from}
use Rattle.algebra.proofs.Coefficients.{degree_less, nought_or_degree}
use Rattle.algebra.proofs.Reading.{Euclidean, euclid_start, euclid_step}
use Rattle.algebra.proofs.Remainders.{zeros_nought}
use Rattle.algebra.proofs.Residues.{quotient_degree}
use Rattle.poly.specs.Extended.{Extended, Running}
use Rattle.poly.specs.declared.steps.Euclid.{Euclid}
use Rattle.poly.specs.Slices.{Divided, Significant, capacity}
use Rattle.poly.proofs.Fronts.{front_is}

-- How many codes are significant: none of zero, and else one more than the degree.
pub significant_none : (p : ℕ → ℕ) (n : ℕ) → Below 0 p → Significant p n → n ≡ 0
significant_none p n z s =
    elim (dec_lt 0 n) [ yes l ↦ absurd (omega (arith, s.leading l, z (n - 1) (omega arith))) | no l ↦ omega arith ]

pub significant_most : (d : ℕ) (p : ℕ → ℕ) (n : ℕ) → HasDegree d p → Significant p n → n ≤ suc d
significant_most d p n h s =
    elim (dec_lt (suc d) n) [
      | yes l ↦ absurd (omega (arith, s.leading (omega arith), h.above (n - 1) (omega arith)))
      | no l ↦ omega arith
    ]

-- What is taken off is the product of the whole slices.
pub fronts_taken : (f : Arithmetic) (p x : ℕ → ℕ) (q t : List ℕ) (nq nt : ℕ) → nq ≤ length q → nt ≤ length t → Significant (coefficients q) nq
    → Significant (coefficients t) nt → x ≡ subtract f p (multiply f (coefficients (take nq q)) (coefficients (take nt t)))
    → x ≡ subtract f p (multiply f (coefficients q) (coefficients t))
fronts_taken f p x q t nq nt lq lt sq st e =
    e ∙ ap (λ (y : ℕ → ℕ). subtract f p (multiply f y (coefficients (take nt t)))) (front_is q nq sq.above lq)
    ∙ ap (λ (y : ℕ → ℕ). subtract f p (multiply f (coefficients q) y)) (front_is t nt st.above lt)

module _ (f : Arithmetic) (L : FieldLaws f) where
  pub from_euclidean : (D : ℕ) (M Y p r t₀ t : ℕ → ℕ) → Euclidean f L D M Y p r t₀ t → Extended f D M Y p r t₀ t
  from_euclidean D M Y p r t₀ t I =
      let hM = I.M_polynomial in
      let hY = I.Y_polynomial in
      let hp = I.previous_polynomial in
      let hr = I.remainder_polynomial in
      let h₀ = I.t_previous_polynomial in
      let ht = I.t_polynomial in
      let R = I.run in
      record {
        M_polynomial = hM;
        Y_polynomial = hY;
        previous_polynomial = hp;
        current_polynomial = hr;
        t_previous_polynomial = h₀;
        t_polynomial = ht;
        s_previous = codes_of f L R.s_previous;
        s_previous_polynomial = codes_polynomial f L R.s_previous;
        s = codes_of f L R.s;
        s_polynomial = codes_polynomial f L R.s;
        previous_is = ap (codes_of f L) R.previous_is ∙ codes_combination f L R.s_previous (lift f L M hM) (lift f L t₀ h₀) (lift f L Y hY);
        current_is = ap (codes_of f L) R.remainder_is ∙ codes_combination f L R.s (lift f L M hM) (lift f L t ht) (lift f L Y hY);
        t_degree = R.t_degree;
        t_has = has_degree_from f L R.t_degree (lift f L t ht) R.t_has;
        t_previous_below = below_from f L R.t_degree (lift f L t₀ h₀) R.t_previous_under;
        previous_degree = R.previous_degree;
        previous_has = has_degree_from f L R.previous_degree (lift f L p hp) R.previous_has;
        current_below = below_from f L R.previous_degree (lift f L r hr) R.remainder_under;
        degrees = R.total;
        common =
            λ g hg a b.
            let both = R.common (lift f L g hg) (divides_from f L (lift f L g hg) (lift f L p hp) a) (divides_from f L (lift f L g hg) (lift f L r hr) b) in
            (coded_divides_from f L (lift f L g hg) (lift f L M hM) both.0, coded_divides_from f L (lift f L g hg) (lift f L Y hY) both.1);
      }

  pub to_euclidean : (D : ℕ) (M Y p r t₀ t : ℕ → ℕ) → Extended f D M Y p r t₀ t → Euclidean f L D M Y p r t₀ t
  to_euclidean D M Y p r t₀ t E =
      let hM = E.M_polynomial in
      let hY = E.Y_polynomial in
      let hp = E.previous_polynomial in
      let hr = E.current_polynomial in
      let h₀ = E.t_previous_polynomial in
      let ht = E.t_polynomial in
      let S₀ = lift f L E.s_previous E.s_previous_polynomial in
      let S = lift f L E.s E.s_polynomial in
      record {
        M_polynomial = hM;
        Y_polynomial = hY;
        previous_polynomial = hp;
        remainder_polynomial = hr;
        t_previous_polynomial = h₀;
        t_polynomial = ht;
        run =
            record {
              s_previous = S₀;
              s = S;
              previous_is = same_codes f L _ _ (E.previous_is ∙ sym (codes_combination f L S₀ (lift f L M hM) (lift f L t₀ h₀) (lift f L Y hY)));
              remainder_is = same_codes f L _ _ (E.current_is ∙ sym (codes_combination f L S (lift f L M hM) (lift f L t ht) (lift f L Y hY)));
              t_degree = E.t_degree;
              t_has = degree_from f L E.t_degree (lift f L t ht) E.t_has;
              t_previous_under = under_from f L E.t_degree (lift f L t₀ h₀) E.t_previous_below;
              previous_degree = E.previous_degree;
              previous_has = degree_from f L E.previous_degree (lift f L p hp) E.previous_has;
              remainder_under = under_from f L E.previous_degree (lift f L r hr) E.current_below;
              total = E.degrees;
              common =
                  λ G a b.
                  let both =
                  E.common (codes_of f L G) (codes_polynomial f L G) (coded_divides_from f L G (lift f L p hp) a) (coded_divides_from f L G (lift f L r hr) b) in
                  (divides_from f L G (lift f L M hM) both.0, divides_from f L G (lift f L Y hY) both.1);
            };
      }

  pub extended_start : (D : ℕ) (M Y : ℕ → ℕ) → IsPolynomial f M → IsPolynomial f Y → HasDegree D M → Below D Y → Extended f D M Y M Y nought one
  extended_start D M Y hM hY h k = from_euclidean D M Y M Y nought one (euclid_start f L D M Y hM hY h k)

  pub extended_step : (e D : ℕ) (M Y p r t₀ t q n : ℕ → ℕ) → HasDegree e r → Divided f p r q n → Extended f D M Y p r t₀ t
      → Extended f D M Y r n t (subtract f t₀ (multiply f q t))
  extended_step e D M Y p r t₀ t q n h V E =
      from_euclidean D M Y r n t (subtract f t₀ (multiply f q t))
      (euclid_step f L D e M Y p r t₀ t q n (to_euclidean D M Y p r t₀ t E) h (V.by_degree e h))

  -- The product of quotient and factor fits the buffer: its degree is that of the next factor.
  pub counts_fit : (e : Euclid) (q n : ℕ → ℕ) (nq nt : ℕ) → Running f e → Divided f (coefficients e.previous) (coefficients e.current) q n
      → Significant q nq → Significant (coefficients e.t_current) nt → nt ≤ capacity → nq + nt ≤ capacity + 1
  counts_fit e q n nq nt R V sq st l =
      let E = R.holds in
      elim (nought_or_degree f L (coefficients e.current) E.current_polynomial) [
        | inl z ↦
            let zero_divisor : Below 0 (coefficients e.current) = λ i b. ap (λ (x : ℕ → ℕ). x i) z in
            omega (arith, significant_none q nq (V.by_zero zero_divisor).0 sq)
        | inr u ↦
            let less = degree_less u.0 E.previous_degree (coefficients e.current) u.1 E.current_below in
            let hq =
            quotient_degree f L E.previous_degree u.0 (coefficients e.previous) (coefficients e.current) q n E.current_polynomial u.1 (V.by_degree u.0 u.1)
            E.previous_has (omega arith) in
            omega (arith, significant_most (E.previous_degree - u.0) q nq hq sq, significant_most E.t_degree (coefficients e.t_current) nt E.t_has st, E.degrees, R.fits)
      ]

-- A buffer that begins with 1 and goes on with zeros.
pub unit_is : (n : ℕ) → coefficients (1 ∷ replicate n 0) ≡ one
unit_is n = fun_ext each
  where
    each : (i : ℕ) → coefficients (1 ∷ replicate n 0) i ≡ one i
    each zero = refl
    each (suc i) = ap (λ (x : ℕ → ℕ). x i) (zeros_nought n)
