-- Division, divisibility, congruence and coprimality on coefficient functions, and families of moduli with their product.
use Rattle.std.proofs.Common.{◌≡◌, ℕ, suc, ◌+◌, ◌-◌, ◌<◌, ◌≤◌, ◌⊎◌, sym, refl, ap, ◌∙◌, inl, inr, arith}
use Rattle.algebra.specs.Abstract.{Ring}
use Rattle.algebra.specs.Field.{Arithmetic, FieldLaws}
use Rattle.algebra.specs.Polynomial.{Below, HasDegree, add, subtract, multiply, IsPolynomial, Divides, ShareFactor, IsDivision}
use Rattle.algebra.specs.Moduli.{monomial, one, nought, Congruent, Coprime, product_of, total, PairwiseCoprime}
use Rattle.algebra.proofs.Rings.{difference}
use Rattle.algebra.proofs.Polynomials.{Poly, 𝓟}
use Rattle.algebra.proofs.Division as theory_division
use Rattle.algebra.proofs.Modulo as theory
use Rattle.algebra.proofs.Euclid as theory_euclid
use Rattle.algebra.proofs.Codes.{𝓒, lift, codes_of, codes_polynomial, same_codes, codes_one, codes_sum, codes_difference, codes_product, codes_combination, codes_product_of, under_from, below_from, degree_from, has_degree_from, divides_from, coded_divides_from, shared_from, share_factor_from, coprime_from, coded_coprime_from}
use Rattle.algebra.proofs.Coefficients.{lift_add, lift_subtract, lift_multiply, lift_one, add_polynomial, subtract_polynomial, multiply_polynomial, one_polynomial, nought_polynomial, add_nought, nought_add, nought_multiply, nought_below, subtract_is, subtract_nought, below_subtract, below_more, below_earlier, below_multiply, monomial_polynomial, monomial_from, monomial_off, subtract_add, add_comm, add_assoc, add_multiply, multiply_comm, multiply_one}

module _ (f : Arithmetic) (L : FieldLaws f) where
  abbrev 𝓠 : Ring (Poly (𝓒 f L))
  𝓠 = 𝓟 (𝓒 f L)

  abbrev up : (p : ℕ → ℕ) → IsPolynomial f p → Poly (𝓒 f L)
  up = lift f L

  abbrev Is : (ℕ → ℕ) → Type 0
  Is = IsPolynomial f

  -- Division.
  codes_division : (Q M R : Poly (𝓒 f L)) → codes_of f L (𝓠.sum (𝓠.product Q M) R) ≡ add f (multiply f (codes_of f L Q) (codes_of f L M)) (codes_of f L R)
  codes_division Q M R = codes_sum f L (𝓠.product Q M) R ∙ rw (codes_product f L Q M) refl

  pub divide : (d : ℕ) (a m : ℕ → ℕ) → Is a → Is m → HasDegree d m → (q : ℕ → ℕ) × (r : ℕ → ℕ) × IsDivision f d a m q r
  divide d a m ha hm h =
      let D = theory_division.divide (𝓒 f L) d (up m hm) (up a ha) (degree_from f L d (up m hm) h) in (
        codes_of f L D.quotient,
        codes_of f L D.remainder,
        record {
          quotient_polynomial = codes_polynomial f L D.quotient;
          remainder_polynomial = codes_polynomial f L D.remainder;
          remainder_below = below_from f L d D.remainder D.remainder_under;
          is = ap (codes_of f L) D.is ∙ codes_division D.quotient (up m hm) D.remainder;
        },
      )

  pub division_up : (d : ℕ) (a m q r : ℕ → ℕ) (ha : Is a) (hm : Is m) (D : IsDivision f d a m q r)
      → up a ha ≡ 𝓠.sum (𝓠.product (up q D.quotient_polynomial) (up m hm)) (up r D.remainder_polynomial)
  division_up d a m q r ha hm D =
      same_codes f L _ _ (D.is ∙ sym (codes_division (up q D.quotient_polynomial) (up m hm) (up r D.remainder_polynomial)))

  pub divided_polynomial : (d : ℕ) (a m q r : ℕ → ℕ) → Is m → IsDivision f d a m q r → Is a
  divided_polynomial d a m q r hm D =
      rw D.is (add_polynomial f L (multiply f q m) r (multiply_polynomial f L q m D.quotient_polynomial hm) D.remainder_polynomial)

  pub divide_unique : (d : ℕ) (a m q r q' r' : ℕ → ℕ) → Is m → HasDegree d m → IsDivision f d a m q r → IsDivision f d a m q' r'
      → (q ≡ q') × (r ≡ r')
  divide_unique d a m q r q' r' hm h D D' =
      let ha = divided_polynomial d a m q r hm D in
      let R = up r D.remainder_polynomial in
      let R' = up r' D'.remainder_polynomial in
      let same =
      theory_division.divide_unique (𝓒 f L) d (up m hm) (up q D.quotient_polynomial) R (up q' D'.quotient_polynomial) R'
      (degree_from f L d (up m hm) h) (under_from f L d R D.remainder_below) (under_from f L d R' D'.remainder_below)
      (sym (division_up d a m q r ha hm D) ∙ division_up d a m q' r' ha hm D') in
      (ap (codes_of f L) same.0, ap (codes_of f L) same.1)

  -- Long division, step by step: a = q·m + r all along. Where r is below d + k + 1 and c·m_d is its coefficient of z^(d+k),
  -- to take c·z^k·m off r and to add c·z^k to q brings r below d + k.
  pub division_start : (a m : ℕ → ℕ) → Is a → Is m → a ≡ add f (multiply f nought m) a
  division_start a m ha hm = sym (ap (λ (p : ℕ → ℕ). add f p a) (nought_multiply f L m hm) ∙ nought_add f L a ha)

  pub division_step : (a m q r t : ℕ → ℕ) → Is m → Is q → Is r → Is t → a ≡ add f (multiply f q m) r
      → a ≡ add f (multiply f (add f q t) m) (subtract f r (multiply f t m))
  division_step a m q r t hm hq hr ht e =
      let hqm = multiply_polynomial f L q m hq hm in
      let htm = multiply_polynomial f L t m ht hm in
      let hs = subtract_polynomial f L r (multiply f t m) hr htm in
      e ∙ ap (add f (multiply f q m)) (sym (subtract_add f L r (multiply f t m) hr htm) ∙ add_comm f L (subtract f r (multiply f t m)) (multiply f t m) hs htm)
      ∙ sym (add_assoc f L (multiply f q m) (multiply f t m) (subtract f r (multiply f t m)) hqm htm hs)
      ∙ ap (λ (p : ℕ → ℕ). add f p (subtract f r (multiply f t m))) (sym (add_multiply f L q t m hq ht hm))

  pub division_step_below : (d k c : ℕ) (m r : ℕ → ℕ) → Is m → Is r → c < f.order → HasDegree d m → Below (suc (d + k)) r
      → f.product c (m d) ≡ r (d + k) → Below (d + k) (subtract f r (multiply f (monomial c k) m))
  division_step_below d k c m r hm hr l h g e =
      let hc = monomial_polynomial f L c k l in
      let hcm = multiply_polynomial f L (monomial c k) m hc hm in
      let low =
      below_multiply f L (suc k) d (monomial c k) m hc hm (λ i b. monomial_off c k i (omega arith)) h.above in
      below_earlier (d + k) (subtract f r (multiply f (monomial c k) m))
      (below_subtract f L (suc (d + k)) r (multiply f (monomial c k) m) hr hcm g
      (below_more (suc k + d) (suc (d + k)) (multiply f (monomial c k) m) (omega arith) low))
      top
    where
      top : subtract f r (multiply f (monomial c k) m) (d + k) ≡ 0
      top =
          let swap : d + k ≡ k + d = omega arith in
          let there : multiply f (monomial c k) m (d + k) ≡ r (d + k) =
          ap (multiply f (monomial c k) m) swap ∙ monomial_from f L c k m d l hm ∙ e in
          ap (λ (x : ℕ). f.sum (r (d + k)) (f.negative x)) there ∙ L.sum_negative (r (d + k)) (hr.codes (d + k))

  -- What is lower than m is its own remainder.
  pub division_of_lower : (d : ℕ) (a m : ℕ → ℕ) → Is a → Is m → Below d a → IsDivision f d a m nought a
  division_of_lower d a m ha hm h =
      record {
        quotient_polynomial = nought_polynomial f L;
        remainder_polynomial = ha;
        remainder_below = h;
        is = division_start a m ha hm;
      }

  -- An exact division: t·a divided by t is a, and nothing remains.
  pub exact_division : (d : ℕ) (r t a : ℕ → ℕ) → Is t → Is a → r ≡ multiply f t a → IsDivision f d r t a nought
  exact_division d r t a ht ha e =
      record {
        quotient_polynomial = ha;
        remainder_polynomial = nought_polynomial f L;
        remainder_below = nought_below d;
        is = e ∙ multiply_comm f L t a ht ha ∙ sym (add_nought f L (multiply f a t) (multiply_polynomial f L a t ha ht));
      }

  pub quotient_below : (k d : ℕ) (a m q r : ℕ → ℕ) → Is m → HasDegree d m → IsDivision f d a m q r → Below (d + k) a → Below k q
  quotient_below k d a m q r hm h D g =
      let ha = divided_polynomial d a m q r hm D in
      let Q = up q D.quotient_polynomial in
      let R = up r D.remainder_polynomial in
      below_from f L k Q
      (theory_division.quotient_under (𝓒 f L) k d (up a ha) (up m hm) Q R (degree_from f L d (up m hm) h)
      (under_from f L (d + k) (up a ha) g) (under_from f L d R D.remainder_below) (division_up d a m q r ha hm D))

  pub quotient_degree : (n d : ℕ) (a m q r : ℕ → ℕ) → Is m → HasDegree d m → IsDivision f d a m q r → HasDegree n a → d ≤ n → HasDegree (n - d) q
  quotient_degree n d a m q r hm h D g l =
      let ha = divided_polynomial d a m q r hm D in
      let Q = up q D.quotient_polynomial in
      let R = up r D.remainder_polynomial in
      has_degree_from f L (n - d) Q
      (theory_division.quotient_degree (𝓒 f L) n d (up a ha) (up m hm) Q R (degree_from f L n (up a ha) g)
      (degree_from f L d (up m hm) h) l (under_from f L d R D.remainder_below) (division_up d a m q r ha hm D))

  -- Divisibility. What it says of lifted polynomials, and back.
  pub divides_up : (m a : ℕ → ℕ) (hm : Is m) (ha : Is a) → Divides f m a → theory.Divides 𝓠 (up m hm) (up a ha)
  divides_up m a hm ha h = divides_from f L (up m hm) (up a ha) h

  pub divides_down : (m a : ℕ → ℕ) (hm : Is m) (ha : Is a) → theory.Divides 𝓠 (up m hm) (up a ha) → Divides f m a
  divides_down m a hm ha h = coded_divides_from f L (up m hm) (up a ha) h

  pub divides_self : (m : ℕ → ℕ) → Is m → Divides f m m
  divides_self m hm = divides_down m m hm hm (theory.divides_self 𝓠 (up m hm))

  pub divides_nought : (m : ℕ → ℕ) → Is m → Divides f m nought
  divides_nought m hm =
      record { by = nought; by_polynomial = nought_polynomial f L; is = sym (nought_multiply f L m hm) }

  pub one_divides : (a : ℕ → ℕ) → Is a → Divides f one a
  one_divides a ha = record { by = a; by_polynomial = ha; is = sym (multiply_one f L a ha) }

  pub divides_multiple : (m a x : ℕ → ℕ) → Is m → Is a → Is x → Divides f m a → Divides f m (multiply f x a)
  divides_multiple m a x hm ha hx h =
      rw (codes_product f L (up x hx) (up a ha)) at
      (coded_divides_from f L (up m hm) (𝓠.product (up x hx) (up a ha))
      (theory.divides_multiple 𝓠 (up m hm) (up a ha) (up x hx) (divides_up m a hm ha h)))

  pub divides_product : (m a x : ℕ → ℕ) → Is m → Is a → Is x → Divides f m a → Divides f m (multiply f a x)
  divides_product m a x hm ha hx h = rw (multiply_comm f L a x ha hx) (divides_multiple m a x hm ha hx h)

  pub divides_add : (m a b : ℕ → ℕ) → Is m → Is a → Is b → Divides f m a → Divides f m b → Divides f m (add f a b)
  divides_add m a b hm ha hb h k =
      rw (codes_sum f L (up a ha) (up b hb)) at
      (coded_divides_from f L (up m hm) (𝓠.sum (up a ha) (up b hb))
      (theory.divides_sum 𝓠 (up m hm) (up a ha) (up b hb) (divides_up m a hm ha h) (divides_up m b hm hb k)))

  pub divides_subtract : (m a b : ℕ → ℕ) → Is m → Is a → Is b → Divides f m a → Divides f m b → Divides f m (subtract f a b)
  divides_subtract m a b hm ha hb h k =
      rw (codes_difference f L (up a ha) (up b hb)) at
      (coded_divides_from f L (up m hm) (difference 𝓠 (up a ha) (up b hb))
      (theory.divides_difference 𝓠 (up m hm) (up a ha) (up b hb) (divides_up m a hm ha h) (divides_up m b hm hb k)))

  pub divides_trans : (l m a : ℕ → ℕ) → Is l → Is m → Is a → Divides f l m → Divides f m a → Divides f l a
  divides_trans l m a hl hm ha h k =
      divides_down l a hl ha
      (theory.divides_trans 𝓠 (up l hl) (up m hm) (up a ha) (divides_up l m hl hm h) (divides_up m a hm ha k))

  -- A multiple of m that is lower than m is 0.
  pub multiple_nought : (d : ℕ) (m a : ℕ → ℕ) → Is m → Is a → HasDegree d m → Divides f m a → Below d a → a ≡ nought
  multiple_nought d m a hm ha h k g =
      sym (divide_unique d a m k.by nought nought a hm h
      (record {
        quotient_polynomial = k.by_polynomial;
        remainder_polynomial = nought_polynomial f L;
        remainder_below = nought_below d;
        is = k.is ∙ sym (add_nought f L (multiply f k.by m) (multiply_polynomial f L k.by m k.by_polynomial hm));
      })
      (division_of_lower d a m ha hm g)).1

  pub divisor_degree : (d n : ℕ) (m a : ℕ → ℕ) → Is m → Is a → HasDegree d m → HasDegree n a → Divides f m a → d ≤ n
  divisor_degree d n m a hm ha h k g =
      theory.divisor_degree (𝓒 f L) d n (up m hm) (up a ha) (degree_from f L d (up m hm) h) (degree_from f L n (up a ha) k)
      (divides_up m a hm ha g)

  -- Congruence.
  pub congruent_up : (m a b : ℕ → ℕ) (hm : Is m) (ha : Is a) (hb : Is b) → Congruent f m a b → theory.Congruent 𝓠 (up m hm) (up a ha) (up b hb)
  congruent_up m a b hm ha hb h =
      divides_from f L (up m hm) (difference 𝓠 (up a ha) (up b hb)) (rw (codes_difference f L (up a ha) (up b hb)) h)

  pub congruent_down : (m a b : ℕ → ℕ) (hm : Is m) (ha : Is a) (hb : Is b) → theory.Congruent 𝓠 (up m hm) (up a ha) (up b hb) → Congruent f m a b
  congruent_down m a b hm ha hb h =
      rw (codes_difference f L (up a ha) (up b hb)) at (coded_divides_from f L (up m hm) (difference 𝓠 (up a ha) (up b hb)) h)

  pub congruent_refl : (m a : ℕ → ℕ) → Is m → Is a → Congruent f m a a
  congruent_refl m a hm ha = congruent_down m a a hm ha ha (theory.congruent_refl 𝓠 (up m hm) (up a ha))

  pub congruent_sym : (m a b : ℕ → ℕ) → Is m → Is a → Is b → Congruent f m a b → Congruent f m b a
  congruent_sym m a b hm ha hb h =
      congruent_down m b a hm hb ha (theory.congruent_sym 𝓠 (up m hm) (up a ha) (up b hb) (congruent_up m a b hm ha hb h))

  pub congruent_trans : (m a b c : ℕ → ℕ) → Is m → Is a → Is b → Is c → Congruent f m a b → Congruent f m b c → Congruent f m a c
  congruent_trans m a b c hm ha hb hc h k =
      congruent_down m a c hm ha hc
      (theory.congruent_trans 𝓠 (up m hm) (up a ha) (up b hb) (up c hc) (congruent_up m a b hm ha hb h) (congruent_up m b c hm hb hc k))

  pub congruent_add : (m a b c d : ℕ → ℕ) → Is m → Is a → Is b → Is c → Is d → Congruent f m a b → Congruent f m c d
      → Congruent f m (add f a c) (add f b d)
  congruent_add m a b c d hm ha hb hc hd h k =
      congruent_down m (add f a c) (add f b d) hm (add_polynomial f L a c ha hc) (add_polynomial f L b d hb hd)
      (rw (lift_add f L a c ha hc (add_polynomial f L a c ha hc), lift_add f L b d hb hd (add_polynomial f L b d hb hd))
      (theory.congruent_sum 𝓠 (up m hm) (up a ha) (up b hb) (up c hc) (up d hd) (congruent_up m a b hm ha hb h) (congruent_up m c d hm hc hd k)))

  pub congruent_subtract : (m a b c d : ℕ → ℕ) → Is m → Is a → Is b → Is c → Is d → Congruent f m a b → Congruent f m c d
      → Congruent f m (subtract f a c) (subtract f b d)
  congruent_subtract m a b c d hm ha hb hc hd h k =
      congruent_down m (subtract f a c) (subtract f b d) hm (subtract_polynomial f L a c ha hc) (subtract_polynomial f L b d hb hd)
      (rw (lift_subtract f L a c ha hc (subtract_polynomial f L a c ha hc), lift_subtract f L b d hb hd (subtract_polynomial f L b d hb hd))
      (theory.congruent_difference 𝓠 (up m hm) (up a ha) (up b hb) (up c hc) (up d hd) (congruent_up m a b hm ha hb h) (congruent_up m c d hm hc hd k)))

  pub congruent_multiply : (m a b c d : ℕ → ℕ) → Is m → Is a → Is b → Is c → Is d → Congruent f m a b → Congruent f m c d
      → Congruent f m (multiply f a c) (multiply f b d)
  congruent_multiply m a b c d hm ha hb hc hd h k =
      congruent_down m (multiply f a c) (multiply f b d) hm (multiply_polynomial f L a c ha hc) (multiply_polynomial f L b d hb hd)
      (rw (lift_multiply f L a c ha hc (multiply_polynomial f L a c ha hc), lift_multiply f L b d hb hd (multiply_polynomial f L b d hb hd))
      (theory.congruent_product 𝓠 (up m hm) (up a ha) (up b hb) (up c hc) (up d hd) (congruent_up m a b hm ha hb h) (congruent_up m c d hm hc hd k)))

  -- What is congruent modulo n is so modulo every divisor of n.
  pub congruent_divisor : (m n a b : ℕ → ℕ) → Is m → Is n → Is a → Is b → Divides f m n → Congruent f n a b → Congruent f m a b
  congruent_divisor m n a b hm hn ha hb = divides_trans m n (subtract f a b) hm hn (subtract_polynomial f L a b ha hb)

  -- A remainder is congruent to what was divided, and is the only one of lower degree than m.
  pub remainder_congruent : (d : ℕ) (a m q r : ℕ → ℕ) → Is m → IsDivision f d a m q r → Congruent f m a r
  remainder_congruent d a m q r hm D =
      record {
        by = q;
        by_polynomial = D.quotient_polynomial;
        is =
            sym (subtract_is f L a r (multiply f q m) (divided_polynomial d a m q r hm D) D.remainder_polynomial
            (multiply_polynomial f L q m D.quotient_polynomial hm) (sym D.is));
      }

  pub congruent_division : (d : ℕ) (a m r : ℕ → ℕ) → Is a → Is m → Is r → Below d r → (h : Congruent f m a r) → IsDivision f d a m h.by r
  congruent_division d a m r ha hm hr g h =
      record {
        quotient_polynomial = h.by_polynomial;
        remainder_polynomial = hr;
        remainder_below = g;
        is = sym (subtract_add f L a r ha hr) ∙ ap (λ (p : ℕ → ℕ). add f p r) h.is;
      }

  -- To take a multiple of m off changes nothing modulo m.
  pub multiple_off : (m r t : ℕ → ℕ) → Is m → Is r → Is t → Congruent f m r (subtract f r (multiply f t m))
  multiple_off m r t hm hr ht =
      let htm = multiply_polynomial f L t m ht hm in
      let hs = subtract_polynomial f L r (multiply f t m) hr htm in
      record {
        by = t;
        by_polynomial = ht;
        is =
            sym (subtract_is f L r (subtract f r (multiply f t m)) (multiply f t m) hr hs htm
            (add_comm f L (multiply f t m) (subtract f r (multiply f t m)) htm hs ∙ subtract_add f L r (multiply f t m) hr htm));
      }

  pub congruent_same : (d : ℕ) (m a b : ℕ → ℕ) → Is m → Is a → Is b → HasDegree d m → Below d a → Below d b → Congruent f m a b → a ≡ b
  congruent_same d m a b hm ha hb h ka kb k =
      subtract_nought f L a b ha hb
      (multiple_nought d m (subtract f a b) hm (subtract_polynomial f L a b ha hb) h k (below_subtract f L d a b ha hb ka kb))

  -- Shared factors, as Euclid's algorithm keeps them: those of a and b are those of b and the remainder.
  pub share_factor_sym : (m n : ℕ → ℕ) → ShareFactor f m n → ShareFactor f n m
  share_factor_sym m n S =
      record {
        factor = S.factor;
        factor_polynomial = S.factor_polynomial;
        degree = S.degree;
        degree_least = S.degree_least;
        has_degree = S.has_degree;
        divides_left = S.divides_right;
        divides_right = S.divides_left;
      }

  pub share_factor_step : (d : ℕ) (a b q r : ℕ → ℕ) → Is a → Is b → IsDivision f d a b q r → ShareFactor f a b → ShareFactor f b r
  share_factor_step d a b q r ha hb D S =
      let hg = S.factor_polynomial in
      let hq = D.quotient_polynomial in
      let hr = D.remainder_polynomial in
      let hqb = multiply_polynomial f L q b hq hb in
      let rest : r ≡ subtract f a (multiply f q b) =
      subtract_is f L a (multiply f q b) r ha hqb hr (add_comm f L r (multiply f q b) hr hqb ∙ sym D.is) in
      record {
        factor = S.factor;
        factor_polynomial = hg;
        degree = S.degree;
        degree_least = S.degree_least;
        has_degree = S.has_degree;
        divides_left = S.divides_right;
        divides_right =
            rw rest
            (divides_subtract S.factor a (multiply f q b) hg ha hqb S.divides_left
            (divides_multiple S.factor b q hg hb hq S.divides_right));
      }

  pub share_factor_back : (d : ℕ) (a b q r : ℕ → ℕ) → Is b → IsDivision f d a b q r → ShareFactor f b r → ShareFactor f a b
  share_factor_back d a b q r hb D S =
      let hg = S.factor_polynomial in
      let hq = D.quotient_polynomial in
      record {
        factor = S.factor;
        factor_polynomial = hg;
        degree = S.degree;
        degree_least = S.degree_least;
        has_degree = S.has_degree;
        divides_left =
            rw D.is
            (divides_add S.factor (multiply f q b) r hg (multiply_polynomial f L q b hq hb) D.remainder_polynomial
            (divides_multiple S.factor b q hg hb hq S.divides_left) S.divides_right);
        divides_right = S.divides_left;
      }

  -- Where it ends: a polynomial of degree 1 or more is a factor that it shares with 0, and a constant other than 0 shares none.
  pub share_factor_nought : (d : ℕ) (p : ℕ → ℕ) → Is p → HasDegree d p → 1 ≤ d → ShareFactor f p nought
  share_factor_nought d p hp h l =
      record {
        factor = p;
        factor_polynomial = hp;
        degree = d;
        degree_least = l;
        has_degree = h;
        divides_left = divides_self p hp;
        divides_right = divides_nought p hp;
      }

  pub constant_shares_none : (p q : ℕ → ℕ) → Is p → HasDegree 0 p → ¬ (ShareFactor f p q)
  constant_shares_none p q hp h S =
      let l = divisor_degree S.degree 0 S.factor p S.factor_polynomial hp S.has_degree h S.divides_left in
      let g = S.degree_least in
      omega arith

  -- Coprimality.
  pub shared_or_coprime : (m n : ℕ → ℕ) → Is m → Is n → ShareFactor f m n ⊎ Coprime f m n
  shared_or_coprime m n hm hn =
      elim (theory_euclid.shared_or_coprime (𝓒 f L) (up m hm) (up n hn)) [
        | inl s ↦ inl (share_factor_from f L (up m hm) (up n hn) s)
        | inr c ↦ inr (coded_coprime_from f L (up m hm) (up n hn) c)
      ]

  pub coprime_not_shared : (m n : ℕ → ℕ) → Is m → Is n → Coprime f m n → ¬ (ShareFactor f m n)
  coprime_not_shared m n hm hn c s =
      theory_euclid.coprime_not_shared (𝓒 f L) (up m hm) (up n hn) (coprime_from f L (up m hm) (up n hn) c) (shared_from f L (up m hm) (up n hn) s)

  pub not_shared_coprime : (m n : ℕ → ℕ) → Is m → Is n → ¬ (ShareFactor f m n) → Coprime f m n
  not_shared_coprime m n hm hn h =
      elim (shared_or_coprime m n hm hn) [ inl s ↦ absurd (h s) | inr c ↦ c ]

  pub coprime_up : (m n : ℕ → ℕ) (hm : Is m) (hn : Is n) → Coprime f m n → theory.Coprime 𝓠 (up m hm) (up n hn)
  coprime_up m n hm hn c = coprime_from f L (up m hm) (up n hn) c

  pub coprime_sym : (m n : ℕ → ℕ) → Is m → Is n → Coprime f m n → Coprime f n m
  coprime_sym m n hm hn c =
      coded_coprime_from f L (up n hn) (up m hm) (theory.coprime_sym 𝓠 (up m hm) (up n hn) (coprime_up m n hm hn c))

  -- Coprime to m, n has an inverse modulo m.
  pub coprime_inverse : (n m : ℕ → ℕ) → Is n → Is m → (c : Coprime f n m) → Congruent f m (multiply f c.left n) one
  coprime_inverse n m hn hm c =
      let hl = c.left_polynomial in
      let hr = c.right_polynomial in
      let hln = multiply_polynomial f L c.left n hl hn in
      congruent_down m (multiply f c.left n) one hm hln (one_polynomial f L)
      (rw (lift_multiply f L c.left n hl hn hln, lift_one f L (one_polynomial f L))
      (theory.inverse_modulo 𝓠 (up n hn) (up m hm) (up c.left hl) (up c.right hr)
      (same_codes f L _ _ (codes_combination f L (up c.left hl) (up n hn) (up c.right hr) (up m hm) ∙ c.is ∙ sym (codes_one f L)))))

  pub coprime_one : (m : ℕ → ℕ) → Is m → Coprime f m one
  coprime_one m hm = rw (codes_one f L) at (coded_coprime_from f L (up m hm) 𝓠.𝟏 (theory.coprime_one 𝓠 (up m hm)))

  pub coprime_product : (m a b : ℕ → ℕ) → Is m → Is a → Is b → Coprime f m a → Coprime f m b → Coprime f m (multiply f a b)
  coprime_product m a b hm ha hb c d =
      rw (codes_product f L (up a ha) (up b hb)) at
      (coded_coprime_from f L (up m hm) (𝓠.product (up a ha) (up b hb))
      (theory.coprime_product 𝓠 (up m hm) (up a ha) (up b hb) (coprime_up m a hm ha c) (coprime_up m b hm hb d)))

  pub coprime_divides : (m n a : ℕ → ℕ) → Is m → Is n → Is a → Coprime f m n → Divides f m a → Divides f n a → Divides f (multiply f m n) a
  coprime_divides m n a hm hn ha c h k =
      rw (codes_product f L (up m hm) (up n hn)) at
      (coded_divides_from f L (𝓠.product (up m hm) (up n hn)) (up a ha)
      (theory.coprime_divides 𝓠 (up m hm) (up n hn) (up a ha) (coprime_up m n hm hn c) (divides_up m a hm ha h) (divides_up n a hn ha k)))

  -- Families.
  pub product_of_none : (m : ℕ → ℕ → ℕ) → product_of f m 0 ≡ one
  unfolding product_of
  product_of_none m = refl

  pub product_of_next : (m : ℕ → ℕ → ℕ) (n : ℕ) → product_of f m (suc n) ≡ multiply f (product_of f m n) (m n)
  unfolding product_of
  product_of_next m n = refl

  pub product_of_polynomial : (m : ℕ → ℕ → ℕ) (n : ℕ) → ((i : ℕ) → Is (m i)) → Is (product_of f m n)
  product_of_polynomial m n h =
      rw (codes_product_of f L (λ i. up (m i) (h i)) n) at (codes_polynomial f L (theory.product_of 𝓠 (λ i. up (m i) (h i)) n))

  pub product_of_up : (m : ℕ → ℕ → ℕ) (n : ℕ) (h : (i : ℕ) → Is (m i)) (k : Is (product_of f m n))
      → up (product_of f m n) k ≡ theory.product_of 𝓠 (λ i. up (m i) (h i)) n
  product_of_up m n h k = same_codes f L _ _ (sym (codes_product_of f L (λ i. up (m i) (h i)) n))

  pub product_of_degree : (m : ℕ → ℕ → ℕ) (d : ℕ → ℕ) (n : ℕ) → ((i : ℕ) → Is (m i)) → ((i : ℕ) → i < n → HasDegree (d i) (m i))
      → HasDegree (total d n) (product_of f m n)
  unfolding total
  product_of_degree m d n h k =
      rw (codes_product_of f L (λ i. up (m i) (h i)) n) at
      (has_degree_from f L (total d n) (theory.product_of 𝓠 (λ i. up (m i) (h i)) n)
      (theory.product_degree (𝓒 f L) (λ i. up (m i) (h i)) d (total d) n refl (λ i. refl) (λ i l. degree_from f L (d i) (up (m i) (h i)) (k i l))))

  pub member_divides : (m : ℕ → ℕ → ℕ) (n i : ℕ) → ((i : ℕ) → Is (m i)) → i < n → Divides f (m i) (product_of f m n)
  member_divides m n i h l =
      rw (codes_product_of f L (λ i. up (m i) (h i)) n) at
      (coded_divides_from f L (up (m i) (h i)) (theory.product_of 𝓠 (λ i. up (m i) (h i)) n)
      (theory.member_divides 𝓠 (λ i. up (m i) (h i)) n i l))

  pub coprime_all : (a : ℕ → ℕ) (m : ℕ → ℕ → ℕ) (n : ℕ) → Is a → ((i : ℕ) → Is (m i)) → ((i : ℕ) → i < n → Coprime f a (m i))
      → Coprime f a (product_of f m n)
  coprime_all a m n ha h c =
      rw (codes_product_of f L (λ i. up (m i) (h i)) n) at
      (coded_coprime_from f L (up a ha) (theory.product_of 𝓠 (λ i. up (m i) (h i)) n)
      (theory.coprime_all 𝓠 (up a ha) (λ i. up (m i) (h i)) n (λ i l. coprime_up a (m i) ha (h i) (c i l))))

  pub pairwise_up : (m : ℕ → ℕ → ℕ) (n : ℕ) (h : (i : ℕ) → Is (m i)) → PairwiseCoprime f m n → theory.PairwiseCoprime 𝓠 (λ i. up (m i) (h i)) n
  pairwise_up m n h c i j l g = coprime_up (m i) (m j) (h i) (h j) (c i j l g)

  pub all_divide : (m : ℕ → ℕ → ℕ) (n : ℕ) (a : ℕ → ℕ) → ((i : ℕ) → Is (m i)) → Is a → PairwiseCoprime f m n
      → ((i : ℕ) → i < n → Divides f (m i) a) → Divides f (product_of f m n) a
  all_divide m n a h ha c k =
      rw (codes_product_of f L (λ i. up (m i) (h i)) n) at
      (coded_divides_from f L (theory.product_of 𝓠 (λ i. up (m i) (h i)) n) (up a ha)
      (theory.all_divide 𝓠 (λ i. up (m i) (h i)) n (up a ha) (pairwise_up m n h c) (λ i l. divides_up (m i) a (h i) ha (k i l))))
