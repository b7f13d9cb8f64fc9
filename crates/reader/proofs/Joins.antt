-- One more modulus: what makes its residue right, and what the state is afterwards.
use Rattle.std.proofs.Common.{◌≡◌, ℕ, suc, ◌+◌, ◌-◌, ◌<◌, ◌≤◌, List, length, take, sym, subst, arith}
use Rattle.algebra.specs.Field.{Arithmetic, FieldLaws}
use Rattle.algebra.specs.Moduli.{Congruent, Coprime, one}
use Rattle.algebra.specs.Polynomial.{Below, HasDegree, IsPolynomial, add, coefficients, multiply, subtract}
use Rattle.algebra.specs.Remainder.{IsRemainder}
use Rattle.algebra.proofs.Coefficients.{below_more, coefficients_below, degree_multiply, list_polynomial, multiply_polynomial, one_polynomial, subtract_polynomial}
use Rattle.algebra.proofs.Reading.{joined_below, joined_new, joined_old}
use Rattle.algebra.proofs.Residues.{congruent_division, congruent_multiply, congruent_refl, congruent_subtract, congruent_trans, coprime_not_shared, not_shared_coprime, remainder_congruent, share_factor_back}
use Rattle.poly.specs.Slices.{Codes, capacity}
use Rattle.reader.specs.States.{IsPair, IsState}
use Rattle.reader.proofs.Tables.{front_codes, front_same}

-- The modulus of a pair.
pub pair_degree : (f : Arithmetic) (m y : List ℕ) → IsPair f m y → HasDegree (length y) (coefficients m)
pair_degree f m y h =
    record {
      leading = omega (arith, h.monic);
      above = below_more (length m) (suc (length y)) (coefficients m) (omega (arith, h.long)) (coefficients_below m);
    }

module _ (f : Arithmetic) (L : FieldLaws f) (d : ℕ) (m M Y y : ℕ → ℕ) (hm : IsPolynomial f m) (hM : IsPolynomial f M) (hY : IsPolynomial f Y) (hy : IsPolynomial f y) where
  -- What is coprime to M is coprime to its remainder.
  remainder_coprime : (r : ℕ → ℕ) → IsRemainder f d m M r → Coprime f M m → Coprime f m r
  remainder_coprime r R coprime =
      not_shared_coprime f L m r hm R.division.remainder_polynomial
      (λ shared. coprime_not_shared f L M m hM hm coprime (share_factor_back f L d M m R.quotient r hm R.division shared))

  -- The remainders of y and of Y differ by what y and Y differ by.
  pub gap_congruent : (r n : ℕ → ℕ) → IsRemainder f d m y r → IsRemainder f d m Y n → Congruent f m (subtract f y Y) (subtract f r n)
  gap_congruent r n R N =
      congruent_subtract f L m y r Y n hm hy R.division.remainder_polynomial hY N.division.remainder_polynomial
      (remainder_congruent f L d y m R.quotient r hm R.division) (remainder_congruent f L d Y m N.quotient n hm N.division)

  -- (y - Y)·M⁻¹ by way of the remainder of M and of a polynomial congruent to y - Y.
  pub closes : (r w g c : ℕ → ℕ) → IsPolynomial f w → IsRemainder f d m M r → (Coprime f m r → Congruent f m (multiply f w r) one)
      → IsPolynomial f g → Congruent f m (subtract f y Y) g → IsRemainder f d m (multiply f g w) c → Coprime f M m → Congruent f m (add f Y (multiply f M c)) y
  closes r w g c hw R inverts hg same C coprime =
      let hr = R.division.remainder_polynomial in
      let hc = C.division.remainder_polynomial in
      let hyY = subtract_polynomial f L y Y hy hY in
      let hgw = multiply_polynomial f L g w hg hw in
      let hyYw = multiply_polynomial f L (subtract f y Y) w hyY hw in
      let inverse =
      congruent_trans f L m (multiply f w M) (multiply f w r) one hm (multiply_polynomial f L w M hw hM) (multiply_polynomial f L w r hw hr) (one_polynomial f L)
      (congruent_multiply f L m w w M r hm hw hw hM hr (congruent_refl f L m w hm hw) (remainder_congruent f L d M m R.quotient r hm R.division))
      (inverts (remainder_coprime r R coprime)) in
      let left =
      congruent_trans f L m (multiply f (subtract f y Y) w) (multiply f g w) c hm hyYw hgw hc
      (congruent_multiply f L m (subtract f y Y) g w w hm hyY hg hw hw same (congruent_refl f L m w hm hw))
      (remainder_congruent f L d (multiply f g w) m C.quotient c hm C.division) in
      joined_new f L d m M w Y y left.by c hm hM hw hY hy inverse
      (congruent_division f L d (multiply f (subtract f y Y) w) m c hyYw hm hc C.division.remainder_below left)

-- The front of M that has its codes is M.
pub product_front : (f : Arithmetic) (M Y : List ℕ) (D : ℕ) → IsState f M Y D → D + 1 ≤ length M
    → (coefficients (take (D + 1 - 0) M) ≡ coefficients M) × Codes f (take (D + 1 - 0) M)
product_front f M Y D state l =
    let below : Below (D + 1) (coefficients M) = below_more (suc D) (D + 1) (coefficients M) (omega arith) state.has_degree.above in
    (front_same M (D + 1) below l, front_codes f M (D + 1) below l state.product_codes)

-- The state afterwards.
module _ (f : Arithmetic) (L : FieldLaws f) (m y product value : List ℕ) (degree : ℕ) (state : IsState f product value degree) (pair : IsPair f m y)
    (c product' value' : List ℕ) (hc : Codes f c) where
  abbrev M : ℕ → ℕ
  M = coefficients product

  abbrev Y : ℕ → ℕ
  Y = coefficients value

  pub next_state : degree + length y < capacity → Below (length y) (coefficients c) → Codes f product' → Codes f value'
      → coefficients product' ≡ multiply f M (coefficients m) → coefficients value' ≡ add f Y (multiply f M (coefficients c))
      → IsState f product' value' (degree + length y)
  next_state room low kp kv product_is value_is =
      let hM = list_polynomial f L product state.product_codes in
      let hY = list_polynomial f L value state.value_codes in
      let hm = list_polynomial f L m pair.codes in
      let hC = list_polynomial f L c hc in
      record {
        fits = room;
        product_codes = kp;
        value_codes = kv;
        has_degree =
            subst (HasDegree (degree + length y)) (sym product_is)
            (degree_multiply f L degree (length y) M (coefficients m) hM hm state.has_degree (pair_degree f m y pair));
        below = subst (Below (degree + length y)) (sym value_is) (joined_below f L degree (length y) M Y (coefficients c) hM hY hC state.has_degree state.below low);
      }

  pub next_old : coefficients value' ≡ add f Y (multiply f M (coefficients c)) → Congruent f M (coefficients value') Y
  next_old value_is =
      subst (λ (x : ℕ → ℕ). Congruent f M x Y) (sym value_is)
      (joined_old f L M Y (coefficients c) (list_polynomial f L product state.product_codes) (list_polynomial f L value state.value_codes)
      (list_polynomial f L c hc))
