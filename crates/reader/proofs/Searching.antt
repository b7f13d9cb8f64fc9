-- Euclid's extended algorithm stopped half-way, and the division of its remainder by its factor.
use Rattle.std.proofs.Common.{◌≡◌, ℕ, zero, suc, ◌+◌, ◌*◌, ◌≤◌, ℤ, pos, negsuc, ◌≤ℤ◌, ◌<ℤ◌, ap, ◌∙◌, subst, inl, inr, arith}
use Rattle.std.proofs.lemmas.Int.{ints}
use Rattle.algebra.specs.Field.{Arithmetic, FieldLaws}
use Rattle.algebra.specs.Polynomial.{Below, DegreeIs, HasDegree, IsDivision, IsPolynomial, add, coefficients, multiply}
use Rattle.algebra.specs.Theorems.{Stopped}
use Rattle.algebra.proofs.Coefficients.{add_nought, below_more, below_nought, degree_one_only, multiply_comm, multiply_polynomial}
use Rattle.poly.specs.Extended.{Steps}
use Rattle.poly.specs.declared.steps.Euclid.{Euclid}
use Rattle.poly.proofs.Descending.{before_last}
use Rattle.reader.proofs.Completeness.{exact_quotient}
use Rattle.reader.proofs.Inverting.{Reached}

module _ (f : Arithmetic) (D K : ℕ) (M Y : ℕ → ℕ) (begun e : Euclid) where
  -- Run down to half of D + K codes, rounded up.
  pub halved : (most n : ℕ) → K ≤ D → HasDegree D M → coefficients begun.previous ≡ M → D + K ≤ 2 * most → 2 * most ≤ D + K + 1
      → Steps f most n begun e → Below most (coefficients e.current) → Reached f D M Y e
      → Stopped f D K M Y (coefficients e.current) (coefficients e.t_current)
  halved most n l h begins low high steps few R =
      record {
        r_polynomial = R.current_polynomial;
        t_polynomial = R.t_polynomial;
        s = R.s;
        s_polynomial = R.s_polynomial;
        r_is = R.current_is;
        r_below = λ i b. few i (omega arith);
        t_degree = R.t_degree;
        t_has = R.t_has;
        before = R.previous_degree;
        before_not_below =
            elim (before_last f most n R.previous_degree begun e steps R.previous_has) [
              | inl same ↦
                  let first : HasDegree R.previous_degree M =
                  subst (HasDegree R.previous_degree) begins (subst (λ (x : Euclid). HasDegree R.previous_degree (coefficients x.previous)) same R.previous_has) in
                  let one = degree_one_only R.previous_degree D M first h in
                  omega arith
              | inr above ↦ omega arith
            ];
        degrees = R.degrees;
      }

-- The division of r by t.
module _ (f : Arithmetic) (L : FieldLaws f) (K d : ℕ) (r t q rest : ℕ → ℕ) (ht : IsPolynomial f t) (h : HasDegree d t) (V : IsDivision f d r t q rest) where
  pub quotient_exact : Below 0 rest → r ≡ multiply f t q
  quotient_exact z =
      let hq = V.quotient_polynomial in
      V.is ∙ ap (λ (x : ℕ → ℕ). add f (multiply f q t) x) (below_nought rest z) ∙ add_nought f L (multiply f q t) (multiply_polynomial f L q t hq ht)
      ∙ multiply_comm f L q t hq ht

  pub none_by_rest : (z : ℤ) → DegreeIs rest z → pos 0 ≤ℤ z → (a : ℕ → ℕ) → IsPolynomial f a → Below K a → ¬ (r ≡ multiply f t a)
  none_by_rest (pos n) g l a ha b e = omega (arith, g.leading, ap (λ (x : ℕ → ℕ). x n) (exact_quotient f L d r t a q rest ht ha e h V).1)
  none_by_rest (negsuc n) g l a ha b e = omega (arith, ints, l)

  pub none_by_quotient : (z : ℤ) → DegreeIs q z → pos K ≤ℤ z → (a : ℕ → ℕ) → IsPolynomial f a → Below K a → ¬ (r ≡ multiply f t a)
  none_by_quotient (pos n) g l a ha b e =
      omega (arith, ints, g.leading, ap (λ (x : ℕ → ℕ). x n) (exact_quotient f L d r t a q rest ht ha e h V).0, b n (omega (arith, ints, l)))
  none_by_quotient (negsuc n) g l a ha b e = omega (arith, ints, l)

-- A signed degree below n.
pub low_degree : (p : ℕ → ℕ) (n : ℕ) (z : ℤ) → DegreeIs p z → z <ℤ pos n → Below n p
low_degree p n (pos d) g l = below_more (suc d) n p (omega (arith, ints, l)) g.above
low_degree p n (negsuc zero) g l = below_more 0 n p (omega arith) g
low_degree p n (negsuc (suc k)) g l = absurd g
