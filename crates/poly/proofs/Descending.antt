-- Euclid's extended algorithm run down to a number of codes: what one step more leaves, and the remainder before the last.
use Rattle.std.proofs.Common.{◌≡◌, ℕ, zero, suc, ◌-◌, ◌<◌, ◌≤◌, ◌⊎◌, List, subst, inl, inr, refl, arith}
use native.Mathlib.Decide.{dec_lt}
use Rattle.algebra.specs.Field.{Arithmetic}
use Rattle.algebra.specs.Polynomial.{Below, HasDegree, coefficients}
use Rattle.algebra.proofs.Coefficients.{below_more}
use Rattle.poly.specs.Extended.{Holds, Stepped, Steps}
use Rattle.poly.specs.Slices.{Significant}
use Rattle.poly.specs.declared.steps.Euclid.{Euclid}
use Rattle.poly.proofs.Fronts.{fewer_used, significant_degree, used}

module _ (f : Arithmetic) (most : ℕ) (from : Euclid) where
  -- The state of the loop.
  pub record Descending (e : Euclid) : Type 0 where
    pub count : ℕ
    pub steps : Steps f most count from e
    pub kept : (D : ℕ) (M Y : ℕ → ℕ) → Holds f D M Y from → Holds f D M Y e

  pub descending_starts : Descending from
  descending_starts = record { count = 0; steps = refl; kept = λ D M Y h. h }

  -- One step, from a remainder of n codes.
  module _ (e e' : Euclid) (n : ℕ) (s : Significant (coefficients e.current) n) (l : most < n) where
    pub has_degree : HasDegree (n - 1) (coefficients e.current)
    has_degree = significant_degree (coefficients e.current) n s (omega arith)

    pub descending_again : Stepped f e e' → ((D : ℕ) (M Y : ℕ → ℕ) → Holds f D M Y e → Holds f D M Y e') → Descending e → Descending e'
    descending_again S next I =
        record {
          count = suc I.count;
          steps = (e, I.steps, λ (b : Below most (coefficients e.current)). omega (arith, s.leading (omega arith), b (n - 1) (omega arith)), S);
          kept = λ D M Y h. next D M Y (I.kept D M Y h);
        }

    pub descending_less : Stepped f e e' → used e'.current < used e.current
    descending_less S = fewer_used (n - 1) e.current e'.current has_degree (S.divided.by_degree (n - 1) has_degree).remainder_below

-- The remainder before the last is of no lower degree than `most`, where there was a step.
pub before_last : (f : Arithmetic) (most n d : ℕ) (from to : Euclid) → Steps f most n from to → HasDegree d (coefficients to.previous)
    → (to ≡ from) ⊎ (most ≤ d)
before_last f most zero d from to same h = inl same
before_last f most (suc n) d from to steps h =
    let before : HasDegree d (coefficients steps.0.current) = subst (λ (x : List ℕ). HasDegree d (coefficients x)) steps.3.previous_is h in
    elim (dec_lt d most) [
      | yes l ↦ absurd (steps.2 (below_more (suc d) most (coefficients steps.0.current) (omega arith) before.above))
      | no l ↦ inr (omega arith)
    ]
