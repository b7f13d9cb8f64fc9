-- Whether a list of codes is a modulus, from the tests that decide it.
use Rattle.std.proofs.Common.{◌≡◌, ℕ, ◌<◌, ◌≤◌, true, false, eqb, List, get_or, is_some, Some, None, Decides, Option, sym, ap, ◌∙◌, subst, arith, MatchOption}
use Rattle.std.proofs.lemmas.Bool.{eqb-true, eq-eqb, false≢true, true≢false}
use Rattle.algebra.specs.Field.{Arithmetic}
use Rattle.algebra.specs.Polynomial.{coefficients}
use Rattle.plan.specs.Refusals.{AreCodes, FirstNoCode}
use Rattle.plan.specs.Schemes.{IsModulus, degree_of}

module _ (f : Arithmetic) (m : List ℕ) where
  pub codes_or_none : (o : Option ℕ) → MatchOption o (AreCodes f m) (FirstNoCode f m) → is_some o ≡ true → ¬ (IsModulus f m)
  codes_or_none None h e = absurd (false≢true e)
  codes_or_none (Some i) h e = λ is. let below = is.codes i in omega (arith, h.no_code)

  pub codes_all : (o : Option ℕ) → MatchOption o (AreCodes f m) (FirstNoCode f m) → is_some o ≡ false → AreCodes f m
  codes_all None h e = h
  codes_all (Some i) h e = absurd (true≢false e)

  pub no_modulus : ¬ (IsModulus f m) → Decides false (IsModulus f m)
  no_modulus no_way = (λ e. absurd (false≢true e), λ is. absurd (no_way is))

  -- The degree at hand is that of the list.
  pub constant_is_none : (d : ℕ) → d ≡ degree_of m → d < 1 → ¬ (IsModulus f m)
  constant_is_none d e h = λ is. omega (arith, is.proper)

  pub monic_decides : (d : ℕ) → d ≡ degree_of m → 1 ≤ d → AreCodes f m → Decides (eqb (get_or m d 0) 1) (IsModulus f m)
  monic_decides d e h codes = (
    λ t. record { codes = codes; proper = omega arith; leading = ap (coefficients m) (sym e) ∙ eqb-true (get_or m d 0) 1 t },
    λ is. eq-eqb (get_or m d 0) 1 (ap (coefficients m) e ∙ is.leading),
  )

pub at_none : {X : Type 0} (o : Option X) (P : Type 0) (Q : X → Type 0) → o ≡ None → P → MatchOption o P Q
at_none o P Q e p = subst (λ o. MatchOption o P Q) (sym e) p
