-- What a plan's tables say of the scheme that it holds.
use Rattle.std.proofs.Common.{◌≡◌, ℕ, ◌+◌, ◌<◌, ◌≤◌, min, [], get_or, sym, ap, ◌∙◌, arith, length-take}
use native.Mathlib.Decide.{dec_le, dec_lt}
use lib.ListN.{get_or-eq_default}
use Rattle.std.proofs.lemmas.List.{get_or-take}
use Rattle.field.specs.declared.Field as field
use Rattle.plan.specs.Held.{scheme}
use Rattle.plan.specs.Limits.{most_total}
use Rattle.plan.specs.Schemes.{degree, degree_of, modulus, positions, start, word_length}
use Rattle.plan.specs.declared.plans.Plan.{Plan}
use Rattle.plan.proofs.Sizes.{start_next, start_past, start_most}

module _ {F : Type 0} {fields : field.Ghosts F} (p : Plan F fields) where
  pub plan_positions : positions (scheme p) ≡ p.positions
  plan_positions = omega (arith, length-take p.positions p.moduli, p.filled)

  pub plan_start : (i : ℕ) → get_or p.starts (min i p.positions) 0 ≡ start (scheme p) i
  plan_start i =
      elim (dec_le i p.positions) [
        | yes h ↦ let at : min i p.positions ≡ i = omega arith in ap (λ j. get_or p.starts j 0) at ∙ p.starting i (omega (arith, plan_positions))
        | no h ↦
            let at : min i p.positions ≡ p.positions = omega arith in
            ap (λ j. get_or p.starts j 0) at
            ∙ p.starting p.positions (omega (arith, plan_positions))
            ∙ start_past (scheme p) p.positions (omega (arith, plan_positions))
            ∙ sym (start_past (scheme p) i (omega (arith, plan_positions)))
      ]

  pub plan_end : get_or p.starts p.positions 0 ≡ word_length (scheme p)
  plan_end = p.starting p.positions (omega (arith, plan_positions)) ∙ start_past (scheme p) p.positions (omega (arith, plan_positions))

  pub plan_next : (i : ℕ) → i < p.positions → get_or p.starts (i + 1) 0 ≡ get_or p.starts i 0 + degree (scheme p) i
  plan_next i h =
      p.starting (i + 1) (omega (arith, plan_positions))
      ∙ start_next (scheme p) i (omega (arith, plan_positions))
      ∙ ap (λ n. n + degree (scheme p) i) (sym (p.starting i (omega (arith, plan_positions))))

  pub modulus_past : (i : ℕ) → p.positions ≤ i → modulus (scheme p) i ≡ []
  modulus_past i h = get_or-eq_default (scheme p).moduli [] {n = i} (omega (arith, plan_positions))

  pub degree_past : (i : ℕ) → p.positions ≤ i → degree (scheme p) i ≡ 0
  degree_past i h = ap degree_of (modulus_past i h)

  -- Past the positions degrees are 0.
  pub place_of : (i : ℕ) → 0 < degree (scheme p) i → i < positions (scheme p)
  place_of i h =
      elim (dec_lt i (positions (scheme p))) [
        | yes l ↦ l
        | no l ↦ absurd (omega (arith, degree_past i (omega (arith, plan_positions))))
      ]

  pub modulus_at : (i : ℕ) → i < p.positions → modulus (scheme p) i ≡ get_or p.moduli i []
  modulus_at i h = get_or-take p.positions p.moduli i [] h

  -- A position lies within the word, which is short.
  pub record Ends (i : ℕ) : Type 0 where
    pub next : start (scheme p) (i + 1) ≡ start (scheme p) i + degree (scheme p) i
    pub within : start (scheme p) (i + 1) ≤ word_length (scheme p)
    pub short : word_length (scheme p) ≤ most_total

  pub plan_ends : (i : ℕ) → i < positions (scheme p) → Ends i
  plan_ends i h = record { next = start_next (scheme p) i h; within = start_most (scheme p) (i + 1); short = p.lawful.short }
