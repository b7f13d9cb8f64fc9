-- Whether z + 1 and z² + 1 share a factor depends on the field; and so does whether they make a plan.
use Rattle.std.specs.Prelude.{ℕ, List, [], ◌∷◌}
use Rattle.algebra.specs.Arithmetics.{byte_arithmetic, modulo}
use Rattle.algebra.specs.Polynomial.{ShareFactor, coefficients}
use Rattle.plan.specs.Refusals.{Accepted, Refused}
use Rattle.plan.specs.Schemes.{joined}
use Rattle.plan.specs.declared.faults.PlanFault.TheVariants.{SharedFactor}
use Rattle.examples.specs.Plans.{z+1, z²+1}

-- The two moduli as they are handed in, one after the other.
abbrev pub both : List ℕ
both = joined (z+1 ∷ z²+1 ∷ [])

pub record FactorExamples : Type 0 where
  -- where 1 + 1 = 0, z² + 1 is (z + 1)·(z + 1): ground 7, with the pair 0 and 1
  pub in_bits : ShareFactor (modulo 2) (coefficients z+1) (coefficients z²+1)
  pub in_bytes : ShareFactor byte_arithmetic (coefficients z+1) (coefficients z²+1)
  pub refused_in_bits : Refused (modulo 2) 1 both (SharedFactor 0 1)
  pub refused_in_bytes : Refused byte_arithmetic 1 both (SharedFactor 0 1)
  -- at -1, the root of z + 1, z² + 1 is 2: there they make a plan
  pub not_in_clock : ¬ (ShareFactor (modulo 257) (coefficients z+1) (coefficients z²+1))
  pub accepted_in_clock : Accepted (modulo 257) 1 both
