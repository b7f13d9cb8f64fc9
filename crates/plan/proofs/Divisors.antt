-- A lawful modulus without the zeros after its leading code.
use Rattle.std.proofs.Common.{◌≡◌, ℕ, ◌+◌, ◌<◌, ◌≤◌, take, length, sym, ap, ◌∙◌, arith}
use Rattle.std.proofs.lemmas.List.{length-take-le}
use Rattle.algebra.specs.Polynomial.{coefficients}
use Rattle.plan.specs.Schemes.{IsScheme, Scheme, degree, divisor, extent, modulus, positions}
use Rattle.plan.proofs.Sizes.{extent_length}
use Rattle.plan.proofs.Trimmed.{trimmed}

module _ (s : Scheme) where
  pub divisor_is : (i : ℕ) → coefficients (divisor s i) ≡ coefficients (modulus s i)
  divisor_is i = trimmed (modulus s i) (extent (modulus s i)) (omega arith)

  module _ (h : IsScheme s) (i : ℕ) (l : i < positions s) where
    pub modulus_extent : extent (modulus s i) ≡ degree s i + 1
    modulus_extent = omega (arith, (h.moduli_lawful i l).proper)

    pub least_degree_of : 1 ≤ degree s i
    least_degree_of = (h.moduli_lawful i l).proper

    pub divisor_long : length (divisor s i) ≡ degree s i + 1
    divisor_long = length-take-le (extent (modulus s i)) (modulus s i) (extent_length (modulus s i)) ∙ modulus_extent

    pub divisor_taken : take (degree s i + 1) (modulus s i) ≡ divisor s i
    divisor_taken = ap (λ n. take n (modulus s i)) (sym modulus_extent)
