-- Inner: no public contract cites this.
-- Residues joined one modulus at a time: M, the product of the moduli so far, and Y, the polynomial of lower
-- degree that leaves their residues.
use Rattle.std.specs.Prelude.{◌≡◌, ℕ, ◌+◌, List, length}
use Rattle.algebra.specs.Moduli.{Congruent, Coprime}
use Rattle.algebra.specs.Polynomial.{coefficients, multiply}
use Rattle.field.specs.declared.Field as field
use Rattle.reader.specs.declared.joining.Joined.{Joined}

-- One more modulus m with its residue y: M·m in place of M; Y is as it was modulo M and, where m is coprime
-- to M, y modulo m.
pub record JoinedBy {F : Type 0} {fields : field.Ghosts F} (modulus residue : List ℕ) (before after : Joined F fields) : Type 0 where
  pub degree_is : after.degree ≡ before.degree + length residue
  pub product_is : coefficients after.product ≡ multiply fields.arithmetic (coefficients before.product) (coefficients modulus)
  pub old : Congruent fields.arithmetic (coefficients before.product) (coefficients after.value) (coefficients before.value)
  pub new :
      Coprime fields.arithmetic (coefficients before.product) (coefficients modulus)
      → Congruent fields.arithmetic (coefficients modulus) (coefficients after.value) (coefficients residue)
