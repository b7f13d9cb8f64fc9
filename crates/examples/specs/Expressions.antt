-- Expressions as a sheet writes them, and their values.
use Rattle.std.specs.Prelude.{◌≡◌, ℕ, List, [], ◌∷◌, ◌++◌, Some, None, codes}
use Rattle.algebra.specs.Arithmetics.{modulo}
use Rattle.algebra.specs.Field.{Arithmetic}
use Rattle.expression.specs.Bytes.{line_end}
use Rattle.expression.specs.Grammar.{IsModulusLine}
use Rattle.expression.specs.Values.{Expression, number, power, product_of, sum_of, value}
use Rattle.expression.specs.declared.names.FieldName.TheVariants.{Clock}
use Rattle.fault.specs.declared.Layer.TheVariants as layer
use Rattle.sheet.specs.Grammar.{Content, IsSheet}
use Rattle.sheet.specs.Refusals.{FirstBadLine, sheet_ground}
use Rattle.sheet.specs.declared.faults.SheetFault.TheVariants.{NoModulus}

-- (z+1)*(z+1) as it is written on a sheet, and the expression that it writes.
abbrev pub square_text : List ℕ
square_text = codes "(z+1)*(z+1)"

abbrev pub square : Expression
square = product_of (sum_of (power 1) (number 1)) (sum_of (power 1) (number 1))

-- What a sheet says whose moduli are z^9 and z.
abbrev pub high_first : Content
high_first = record { field = Clock; carrying = power 9 ∷ []; spare = power 1 ∷ []; calls = [] }

-- The sheet that says it.
abbrev pub ended : List (List ℕ) → List ℕ
ended [] = []
ended (text ∷ texts) = text ++ (line_end ∷ ended texts)

abbrev pub high_sheet : List ℕ
high_sheet = ended (codes "1" ∷ codes "clock" ∷ codes "1" ∷ codes "z^9" ∷ codes "1" ∷ codes "z" ∷ codes "0" ∷ [])

pub record ExpressionExamples : Type 0 where
  pub square_written : IsModulusLine (square_text ++ line_end ∷ []) square
  -- where 1 + 1 = 0, the square of z + 1 is z² + 1
  pub square_in_bits : value (modulo 2) square ≡ Some (1 ∷ 0 ∷ 1 ∷ 0 ∷ 0 ∷ 0 ∷ 0 ∷ 0 ∷ 0 ∷ [])
  pub square_in_clock : value (modulo 257) square ≡ Some (1 ∷ 2 ∷ 1 ∷ 0 ∷ 0 ∷ 0 ∷ 0 ∷ 0 ∷ 0 ∷ [])
  -- z^9 has no value in any field; as the first modulus of a sheet it stands on line 3, which ground 3 names
  pub nine_written : IsModulusLine (codes "z^9" ++ line_end ∷ []) (power 9)
  pub too_high : (f : Arithmetic) → value f (power 9) ≡ None
  pub high_written : IsSheet high_sheet high_first
  pub line_three : FirstBadLine high_first 3
  pub ground_three : sheet_ground (NoModulus 3) ≡ record { number = 3; layer = layer.Sheet; first = 3; second = 0 }
  -- z^9*0 has none either, since it is formed left to right; z^8*0*z is 0
  pub too_high_midway : value (modulo 2) (product_of (power 9) (number 0)) ≡ None
  pub low_again : value (modulo 2) (product_of (product_of (power 8) (number 0)) (power 1)) ≡ Some (0 ∷ 0 ∷ 0 ∷ 0 ∷ 0 ∷ 0 ∷ 0 ∷ 0 ∷ 0 ∷ [])
