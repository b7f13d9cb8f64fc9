-- What reading a line with a modulus answers.
use Rattle.std.specs.Prelude.{◌≡◌, ℕ, List, Option}
use Rattle.algebra.specs.Field.{Arithmetic}
use Rattle.expression.specs.Grammar.{IsModulusLine}
use Rattle.expression.specs.Texts.{Got}
use Rattle.expression.specs.Values.{Expression, value}

-- A line that holds some modulus.
abbrev pub AnyLine : List ℕ → Type 0
AnyLine line = (e : Expression) × IsModulusLine line e

-- From i to j stands a line, and the codes are the value of what it writes.
pub record LineRead (f : Arithmetic) (s : List ℕ) (i j : ℕ) (codes : Option (List ℕ)) : Type 0 where
  pub expression : Expression
  pub line : Got (λ x. IsModulusLine x expression) s i j
  pub value_is : codes ≡ value f expression
