-- The value of an expression over a field: nine codes, lowest power first; or none, where a number other than
-- an exponent is no code or a value of degree above 8 is formed, even midway. Values are formed left to
-- right.
use Rattle.std.specs.Prelude.{ℕ, ◌+◌, ◌-◌, Bool, List, ◌∷◌, ◌++◌, map, take, drop, replicate, Some, None, Option, ◌==◌, nat_lt}
use Rattle.std.specs.Bool.{then_some}
use Rattle.std.specs.List.{list_all, range_with_len}
use Rattle.algebra.specs.Field.{Arithmetic}
use Rattle.algebra.specs.Polynomial.{add, coefficients, multiply}
use Rattle.plan.specs.Limits.{modulus_codes}

-- What an expression is made of. Brackets leave no trace but the order.
pub data Expression : Type 0 where
  number : ℕ → Expression
  power : ℕ → Expression
  sum_of : Expression → Expression → Expression
  product_of : Expression → Expression → Expression

abbrev pub Value : Type 0
Value = Option (List ℕ)

-- A number stands for a code.
abbrev pub number_value : Arithmetic → ℕ → Value
number_value f n = then_some (nat_lt n f.order) (n ∷ replicate (modulus_codes - 1) 0)

-- z to the power n; z alone is its first power.
abbrev pub power_value : ℕ → Value
power_value n = then_some (nat_lt n modulus_codes) (replicate n 0 ++ (1 ∷ replicate (modulus_codes - 1 - n) 0))

abbrev pub sum_value : Arithmetic → Value → Value → Value
sum_value f None b = None
sum_value f (Some p) None = None
sum_value f (Some p) (Some r) = Some (map (add f (coefficients p) (coefficients r)) (range_with_len 0 modulus_codes))

-- Codes that are all 0.
abbrev pub all_zero : List ℕ → Bool
all_zero codes = list_all (λ x. x == 0) codes

-- The first nine codes of a polynomial, if those after them are 0.
abbrev pub fitted : List ℕ → Value
fitted codes = then_some (all_zero (drop modulus_codes codes)) (take modulus_codes codes)

-- The codes of a product of two values: as many as its degree can ask for.
abbrev pub product_codes : Arithmetic → List ℕ → List ℕ → List ℕ
product_codes f p r = map (multiply f (coefficients p) (coefficients r)) (range_with_len 0 (modulus_codes + modulus_codes - 1))

abbrev pub product_value : Arithmetic → Value → Value → Value
product_value f None b = None
product_value f (Some p) None = None
product_value f (Some p) (Some r) = fitted (product_codes f p r)

abbrev pub value : Arithmetic → Expression → Value
value f (number n) = number_value f n
value f (power n) = power_value n
value f (sum_of a b) = sum_value f (value f a) (value f b)
value f (product_of a b) = product_value f (value f a) (value f b)
