-- The numbers of a value are codes of its field, so that the arithmetic may be asked to go on with it.
use Rattle.std.proofs.Common.{◌≡◌, ℕ, zero, suc, ◌+◌, ◌-◌, ◌<◌, Bool, true, false, ltb, List, [], ◌∷◌, ◌++◌, map, take, drop, replicate, Some, None, sym, refl, subst, arith}
use Rattle.std.proofs.lemmas.Bool.Decides.{nat_tests}
use Rattle.std.specs.Bool.{then_some}
use Rattle.std.specs.List.{range_with_len}
use Rattle.algebra.proofs.Bytes.{bytes}
use Rattle.algebra.proofs.Modular.{bit_laws, clock_laws}
use Rattle.algebra.specs.Field.{Arithmetic, FieldLaws}
use Rattle.algebra.specs.Polynomial.{add, coefficients, multiply}
use Rattle.plan.specs.Limits.{modulus_codes}
use Rattle.poly.specs.Slices.{Codes}
use Rattle.expression.specs.Codes.{InField}
use Rattle.expression.specs.Fields.{arithmetic_of}
use Rattle.expression.specs.Values.{Expression, Value, all_zero, number, number_value, power, power_value, product_codes, product_of, product_value, sum_of, sum_value, value}
use Rattle.expression.specs.declared.names.FieldName.{FieldName}
use Rattle.expression.specs.declared.names.FieldName.TheVariants.{Bits, Bytes, Clock}

-- The three arithmetics are fields.
pub laws_of : (name : FieldName) → FieldLaws (arithmetic_of name)
laws_of Bits = bit_laws
laws_of Bytes = bytes
laws_of Clock = clock_laws

module _ (f : Arithmetic) (L : FieldLaws f) where
  none : Codes f []
  none i = omega (arith, L.order_least)

  first : (x : ℕ) (xs : List ℕ) → x < f.order → Codes f xs → Codes f (x ∷ xs)
  first x xs h k zero = h
  first x xs h k (suc i) = k i

  zeros : (n : ℕ) (xs : List ℕ) → Codes f xs → Codes f (replicate n 0 ++ xs)
  zeros zero xs h = h
  zeros (suc n) xs h = first 0 (replicate n 0 ++ xs) (omega (arith, L.order_least)) (zeros n xs h)

  only_zeros : (n : ℕ) → Codes f (replicate n 0)
  only_zeros zero = none
  only_zeros (suc n) = first 0 (replicate n 0) (omega (arith, L.order_least)) (only_zeros n)

  taken : (n : ℕ) (xs : List ℕ) → Codes f xs → Codes f (take n xs)
  taken zero xs h = none
  taken (suc n) [] h = none
  taken (suc n) (x ∷ xs) h = first x (take n xs) (h 0) (taken n xs (λ i. h (suc i)))

  counted : (p : ℕ → ℕ) → ((i : ℕ) → p i < f.order) → (a n : ℕ) → Codes f (map p (range_with_len a n))
  counted p h a zero = none
  counted p h a (suc n) = first (p a) (map p (range_with_len (a + 1) n)) (h a) (counted p h (a + 1) n)

  multiply_codes : (p r : ℕ → ℕ) (i : ℕ) → multiply f p r i < f.order
  unfolding multiply
  multiply_codes p r zero = L.product_below (p 0) (r 0)
  multiply_codes p r (suc i) = L.sum_below (f.product (p 0) (r (suc i))) (multiply f (λ j. p (suc j)) r i)

  if_so : (b : Bool) (xs : List ℕ) → (b ≡ true → Codes f xs) → InField f (then_some b xs)
  if_so true xs h = h refl
  if_so false xs h = tt

  of_number : (n : ℕ) → InField f (number_value f n)
  of_number n =
      if_so (ltb n f.order) (n ∷ replicate (modulus_codes - 1) 0)
      (λ e. let h : n < f.order = grind (arith, nat_tests) in first n (replicate (modulus_codes - 1) 0) h (only_zeros (modulus_codes - 1)))

  of_power : (n : ℕ) → InField f (power_value n)
  of_power n =
      if_so (ltb n modulus_codes) (replicate n 0 ++ (1 ∷ replicate (modulus_codes - 1 - n) 0))
      (λ e. zeros n (1 ∷ replicate (modulus_codes - 1 - n) 0)
      (first 1 (replicate (modulus_codes - 1 - n) 0) (omega (arith, L.order_least)) (only_zeros (modulus_codes - 1 - n))))

  of_sum : (a b : Value) → InField f (sum_value f a b)
  of_sum None b = tt
  of_sum (Some p) None = tt
  of_sum (Some p) (Some r) =
      counted (add f (coefficients p) (coefficients r)) (λ i. L.sum_below (coefficients p i) (coefficients r i)) 0 modulus_codes

  of_product : (a b : Value) → InField f (product_value f a b)
  of_product None b = tt
  of_product (Some p) None = tt
  of_product (Some p) (Some r) =
      let codes = product_codes f p r in
      if_so (all_zero (drop modulus_codes codes)) (take modulus_codes codes)
      (λ e. taken modulus_codes codes
      (counted (multiply f (coefficients p) (coefficients r)) (multiply_codes (coefficients p) (coefficients r)) 0 (modulus_codes + modulus_codes - 1)))

  pub in_field : (e : Expression) → InField f (value f e)
  in_field (number n) = of_number n
  in_field (power n) = of_power n
  in_field (sum_of a b) = of_sum (value f a) (value f b)
  in_field (product_of a b) = of_product (value f a) (value f b)

-- The same of the codes that a reader holds, over a field given by its name.
pub codes_in_field : (name : FieldName) (e : Expression) {codes : Value} → codes ≡ value (arithmetic_of name) e → InField (arithmetic_of name) codes
codes_in_field name e is = subst (InField (arithmetic_of name)) (sym is) (in_field (arithmetic_of name) (laws_of name) e)
