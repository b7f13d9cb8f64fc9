-- A finite field by its operations on codes: what those operations are, and the laws that make them a field.
use Rattle.std.specs.Prelude.{◌≡◌, ℕ, ◌<◌, ◌≤◌}

-- The arithmetic of a field. Elements are written as codes, the numbers below `order`.
pub record Arithmetic : Type 0 where
  pub order : ℕ
  pub sum : ℕ → ℕ → ℕ
  pub negative : ℕ → ℕ
  pub product : ℕ → ℕ → ℕ
  pub inverse : ℕ → ℕ

-- A field has two elements at least, and at most this many.
abbrev pub largest_order : ℕ
largest_order = 32768

-- The laws. Those with premises speak of codes below the order; an operation given any other number answers 0.
pub record FieldLaws (f : Arithmetic) : Type 0 where
  pub order_least : 2 ≤ f.order
  pub order_most : f.order ≤ largest_order
  pub sum_below : (a b : ℕ) → f.sum a b < f.order
  pub negative_below : (a : ℕ) → f.negative a < f.order
  pub product_below : (a b : ℕ) → f.product a b < f.order
  pub inverse_below : (a : ℕ) → f.inverse a < f.order
  pub sum_assoc : (a b c : ℕ) → a < f.order → b < f.order → c < f.order → f.sum (f.sum a b) c ≡ f.sum a (f.sum b c)
  pub sum_comm : (a b : ℕ) → a < f.order → b < f.order → f.sum a b ≡ f.sum b a
  pub sum_zero : (a : ℕ) → a < f.order → f.sum a 0 ≡ a
  pub sum_negative : (a : ℕ) → a < f.order → f.sum a (f.negative a) ≡ 0
  pub product_assoc : (a b c : ℕ) → a < f.order → b < f.order → c < f.order → f.product (f.product a b) c ≡ f.product a (f.product b c)
  pub product_comm : (a b : ℕ) → a < f.order → b < f.order → f.product a b ≡ f.product b a
  pub product_one : (a : ℕ) → a < f.order → f.product a 1 ≡ a
  pub product_inverse : (a : ℕ) → a < f.order → 0 < a → f.product a (f.inverse a) ≡ 1
  pub distributes : (a b c : ℕ) → a < f.order → b < f.order → c < f.order → f.product a (f.sum b c) ≡ f.sum (f.product a b) (f.product a c)
  pub inverse_of_zero : f.inverse 0 ≡ 0
  pub sum_outside_left : (a b : ℕ) → f.order ≤ a → f.sum a b ≡ 0
  pub sum_outside_right : (a b : ℕ) → f.order ≤ b → f.sum a b ≡ 0
  pub negative_outside : (a : ℕ) → f.order ≤ a → f.negative a ≡ 0
  pub product_outside_left : (a b : ℕ) → f.order ≤ a → f.product a b ≡ 0
  pub product_outside_right : (a b : ℕ) → f.order ≤ b → f.product a b ≡ 0
  pub inverse_outside : (a : ℕ) → f.order ≤ a → f.inverse a ≡ 0
