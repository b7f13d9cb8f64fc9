-- Operations on codes by tables, which may be those of a field or not; and what it is that a law is broken.
use Rattle.std.specs.Prelude.{◌≡◌, ℕ, ◌+◌, ◌*◌, ◌<◌, ◌≤◌, Ok, Err, Result, slice_index}
use Rattle.algebra.specs.Arithmetics.{on_codes_below}
use Rattle.algebra.specs.Field.{Arithmetic, FieldLaws, largest_order}
use Rattle.small_field.specs.declared.broken.Broken.{Broken}
use Rattle.small_field.specs.declared.broken.Broken.TheVariants.{Order, NegativeNoCode, SumWithZero, SumWithNegative, ProductWithOne, ProductWithZero, NoInverse, SumNoCode, ProductNoCode, SumTurned, ProductTurned, SumRegrouped, ProductRegrouped, Distribution}
use Rattle.small_field.specs.declared.tables.Tables.{Tables}

module _ (t : Tables) where
  -- What the tables hold, 0 past their ends.
  abbrev pub plus : ℕ → ℕ → ℕ
  plus a b = slice_index t.sums.now (a * t.order + b)

  abbrev pub minus : ℕ → ℕ
  minus a = slice_index t.negatives.now a

  abbrev pub times : ℕ → ℕ → ℕ
  times a b = slice_index t.products.now (a * t.order + b)

  -- They as an arithmetic.
  abbrev pub candidate : Arithmetic
  candidate = on_codes_below t.order plus minus times

  -- Some code times a is 1; and none is.
  abbrev pub HasInverse : ℕ → Type 0
  HasInverse a = (b : ℕ) × (b < t.order) × (times a b ≡ 1)

  abbrev pub LacksInverse : ℕ → Type 0
  LacksInverse a = (b : ℕ) → b < t.order → ¬ (times a b ≡ 1)

  -- The law is broken at these codes.
  abbrev pub Breaks : Broken → Type 0
  Breaks Order = ¬ ((2 ≤ t.order) × (t.order ≤ largest_order))
  Breaks (NegativeNoCode a) = (a < t.order) × (t.order ≤ minus a)
  Breaks (SumWithZero a) = (a < t.order) × ¬ (plus a 0 ≡ a)
  Breaks (SumWithNegative a) = (a < t.order) × ¬ (plus a (minus a) ≡ 0)
  Breaks (ProductWithOne a) = (a < t.order) × ¬ (times a 1 ≡ a)
  Breaks (ProductWithZero a) = (a < t.order) × ¬ (times 0 a ≡ 0)
  Breaks (NoInverse a) = (a < t.order) × (0 < a) × LacksInverse a
  Breaks (SumNoCode a b) = (a < t.order) × (b < t.order) × (t.order ≤ plus a b)
  Breaks (ProductNoCode a b) = (a < t.order) × (b < t.order) × (t.order ≤ times a b)
  Breaks (SumTurned a b) = (a < t.order) × (b < t.order) × ¬ (plus a b ≡ plus b a)
  Breaks (ProductTurned a b) = (a < t.order) × (b < t.order) × ¬ (times a b ≡ times b a)
  Breaks (SumRegrouped a b c) = (a < t.order) × (b < t.order) × (c < t.order) × ¬ (plus (plus a b) c ≡ plus a (plus b c))
  Breaks (ProductRegrouped a b c) = (a < t.order) × (b < t.order) × (c < t.order) × ¬ (times (times a b) c ≡ times a (times b c))
  Breaks (Distribution a b c) = (a < t.order) × (b < t.order) × (c < t.order) × ¬ (times a (plus b c) ≡ plus (times a b) (times a c))

  -- What is answered of the tables: they are a field's, or a law is broken, and then they are not.
  abbrev pub Decided : Result (Unit {0}) Broken → Type 0
  Decided (Ok done) = FieldLaws candidate
  Decided (Err law) = Breaks law × ¬ (FieldLaws candidate)
