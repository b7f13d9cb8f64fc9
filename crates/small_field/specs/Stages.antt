-- Inner: no public contract cites this.
-- The laws at one code, at one pair and at one triple of codes; and at all of them.
use Rattle.std.specs.Prelude.{◌≡◌, ℕ, ◌<◌, ◌≤◌}
use Rattle.algebra.specs.Field.{largest_order}
use Rattle.small_field.specs.Candidates.{HasInverse, minus, plus, times}
use Rattle.small_field.specs.declared.tables.Tables.{Tables}

pub record CodeHolds (t : Tables) (a : ℕ) : Type 0 where
  pub below : minus t a < t.order
  pub zero : plus t a 0 ≡ a
  pub negative : plus t a (minus t a) ≡ 0
  pub one : times t a 1 ≡ a
  pub nothing : times t 0 a ≡ 0
  pub inverse : 0 < a → HasInverse t a

pub record PairHolds (t : Tables) (a b : ℕ) : Type 0 where
  pub sum_below : plus t a b < t.order
  pub product_below : times t a b < t.order
  pub sum_turned : plus t a b ≡ plus t b a
  pub product_turned : times t a b ≡ times t b a

pub record TripleHolds (t : Tables) (a b c : ℕ) : Type 0 where
  pub sum_regrouped : plus t (plus t a b) c ≡ plus t a (plus t b c)
  pub product_regrouped : times t (times t a b) c ≡ times t a (times t b c)
  pub distributes : times t a (plus t b c) ≡ plus t (times t a b) (times t a c)

module _ (t : Tables) where
  abbrev pub CodesHold : Type 0
  CodesHold = (a : ℕ) → a < t.order → CodeHolds t a

  -- The pairs that begin with a, and all pairs.
  abbrev pub PairsHoldOf : ℕ → Type 0
  PairsHoldOf a = (b : ℕ) → b < t.order → PairHolds t a b

  abbrev pub PairsHold : Type 0
  PairsHold = (a b : ℕ) → a < t.order → b < t.order → PairHolds t a b

  -- The triples that begin with a and b, those that begin with a, and all triples.
  abbrev pub TriplesHoldOf : ℕ → ℕ → Type 0
  TriplesHoldOf a b = (c : ℕ) → c < t.order → TripleHolds t a b c

  abbrev pub TriplesHoldFrom : ℕ → Type 0
  TriplesHoldFrom a = (b c : ℕ) → b < t.order → c < t.order → TripleHolds t a b c

  abbrev pub TriplesHold : Type 0
  TriplesHold = (a b c : ℕ) → a < t.order → b < t.order → c < t.order → TripleHolds t a b c

pub record AllHold (t : Tables) : Type 0 where
  pub least : 2 ≤ t.order
  pub most : t.order ≤ largest_order
  pub codes : CodesHold t
  pub pairs : PairsHold t
  pub triples : TriplesHold t
