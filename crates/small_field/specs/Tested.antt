-- The test of a small field: the laws at every code, every pair and every triple of codes, as one truth value
-- that can be computed.
use Rattle.std.specs.Prelude.{ℕ, Bool, Decides, ◌&&◌, ◌||◌, nat_eq, nat_lt, nat_le}
use Rattle.algebra.specs.Arithmetics.{on_codes_below, reciprocal}
use Rattle.algebra.specs.Field.{FieldLaws, largest_order}
use Rattle.algebra.proofs.Computed.{all_below}

-- Of any sum, negative and product on the codes below q.
module _ (q : ℕ) (plus : ℕ → ℕ → ℕ) (minus : ℕ → ℕ) (times : ℕ → ℕ → ℕ) where
  abbrev pub at_code : ℕ → Bool
  at_code a =
      nat_lt (minus a) q
      && nat_eq (plus a 0) a
      && nat_eq (plus a (minus a)) 0
      && nat_eq (times a 1) a
      && nat_eq (times 0 a) 0
      && (nat_eq a 0 || nat_eq (times a (reciprocal q times a)) 1)

  abbrev pub at_pair : ℕ → ℕ → Bool
  at_pair a b = nat_lt (plus a b) q && nat_lt (times a b) q && nat_eq (plus a b) (plus b a) && nat_eq (times a b) (times b a)

  abbrev pub at_triple : ℕ → ℕ → ℕ → Bool
  at_triple a b c =
      nat_eq (plus (plus a b) c) (plus a (plus b c))
      && nat_eq (times (times a b) c) (times a (times b c))
      && nat_eq (times a (plus b c)) (plus (times a b) (times a c))

  abbrev pub passes : Bool
  passes =
      nat_le 2 q
      && nat_le q largest_order
      && all_below at_code q
      && all_below (λ a. all_below (at_pair a) q) q
      && all_below (λ a. all_below (λ b. all_below (at_triple a b) q) q) q

-- The theorem: exactly the fields pass.
abbrev pub ExactlyFieldsPass : Type 0
ExactlyFieldsPass = (q : ℕ) (plus : ℕ → ℕ → ℕ) (minus : ℕ → ℕ) (times : ℕ → ℕ → ℕ) → Decides (passes q plus minus times) (FieldLaws (on_codes_below q plus minus times))
