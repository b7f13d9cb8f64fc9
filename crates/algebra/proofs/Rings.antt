-- Arithmetic in any commutative ring: what follows from the axioms, differences and cancelling, and `ring`, the rules by
-- which `simp ring` proves every identity without negatives.
use Rattle.std.proofs.Common.{◌≡◌}
use Rattle.algebra.specs.Abstract.{Ring}

module _ {R : Type 0} (𝓡 : Ring R) where
  open 𝓡 use {𝟎, 𝟏, sum as ◌⊕◌, negative, product as ◌·◌}

  infixl 60 ◌⊕◌
  infixl 70 ◌·◌
  -- The axioms again, as lemmas that a ruleset may name.
  pub plus_assoc : (a b c : R) → (a ⊕ b) ⊕ c ≡ a ⊕ (b ⊕ c)
  plus_assoc = 𝓡.sum_assoc

  pub plus_comm : (a b : R) → a ⊕ b ≡ b ⊕ a
  plus_comm = 𝓡.sum_comm

  pub plus_zero : (a : R) → a ⊕ 𝟎 ≡ a
  plus_zero = 𝓡.sum_zero

  pub times_assoc : (a b c : R) → (a · b) · c ≡ a · (b · c)
  times_assoc = 𝓡.product_assoc

  pub times_comm : (a b : R) → a · b ≡ b · a
  times_comm = 𝓡.product_comm

  pub times_plus : (a b c : R) → a · (b ⊕ c) ≡ a · b ⊕ a · c
  times_plus = 𝓡.distributes

  -- Their mirror images.
  pub zero_plus : (a : R) → 𝟎 ⊕ a ≡ a
  zero_plus a = cc (plus_comm 𝟎 a, plus_zero a)

  pub one_times : (a : R) → 𝟏 · a ≡ a
  one_times a = cc (times_comm 𝟏 a, 𝓡.product_one a)

  pub plus_times : (a b c : R) → (a ⊕ b) · c ≡ a · c ⊕ b · c
  plus_times a b c = cc (times_comm (a ⊕ b) c, times_plus c a b, times_comm c a, times_comm c b)

  pub negative_plus : (a : R) → negative a ⊕ a ≡ 𝟎
  negative_plus a = cc (plus_comm (negative a) a, 𝓡.sum_negative a)

  -- The second of three changes places with the first.
  pub plus_swap : (a b c : R) → a ⊕ (b ⊕ c) ≡ b ⊕ (a ⊕ c)
  plus_swap a b c = cc (plus_assoc a b c, plus_assoc b a c, plus_comm a b)

  pub times_swap : (a b c : R) → a · (b · c) ≡ b · (a · c)
  times_swap a b c = cc (times_assoc a b c, times_assoc b a c, times_comm a b)

  pub ruleset ring = (times_plus, plus_times, times_assoc, times_comm, times_swap, plus_assoc, plus_comm, plus_swap)

  -- Cancelling.
  pub cancel : (a b c : R) → a ⊕ b ≡ a ⊕ c → b ≡ c
  cancel a b c e = cc (without b, without c)
    where
      without : (x : R) → negative a ⊕ (a ⊕ x) ≡ x
      without x = cc (plus_assoc (negative a) a x, negative_plus a, zero_plus x)

  pub times_zero : (a : R) → a · 𝟎 ≡ 𝟎
  times_zero a = cancel (a · 𝟎) (a · 𝟎) 𝟎 (cc (times_plus a 𝟎 𝟎, plus_zero 𝟎, plus_zero (a · 𝟎)))

  pub zero_times : (a : R) → 𝟎 · a ≡ 𝟎
  zero_times a = cc (times_comm 𝟎 a, times_zero a)

  pub negative_zero : negative 𝟎 ≡ 𝟎
  negative_zero = cc (𝓡.sum_negative 𝟎, zero_plus (negative 𝟎))

  pub times_negative : (a b : R) → a · negative b ≡ negative (a · b)
  times_negative a b =
      cancel (a · b) (a · negative b) (negative (a · b)) (cc (times_plus a b (negative b), 𝓡.sum_negative b, times_zero a, 𝓡.sum_negative (a · b)))

  -- The difference a - b: what gives a when b is added. Identities with differences are proved by naming the
  -- difference, `difference_plus`, and `simp ring` for the rest.
  abbrev pub difference : R → R → R
  difference a b = a ⊕ negative b

  pub difference_plus : (a b : R) → difference a b ⊕ b ≡ a
  difference_plus a b = cc (plus_assoc a (negative b) b, negative_plus b, plus_zero a)

  pub difference_is : (a b x : R) → x ⊕ b ≡ a → x ≡ difference a b
  difference_is a b x e = cancel b x (difference a b) (cc (plus_comm b x, plus_comm b (difference a b), difference_plus a b))

  pub difference_zero : (a b : R) → difference a b ≡ 𝟎 → a ≡ b
  difference_zero a b e = cc (difference_plus a b, zero_plus b)

  pub difference_twice : (a b : R) → b ≡ difference a (difference a b)
  difference_twice a b = difference_is a (difference a b) b (cc (difference_plus a b, plus_comm (difference a b) b))

  -- (a - b) + (b - c) = a - c
  pub difference_chain : (a b c : R) → difference a b ⊕ difference b c ≡ difference a c
  difference_chain a b c =
      difference_is a c (difference a b ⊕ difference b c)
      (cc (plus_assoc (difference a b) (difference b c) c, difference_plus b c, difference_plus a b))

  pub times_difference : (a b c : R) → a · difference b c ≡ difference (a · b) (a · c)
  times_difference a b c =
      difference_is (a · b) (a · c) (a · difference b c) (cc (times_plus a (difference b c) c, difference_plus b c))
