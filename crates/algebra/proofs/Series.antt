-- Power series over a ring: coefficient functions, whose product is the recursion of `multiply`. They form a ring.
use Rattle.std.proofs.Common.{◌≡◌, ℕ, zero, suc, ◌+◌, ◌<◌, sym, refl, ap, ◌∙◌, arith}
use mathlib.Core.Path.{fun_ext}
use mathlib.Core.HLevel.{→_set}
use Rattle.algebra.specs.Abstract.{Ring}
use Rattle.algebra.proofs.Rings.{plus_assoc, plus_comm, plus_zero, zero_plus, plus_swap, times_plus, times_swap, times_zero, zero_times}

abbrev pub Series : Type 0 → Type 0
Series E = ℕ → E

-- The a' of a = a₀ + z·a'; and c + z·a.
abbrev pub rest : {E : Type 0} → Series E → Series E
rest a = λ n. a (suc n)

abbrev pub put : {E : Type 0} → E → Series E → Series E
put c a zero = c
put c a (suc n) = a n

module _ {E : Type 0} (𝓡 : Ring E) where
  open 𝓡 use {𝟎, 𝟏, sum as ◌⊕◌, negative, product as ◌·◌}

  infixl 60 ◌⊕◌ ◌⊞◌
  infixl 70 ◌·◌ ◌∗◌
  abbrev pub null : Series E
  null = λ n. 𝟎

  abbrev pub unit : Series E
  unit = put 𝟏 null

  abbrev pub ◌⊞◌ : Series E → Series E → Series E
  a ⊞ b = λ n. a n ⊕ b n

  abbrev pub opposite : Series E → Series E
  opposite a = λ n. negative (a n)

  abbrev scaled : E → Series E → Series E
  scaled c a = λ n. c · a n

  -- z·a
  abbrev shifted : Series E → Series E
  shifted a = put 𝟎 a

  -- a·b = a₀·b + z·(a'·b)
  unfoldable pub ◌∗◌ : Series E → Series E → Series E
  ◌∗◌ a b zero = a 0 · b 0
  ◌∗◌ a b (suc n) = a 0 · b (suc n) ⊕ ◌∗◌ (rest a) b n

  -- The product stays shut; its two clauses are all that is used of it.
  pub first : (a b : Series E) → (a ∗ b) 0 ≡ a 0 · b 0
  unfolding ◌∗◌
  first a b = refl

  pub next : (n : ℕ) (a b : Series E) → (a ∗ b) (suc n) ≡ a 0 · b (suc n) ⊕ (rest a ∗ b) n
  unfolding ◌∗◌
  next n a b = refl

  parts : (n : ℕ) (a b : Series E) → (a ∗ b) n ≡ (scaled (a 0) b ⊞ shifted (rest a ∗ b)) n
  parts zero a b = cc (first a b, plus_zero 𝓡 (a 0 · b 0))
  parts (suc n) a b = next n a b

  pub null_left : (n : ℕ) (b : Series E) → (null ∗ b) n ≡ 𝟎
  null_left zero b = cc (first null b, zero_times 𝓡 (b 0))
  null_left (suc n) b = cc (next n null b, null_left n b, zero_times 𝓡 (b (suc n)), plus_zero 𝓡 𝟎)

  -- To multiply by a is linear, and goes past a multiplication by z.
  pub of_sum : (n : ℕ) (a b c : Series E) → (a ∗ (b ⊞ c)) n ≡ (a ∗ b) n ⊕ (a ∗ c) n
  of_sum zero a b c = cc (first a (b ⊞ c), first a b, first a c, times_plus 𝓡 (a 0) (b 0) (c 0))
  of_sum (suc n) a b c = simp (next, of_sum n (rest a) b c, times_plus 𝓡, plus_assoc 𝓡, plus_swap 𝓡)

  of_scaled : (n : ℕ) (k : E) (a b : Series E) → (a ∗ scaled k b) n ≡ k · (a ∗ b) n
  of_scaled zero k a b = cc (first a (scaled k b), first a b, times_swap 𝓡 (a 0) k (b 0))
  of_scaled (suc n) k a b =
      cc (
        next n a (scaled k b),
        next n a b,
        of_scaled n k (rest a) b,
        times_swap 𝓡 (a 0) k (b (suc n)),
        times_plus 𝓡 k (a 0 · b (suc n)) ((rest a ∗ b) n),
      )

  of_shifted : (n : ℕ) (a b : Series E) → (a ∗ shifted b) (suc n) ≡ (a ∗ b) n
  of_shifted zero a b =
      cc (next 0 a (shifted b), first (rest a) (shifted b), first a b, times_zero 𝓡 (a 1), plus_zero 𝓡 (a 0 · b 0))
  of_shifted (suc n) a b = cc (next (suc n) a (shifted b), next n a b, of_shifted n (rest a) b)

  pub of_unit : (n : ℕ) (a : Series E) → (a ∗ unit) n ≡ a n
  of_unit zero a = cc (first a unit, 𝓡.product_one (a 0))
  of_unit (suc n) a = cc (next n a unit, of_unit n (rest a), times_zero 𝓡 (a 0), zero_plus 𝓡 (a (suc n)))

  -- So multiplications by a and by b can be exchanged, since a is a₀ and z·a', and a' is there for the step before.
  exchange : (n : ℕ) (a b c : Series E) → (a ∗ (b ∗ c)) n ≡ (b ∗ (a ∗ c)) n
  exchange zero a b c =
      cc (first a (b ∗ c), first b c, first b (a ∗ c), first a c, times_swap 𝓡 (a 0) (b 0) (c 0))
  exchange (suc n) a b c =
      next n a (b ∗ c)
      ∙ cc (
        exchange n (rest a) b c,
        of_scaled (suc n) (a 0) b c,
        of_shifted n b (rest a ∗ c),
        of_sum (suc n) b (scaled (a 0) c) (shifted (rest a ∗ c)),
      )
      ∙ ap (λ (x : Series E). (b ∗ x) (suc n)) (sym (fun_ext (λ i. parts i a c)))

  -- With c = 1 the product commutes, and then it associates.
  pub commutes : (a b : Series E) → a ∗ b ≡ b ∗ a
  commutes a b =
      let a_one : a ∗ unit ≡ a = fun_ext (λ n. of_unit n a) in
      let b_one : b ∗ unit ≡ b = fun_ext (λ n. of_unit n b) in
      let swap : a ∗ (b ∗ unit) ≡ b ∗ (a ∗ unit) = fun_ext (λ n. exchange n a b unit) in
      cc

  pub associates : (a b c : Series E) → (a ∗ b) ∗ c ≡ a ∗ (b ∗ c)
  associates a b c =
      let swap : c ∗ (a ∗ b) ≡ a ∗ (c ∗ b) = fun_ext (λ n. exchange n c a b) in
      cc (commutes (a ∗ b) c, commutes c b)

  abbrev pub series_ring : Ring (Series E)
  series_ring =
      record {
        is_set = →_set 𝓡.is_set;
        𝟎 = null;
        𝟏 = unit;
        sum = ◌⊞◌;
        negative = opposite;
        product = ◌∗◌;
        sum_assoc = λ a b c. fun_ext (λ n. plus_assoc 𝓡 (a n) (b n) (c n));
        sum_comm = λ a b. fun_ext (λ n. plus_comm 𝓡 (a n) (b n));
        sum_zero = λ a. fun_ext (λ n. plus_zero 𝓡 (a n));
        sum_negative = λ a. fun_ext (λ n. 𝓡.sum_negative (a n));
        product_assoc = associates;
        product_comm = commutes;
        product_one = λ a. fun_ext (λ n. of_unit n a);
        distributes = λ a b c. fun_ext (λ n. of_sum n a b c);
      }

  -- The monomial c·z^k.
  abbrev pub monomial : E → ℕ → Series E
  monomial c zero = put c null
  monomial c (suc k) = put 𝟎 (monomial c k)

  -- To multiply by c·z^k is to scale by c and to move up by k places.
  monomial_next : (c : E) (k : ℕ) (a : Series E) (n : ℕ) → (monomial c (suc k) ∗ a) (suc n) ≡ (monomial c k ∗ a) n
  monomial_next c k a n =
      let step : (monomial c (suc k) ∗ a) (suc n) ≡ 𝟎 · a (suc n) ⊕ (monomial c k ∗ a) n = next n (monomial c (suc k)) a in
      cc (zero_times 𝓡 (a (suc n)), zero_plus 𝓡 ((monomial c k ∗ a) n))

  pub monomial_from : (c : E) (k : ℕ) (a : Series E) (i n : ℕ) → k + i ≡ n → (monomial c k ∗ a) n ≡ c · a i
  monomial_from c zero a i zero e = let z : i ≡ 0 = omega arith in rw z (first (put c null) a)
  monomial_from c zero a i (suc n) e =
      let z : i ≡ suc n = omega arith in rw z (simp (next, null_left n a, plus_zero 𝓡))
  monomial_from c (suc k) a i zero e = absurd (omega arith)
  monomial_from c (suc k) a i (suc n) e = monomial_next c k a n ∙ monomial_from c k a i n (omega arith)

  pub monomial_before : (c : E) (k : ℕ) (a : Series E) (n : ℕ) → n < k → (monomial c k ∗ a) n ≡ 𝟎
  monomial_before c zero a n l = absurd (omega arith)
  monomial_before c (suc k) a zero l = simp (first, zero_times 𝓡)
  monomial_before c (suc k) a (suc n) l = monomial_next c k a n ∙ monomial_before c k a n (omega arith)
