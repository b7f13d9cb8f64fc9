-- Bit polynomials: reduction keeps sums, goes before or after a shift, and answers the one remainder.
use Rattle.std.proofs.Common.{◌≡◌, ℕ, zero, suc, ◌+◌, ◌*◌, ◌/◌, ◌%◌, ◌^◌, ◌<◌, ◌≤◌, sym, refl, ap, ◌∙◌, add-one, add-suc, add-zero, mod-lt, add_comm, suc-add, one-mul, zero-add, zero-mul, mul_left_comm, arith, pow-add, pow_mono}
use native.Mathlib.Nat.{div-eq_of_lt, div-eq_of_lt-le, div-lt_iff_lt-mul, mod-eq_of_lt, mul-div-mul_left, mul-div-mul_right, pow-succ'}
use lib.Bits.{bit_xor, xor_lt, xor_mod, xor_shr, xor_self, xor_zero_r, xor_comm, xor_assoc, xor_block}
use Rattle.std.proofs.lemmas.Nat.{pow_pos}
use Rattle.algebra.specs.BitPolynomials.{IsBitRemainder, carry_less, reduce}
use Rattle.algebra.specs.Theorems.{OneBitRemainder}

-- Exclusive or as a sum of bit polynomials

pub regroup : (a b c d : ℕ) → bit_xor (bit_xor a b) (bit_xor c d) ≡ bit_xor (bit_xor a c) (bit_xor b d)
regroup a b c d =
    xor_assoc a b (bit_xor c d)
    ∙ ap (bit_xor a) (sym (xor_assoc b c d) ∙ ap (λ x. bit_xor x d) (xor_comm b c) ∙ xor_assoc c b d)
    ∙ sym (xor_assoc a c (bit_xor b d))

pub twice_sum : (a b : ℕ) → 2 * bit_xor a b ≡ bit_xor (2 * a) (2 * b)
twice_sum a b =
    let whole : 2 * bit_xor a b ≡ bit_xor a b * 2 + 0 = omega arith in
    let left : a * 2 + 0 ≡ 2 * a = omega arith in
    let right : b * 2 + 0 ≡ 2 * b = omega arith in
    whole ∙ sym (xor_block 1 a b 0 0 (omega arith) (omega arith)) ∙ ap (λ x. bit_xor x (b * 2 + 0)) left ∙ ap (bit_xor (2 * a)) right

pub at_bits : (P : ℕ → Type 0) → P 0 → P 1 → (bit : ℕ) → bit < 2 → P bit
at_bits P p r zero h = p
at_bits P p r (suc zero) h = r
at_bits P p r (suc (suc bit)) h = absurd (omega arith)

pub low_bit : (a : ℕ) → a % 2 < 2
low_bit a = mod-lt a (omega arith)

-- The bit b times a, for a sum of two bits.
bit_sum : (a b c : ℕ) → b < 2 → c < 2 → bit_xor b c * a ≡ bit_xor (b * a) (c * a)
bit_sum a b c hb hc =
    at_bits (λ b. bit_xor b c * a ≡ bit_xor (b * a) (c * a))
    (sym (ap (λ x. bit_xor x (c * a)) (zero-mul a)))
    (at_bits (λ c. bit_xor 1 c * a ≡ bit_xor (1 * a) (c * a))
    (sym (ap (bit_xor (1 * a)) (zero-mul a) ∙ xor_zero_r (1 * a)))
    (zero-mul a ∙ sym (xor_self (1 * a)))
    c hc)
    b hb

-- A bit times a has no more bits than a.
pub bit_below : (k a b : ℕ) → a < 2 ^ k → b < 2 → b * a < 2 ^ k
bit_below k a b ha hb = at_bits (λ b. b * a < 2 ^ k) (rw zero-mul (pow_pos k)) (rw one-mul ha) b hb

-- What is taken off twice is not taken off.
xor_back : (a b : ℕ) → bit_xor (bit_xor a b) b ≡ a
xor_back a b = xor_assoc a b b ∙ ap (bit_xor a) (xor_self b) ∙ xor_zero_r a

-- Products

-- A product has the bits of both factors, less one.
pub product_bits : (k n a b : ℕ) → a < 2 ^ k → carry_less (suc n) a b < 2 ^ (k + n)
unfolding carry_less
product_bits k zero a b h = rw (xor_zero_r, add-zero) (bit_below k a (b % 2) h (low_bit b))
product_bits k (suc n) a b h =
    let more : 2 ^ k ≤ 2 ^ (k + suc n) = pow_mono {i = k} {j = k + suc n} (omega arith) in
    let twice : 2 ^ (k + suc n) ≡ 2 * 2 ^ (k + n) = ap (λ x. 2 ^ x) (add-suc k n) ∙ pow-succ' 2 (k + n) in
    let rest : carry_less (suc n) a (b / 2) < 2 ^ (k + n) = product_bits k n a (b / 2) h in
    xor_lt (k + suc n) (b % 2 * a) (2 * carry_less (suc n) a (b / 2)) (omega (arith, bit_below k a (b % 2) h (low_bit b))) (omega arith)

one_bit : (a c : ℕ) → c < 2 → carry_less 1 a c ≡ c * a
unfolding carry_less
one_bit a c h = xor_zero_r (c % 2 * a) ∙ ap (λ x. x * a) (mod-eq_of_lt h)

-- One bit more, above the n bits of b.
bit_on_top : (n a b c : ℕ) → b < 2 ^ n → c < 2 → carry_less (suc n) a (b + c * 2 ^ n) ≡ bit_xor (carry_less n a b) (c * (a * 2 ^ n))
unfolding carry_less
bit_on_top zero a b c hb hc =
    let bit : b + c * 2 ^ zero ≡ c = omega arith in
    let same : a ≡ a * 2 ^ zero = omega arith in
    ap (carry_less 1 a) bit ∙ one_bit a c hc ∙ ap (λ x. c * x) same
bit_on_top (suc n) a b c hb hc =
    let y = c * 2 ^ n in
    let power : 2 ^ suc n ≡ 2 * 2 ^ n = pow-succ' 2 n in
    let moved : c * 2 ^ suc n ≡ 2 * y = ap (λ x. c * x) power ∙ mul_left_comm c 2 (2 ^ n) in
    let low : (b + c * 2 ^ suc n) % 2 ≡ b % 2 = omega arith in
    let high : (b + c * 2 ^ suc n) / 2 ≡ b / 2 + y = omega arith in
    let half : b / 2 < 2 ^ n = omega arith in
    let top : 2 * (c * (a * 2 ^ n)) ≡ c * (a * 2 ^ suc n) =
    mul_left_comm 2 c (a * 2 ^ n) ∙ ap (λ x. c * x) (mul_left_comm 2 a (2 ^ n) ∙ ap (λ x. a * x) (sym power)) in
    ap (λ x. bit_xor (x * a) (2 * carry_less (suc n) a ((b + c * 2 ^ suc n) / 2))) low
    ∙ ap (λ x. bit_xor (b % 2 * a) (2 * carry_less (suc n) a x)) high
    ∙ ap (λ x. bit_xor (b % 2 * a) (2 * x)) (bit_on_top n a (b / 2) c half hc)
    ∙ ap (bit_xor (b % 2 * a)) (twice_sum (carry_less n a (b / 2)) (c * (a * 2 ^ n)))
    ∙ sym (xor_assoc (b % 2 * a) (2 * carry_less n a (b / 2)) (2 * (c * (a * 2 ^ n))))
    ∙ ap (bit_xor (carry_less (suc n) a b)) top

module _ (d m : ℕ) where
  -- Reduction keeps sums, leaves what has no bit to clear, and goes before or after a shift

  bit_at : ℕ → ℕ → ℕ
  bit_at n p = p / 2 ^ (d + n) % 2

  bit_at_sum : (n p r : ℕ) → bit_at n (bit_xor p r) ≡ bit_xor (bit_at n p) (bit_at n r)
  unfolding bit_at
  bit_at_sum n p r = ap (λ x. x % 2) (xor_shr p r (d + n)) ∙ xor_mod (p / 2 ^ (d + n)) (r / 2 ^ (d + n)) 1

  bit_at_below : (n p : ℕ) → bit_at n p < 2
  unfolding bit_at
  bit_at_below n p = low_bit (p / 2 ^ (d + n))

  bit_at_above : (n p : ℕ) → p < 2 ^ (d + n) → bit_at n p ≡ 0
  unfolding bit_at
  bit_at_above n p h = ap (λ x. x % 2) (div-eq_of_lt {n = p} {m = 2 ^ (d + n)} h)

  bit_at_shifted : (n p : ℕ) → bit_at (suc n) (2 * p) ≡ bit_at n p
  unfolding bit_at
  bit_at_shifted n p =
      ap (λ x. 2 * p / x % 2) (ap (λ x. 2 ^ x) (add-suc d n) ∙ pow-succ' 2 (d + n))
      ∙ ap (λ x. x % 2) (mul-div-mul_left p (2 ^ (d + n)) (omega arith))

  pub reduce_sum : (n p r : ℕ) → reduce d m n (bit_xor p r) ≡ bit_xor (reduce d m n p) (reduce d m n r)
  unfolding reduce bit_at
  reduce_sum zero p r = refl
  reduce_sum (suc n) p r =
      let t = m * 2 ^ n in
      ap (λ x. reduce d m n (bit_xor (bit_xor p r) (x * t))) (bit_at_sum n p r)
      ∙ ap (λ x. reduce d m n (bit_xor (bit_xor p r) x)) (bit_sum t (bit_at n p) (bit_at n r) (bit_at_below n p) (bit_at_below n r))
      ∙ ap (reduce d m n) (regroup p r (bit_at n p * t) (bit_at n r * t))
      ∙ reduce_sum n (bit_xor p (bit_at n p * t)) (bit_xor r (bit_at n r * t))

  -- A bit that is not there is not cleared.
  reduce_less : (n p : ℕ) → p < 2 ^ (d + n) → reduce d m (suc n) p ≡ reduce d m n p
  unfolding reduce bit_at
  reduce_less n p h =
      ap (λ x. reduce d m n (bit_xor p (x * (m * 2 ^ n)))) (bit_at_above n p h)
      ∙ ap (λ x. reduce d m n (bit_xor p x)) (zero-mul (m * 2 ^ n))
      ∙ ap (reduce d m n) (xor_zero_r p)

  reduce_bits : (k n p : ℕ) → p < 2 ^ (d + n) → reduce d m (k + n) p ≡ reduce d m n p
  reduce_bits zero n p h = ap (λ x. reduce d m x p) (zero-add n)
  reduce_bits (suc k) n p h =
      let more : 2 ^ (d + n) ≤ 2 ^ (d + (k + n)) = pow_mono {i = d + n} {j = d + (k + n)} (omega arith) in
      ap (λ x. reduce d m x p) (suc-add k n) ∙ reduce_less (k + n) p (omega arith) ∙ reduce_bits k n p h

  pub reduce_low : (n p : ℕ) → p < 2 ^ d → reduce d m n p ≡ p
  unfolding reduce
  reduce_low n p h = ap (λ x. reduce d m x p) (sym (add-zero n)) ∙ reduce_bits n 0 p (rw add-zero h)

  -- x times a polynomial below x^d.
  unfoldable pub shifted_up : ℕ → ℕ
  shifted_up a = reduce d m 1 (2 * a)

  pub reduce_shifted : (n p : ℕ) → reduce d m (suc n) (2 * p) ≡ shifted_up (reduce d m n p)
  unfolding reduce shifted_up bit_at
  reduce_shifted zero p = refl
  reduce_shifted (suc n) p =
      let b = bit_at n p in
      let t = m * 2 ^ n in
      let up : m * 2 ^ suc n ≡ 2 * t = ap (λ x. m * x) (pow-succ' 2 n) ∙ mul_left_comm m 2 (2 ^ n) in
      ap (λ x. reduce d m (suc n) (bit_xor (2 * p) (x * (m * 2 ^ suc n)))) (bit_at_shifted n p)
      ∙ ap (λ x. reduce d m (suc n) (bit_xor (2 * p) (b * x))) up
      ∙ ap (λ x. reduce d m (suc n) (bit_xor (2 * p) x)) (mul_left_comm b 2 t)
      ∙ ap (reduce d m (suc n)) (sym (twice_sum p (b * t)))
      ∙ reduce_shifted n (bit_xor p (b * t))

  module _ (leading : 2 ^ d ≤ m) (last : m < 2 ^ (d + 1)) where
    -- What is answered is the remainder

    top_bit : m / 2 ^ d ≡ 1
    top_bit =
        let power : 2 ^ (d + 1) ≡ 2 * 2 ^ d = ap (λ x. 2 ^ x) (add-one d) ∙ pow-succ' 2 d in
        div-eq_of_lt-le {k = 1} (2 ^ d) {m = m} (omega arith) (omega arith)

    top_bit_moved : (n : ℕ) → m * 2 ^ n / 2 ^ (d + n) ≡ 1
    top_bit_moved n = ap (λ x. m * 2 ^ n / x) (pow-add 2 d n) ∙ mul-div-mul_right m (2 ^ d) (pow_pos n) ∙ top_bit

    -- Clearing bit d + n leaves the bits below it.
    cleared_below : (n p : ℕ) → p < 2 ^ (d + suc n) → bit_xor p (p / 2 ^ (d + n) % 2 * (m * 2 ^ n)) < 2 ^ (d + n)
    cleared_below n p h =
        let k = d + n in
        let t = p / 2 ^ k % 2 * (m * 2 ^ n) in
        let positive = pow_pos k in
        let power : 2 ^ (d + suc n) ≡ 2 * 2 ^ k = ap (λ x. 2 ^ x) (add-suc d n) ∙ pow-succ' 2 k in
        let bit : p / 2 ^ k % 2 ≡ p / 2 ^ k = mod-eq_of_lt ((div-lt_iff_lt-mul {k = 2 ^ k} {x = p} {y = 2} positive).1 (omega arith)) in
        let same : t / 2 ^ k ≡ p / 2 ^ k % 2 =
        at_bits (λ c. c * (m * 2 ^ n) / 2 ^ k ≡ c)
        (ap (λ x. x / 2 ^ k) (zero-mul (m * 2 ^ n)) ∙ div-eq_of_lt positive)
        (ap (λ x. x / 2 ^ k) (one-mul (m * 2 ^ n)) ∙ top_bit_moved n)
        (p / 2 ^ k % 2) (low_bit (p / 2 ^ k)) in
        let none : bit_xor p t / 2 ^ k ≡ 0 = xor_shr p t k ∙ ap (bit_xor (p / 2 ^ k)) (same ∙ bit) ∙ xor_self (p / 2 ^ k) in
        let low : bit_xor p t < 1 * 2 ^ k = (div-lt_iff_lt-mul {k = 2 ^ k} {x = bit_xor p t} {y = 1} positive).0 (omega arith) in
        omega arith

    divided : (n p : ℕ) → p < 2 ^ (d + n) → (q : ℕ) × (q < 2 ^ n) × (p ≡ bit_xor (carry_less n m q) (reduce d m n p)) × (reduce d m n p < 2 ^ d)
    unfolding reduce carry_less
    divided zero p h = (0, omega arith, refl, rw (← add-zero d) h)
    divided (suc n) p h =
        let c = p / 2 ^ (d + n) % 2 in
        let t = c * (m * 2 ^ n) in
        let hc = low_bit (p / 2 ^ (d + n)) in
        let rest = divided n (bit_xor p t) (cleared_below n p h) in
        let r = reduce d m n (bit_xor p t) in
        let power : 2 ^ suc n ≡ 2 * 2 ^ n = pow-succ' 2 n in
        let small : rest.0 < 2 ^ n = rest.1 in
        let product = carry_less n m rest.0 in (
          rest.0 + c * 2 ^ n,
          at_bits (λ c. rest.0 + c * 2 ^ n < 2 ^ suc n) (rw zero-mul (omega arith)) (rw one-mul (omega arith)) c hc,
          sym (xor_back p t)
              ∙ ap (λ x. bit_xor x t) rest.2
              ∙ xor_assoc product r t
              ∙ ap (bit_xor product) (xor_comm r t)
              ∙ sym (xor_assoc product t r)
              ∙ ap (λ x. bit_xor x r) (sym (bit_on_top n m rest.0 c small hc)),
          rest.3,
        )

    -- Multiples leave nothing, so what leaves r is r more than a multiple

    reduce_modulus : (n : ℕ) → reduce d m (suc n) m ≡ 0
    unfolding reduce
    reduce_modulus zero =
        let bit : m / 2 ^ (d + 0) % 2 ≡ 1 = ap (λ k. m / 2 ^ k % 2) (add-zero d) ∙ ap (λ x. x % 2) top_bit in
        let once : 1 * (m * 2 ^ 0) ≡ m = omega arith in
        ap (λ x. bit_xor m (x * (m * 2 ^ 0))) bit ∙ ap (bit_xor m) once ∙ xor_self m
    reduce_modulus (suc n) =
        let more : 2 ^ (d + 1) ≤ 2 ^ (d + suc n) = pow_mono {i = d + 1} {j = d + suc n} (omega arith) in
        reduce_less (suc n) m (omega arith) ∙ reduce_modulus n

    reduce_multiple : (n k q : ℕ) → reduce d m (k + n) (carry_less n m q) ≡ 0
    unfolding carry_less shifted_up
    reduce_multiple zero k q = reduce_low (k + 0) 0 (pow_pos d)
    reduce_multiple (suc n) k q =
        let rest = 2 * carry_less n m (q / 2) in
        ap (λ x. reduce d m x (bit_xor (q % 2 * m) rest)) (add-suc k n)
        ∙ reduce_sum (suc (k + n)) (q % 2 * m) rest
        ∙ ap (λ x. bit_xor x (reduce d m (suc (k + n)) rest))
        (at_bits (λ b. reduce d m (suc (k + n)) (b * m) ≡ 0)
        (ap (reduce d m (suc (k + n))) (zero-mul m) ∙ reduce_low (suc (k + n)) 0 (pow_pos d))
        (ap (reduce d m (suc (k + n))) (one-mul m) ∙ reduce_modulus (k + n))
        (q % 2) (low_bit q))
        ∙ reduce_shifted (k + n) (carry_less n m (q / 2))
        ∙ ap shifted_up (reduce_multiple n k (q / 2))
        ∙ reduce_low 1 0 (pow_pos d)

    pub one_remainder : (n p : ℕ) → p < 2 ^ (d + n) → OneBitRemainder d m p (reduce d m n p)
    one_remainder n p h =
        let found = divided n p h in
        record {
          is = record { bits = n; quotient = found.0; fits = found.1; is = found.2; below = found.3 };
          only = λ other (r : IsBitRemainder d m p other).
              let b = r.bits in
              sym (reduce_low (n + b) other r.below)
              ∙ sym (ap (λ x. bit_xor x (reduce d m (n + b) other)) (reduce_multiple b n r.quotient))
              ∙ sym (reduce_sum (n + b) (carry_less b m r.quotient) other)
              ∙ ap (reduce d m (n + b)) (sym r.is)
              ∙ ap (λ x. reduce d m x p) (add_comm n b)
              ∙ reduce_bits b n p h;
        }
