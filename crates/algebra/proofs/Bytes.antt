-- Bytes are a field. Every byte but 0 is a power of x, the byte 2, and a product by x^i is i doublings: all laws follow from that.
use Rattle.std.proofs.Common.{◌≡◌, ℕ, zero, suc, ◌+◌, ◌-◌, ◌*◌, ◌/◌, ◌%◌, ◌<◌, ◌≤◌, cond, eqb, ltb, ◌⊎◌, List, [], ◌∷◌, map, get_or, sym, refl, ap, ◌∙◌, subst, inl, inr, ⊎_elim, add_comm, suc-add, one-mul, zero-add, zero-mul, add-one, arith}
use lib.Bits.{bit_xor, xor_lt, xor_self, xor_zero_r, xor_comm, xor_assoc}
use Rattle.std.specs.List.{range_with_len}
use Rattle.std.proofs.lemmas.List.FromFn.{get_or-map-range_with_len}
use Rattle.std.proofs.lemmas.Bool.{cases_lt, ltb-true}
use Rattle.algebra.specs.Arithmetics.{byte_arithmetic, reciprocal}
use Rattle.algebra.specs.BitPolynomials.{byte_modulus, byte_product, carry_less, power_of_two, reduce}
use Rattle.algebra.specs.Field.{FieldLaws}
use Rattle.algebra.specs.Theorems.{OneBitRemainder}
use Rattle.algebra.proofs.BitReduction.{at_bits, bit_below, low_bit, one_remainder, product_bits, reduce_low, reduce_shifted, reduce_sum, shifted_up, twice_sum}
use Rattle.algebra.proofs.Computed.{agree_below, passes_below}
use Rattle.algebra.proofs.Guarded.{field_laws, on_codes_inside, on_codes_outside_left, on_codes_outside_right, reciprocal_passes}
use Rattle.algebra.proofs.Laws.{inverse_unique}

-- x times a byte.
unfoldable pub doubled : ℕ → ℕ
doubled a = reduce 8 byte_modulus 1 (2 * a)

doubled_sum : (a b : ℕ) → doubled (bit_xor a b) ≡ bit_xor (doubled a) (doubled b)
unfolding doubled
doubled_sum a b = ap (reduce 8 byte_modulus 1) (twice_sum a b) ∙ reduce_sum 8 byte_modulus 1 (2 * a) (2 * b)

doubled_below : (a : ℕ) → a < 256 → doubled a < 256
unfolding doubled reduce
doubled_below a h = ltb-true (doubled a) 256 (passes_below (λ a. ltb (doubled a) 256) 256 refl a h)

-- The product by Horner's rule: b = b₀ + x·b' gives b₀·a + x·(a·b'), reduced at each step

horner : ℕ → ℕ → ℕ → ℕ
horner zero a b = 0
horner (suc n) a b = bit_xor (b % 2 * a) (doubled (horner n a (b / 2)))

reduced_product : (n a b : ℕ) → a < 256 → reduce 8 byte_modulus n (carry_less (suc n) a b) ≡ horner (suc n) a b
unfolding horner doubled carry_less reduce shifted_up
reduced_product zero a b h = refl
reduced_product (suc n) a b h =
    let rest = 2 * carry_less (suc n) a (b / 2) in
    reduce_sum 8 byte_modulus (suc n) (b % 2 * a) rest
    ∙ ap (λ x. bit_xor x (reduce 8 byte_modulus (suc n) rest)) (reduce_low 8 byte_modulus (suc n) (b % 2 * a) (bit_below 8 a (b % 2) h (low_bit b)))
    ∙ ap (bit_xor (b % 2 * a)) (reduce_shifted 8 byte_modulus n (carry_less (suc n) a (b / 2)) ∙ ap doubled (reduced_product n a (b / 2) h))

product_by_horner : (a b : ℕ) → a < 256 → byte_product a b ≡ horner 8 a b
unfolding byte_product
product_by_horner a b h = reduced_product 7 a b h

-- The product is the one remainder by the modulus.
pub product_remainder : (a b : ℕ) → a < 256 → b < 256 → OneBitRemainder 8 byte_modulus (carry_less 8 a b) (byte_product a b)
unfolding byte_product
product_remainder a b ha hb = one_remainder 8 byte_modulus (omega arith) (omega arith) 7 (carry_less 8 a b) (product_bits 8 7 a b ha)

bit_doubled : (a b : ℕ) → b < 2 → b * doubled a ≡ doubled (b * a)
unfolding doubled reduce
bit_doubled a b h =
    at_bits (λ b. b * doubled a ≡ doubled (b * a)) (zero-mul (doubled a) ∙ sym (ap doubled (zero-mul a))) (one-mul (doubled a) ∙ sym (ap doubled (one-mul a))) b h

horner_doubled : (n a b : ℕ) → horner n (doubled a) b ≡ doubled (horner n a b)
unfolding horner doubled reduce
horner_doubled zero a b = refl
horner_doubled (suc n) a b =
    ap (λ x. bit_xor x (doubled (horner n (doubled a) (b / 2)))) (bit_doubled a (b % 2) (low_bit b))
    ∙ ap (λ x. bit_xor (doubled (b % 2 * a)) (doubled x)) (horner_doubled n a (b / 2))
    ∙ sym (doubled_sum (b % 2 * a) (doubled (horner n a (b / 2))))

product_doubled : (a b : ℕ) → a < 256 → byte_product (doubled a) b ≡ doubled (byte_product a b)
product_doubled a b h =
    product_by_horner (doubled a) b (doubled_below a h) ∙ horner_doubled 8 a b ∙ ap doubled (sym (product_by_horner a b h))

-- Powers of x

-- x^i times a byte.
unfoldable pub shifted : ℕ → ℕ → ℕ
shifted zero a = a
shifted (suc i) a = doubled (shifted i a)

pub shifted_add : (i j a : ℕ) → shifted (i + j) a ≡ shifted i (shifted j a)
unfolding shifted
shifted_add zero j a = ap (λ n. shifted n a) (zero-add j)
shifted_add (suc i) j a = ap (λ n. shifted n a) (suc-add i j) ∙ ap doubled (shifted_add i j a)

shifted_below : (i a : ℕ) → a < 256 → shifted i a < 256
unfolding shifted
shifted_below zero a h = h
shifted_below (suc i) a h = doubled_below (shifted i a) (shifted_below i a h)

shifted_sum : (i a b : ℕ) → shifted i (bit_xor a b) ≡ bit_xor (shifted i a) (shifted i b)
unfolding shifted
shifted_sum zero a b = refl
shifted_sum (suc i) a b = ap doubled (shifted_sum i a b) ∙ doubled_sum (shifted i a) (shifted i b)

product_shifted : (i a b : ℕ) → a < 256 → byte_product (shifted i a) b ≡ shifted i (byte_product a b)
unfolding shifted
product_shifted zero a b h = refl
product_shifted (suc i) a b h = product_doubled (shifted i a) b (shifted_below i a h) ∙ ap doubled (product_shifted i a b h)

one_product : (b : ℕ) → b < 256 → byte_product 1 b ≡ b
unfolding byte_product carry_less reduce
one_product = agree_below (byte_product 1) (λ b. b) 256 refl

zero_product : (b : ℕ) → b < 256 → byte_product 0 b ≡ 0
unfolding byte_product carry_less reduce
zero_product = agree_below (byte_product 0) (λ _. 0) 256 refl

product_zero : (a : ℕ) → a < 256 → byte_product a 0 ≡ 0
unfolding byte_product carry_less reduce
product_zero = agree_below (λ a. byte_product a 0) (λ _. 0) 256 refl

-- A product by a power of x.
pub power_product : (i b : ℕ) → b < 256 → byte_product (shifted i 1) b ≡ shifted i b
power_product i b h = product_shifted i 1 b (omega arith) ∙ ap (shifted i) (one_product b h)

-- The exponent of a as a power of x, sought from the power y on, n powers far.
unfoldable pub exponent_from : ℕ → ℕ → ℕ → ℕ
exponent_from zero y a = 0
exponent_from (suc n) y a = cond (eqb y a) 0 (suc (exponent_from n (doubled y) a))

-- 0 has none; the search gives it 0.
unfoldable pub exponent : ℕ → ℕ
exponent a = cond (eqb a 0) 0 (exponent_from 254 1 a)

-- Every byte but 0 is a power of x, with an exponent below 255.
is_power : (a : ℕ) → a < 255 → suc a ≡ shifted (exponent (suc a)) 1
unfolding exponent exponent_from shifted doubled reduce
is_power = agree_below suc (λ a. shifted (exponent (suc a)) 1) 255 refl

exponent_below : (a : ℕ) → a < 255 → exponent (suc a) < 255
unfolding exponent exponent_from doubled reduce
exponent_below a h = ltb-true (exponent (suc a)) 255 (passes_below (λ a. ltb (exponent (suc a)) 255) 255 refl a h)

pub full_turn : shifted 255 1 ≡ 1
unfolding shifted doubled reduce
full_turn = refl

-- Each fact about a product holds at 0, and at every power of x, so at every byte.
by_powers : (P : ℕ → Type 0) → P 0 → ((i : ℕ) → i < 255 → P (shifted i 1)) → (a : ℕ) → a < 256 → P a
by_powers P none power zero h = none
by_powers P none power (suc a) h = subst P (sym (is_power a (omega arith))) (power (exponent (suc a)) (exponent_below a (omega arith)))

power_below : (i : ℕ) → shifted i 1 < 256
power_below i = shifted_below i 1 (omega arith)

product_below : (a b : ℕ) → a < 256 → b < 256 → byte_product a b < 256
product_below a b ha hb =
    by_powers (λ a. byte_product a b < 256) (rw (zero_product b hb) (omega arith)) (λ i _. rw (power_product i b hb) (shifted_below i b hb)) a ha

product_comm : (a b : ℕ) → a < 256 → b < 256 → byte_product a b ≡ byte_product b a
product_comm a b ha hb =
    by_powers (λ a. byte_product a b ≡ byte_product b a)
    (zero_product b hb ∙ sym (product_zero b hb))
    (λ i _. by_powers (λ b. byte_product (shifted i 1) b ≡ byte_product b (shifted i 1))
    (product_zero (shifted i 1) (power_below i) ∙ sym (zero_product (shifted i 1) (power_below i)))
    (λ j _.
    power_product i (shifted j 1) (power_below j)
    ∙ sym (shifted_add i j 1)
    ∙ ap (λ n. shifted n 1) (add_comm i j)
    ∙ shifted_add j i 1
    ∙ sym (power_product j (shifted i 1) (power_below i)))
    b hb)
    a ha

product_assoc : (a b c : ℕ) → a < 256 → b < 256 → c < 256 → byte_product (byte_product a b) c ≡ byte_product a (byte_product b c)
product_assoc a b c ha hb hc =
    by_powers (λ a. byte_product (byte_product a b) c ≡ byte_product a (byte_product b c))
    (ap (λ x. byte_product x c) (zero_product b hb) ∙ zero_product c hc ∙ sym (zero_product (byte_product b c) (product_below b c hb hc)))
    (λ i _.
    ap (λ x. byte_product x c) (power_product i b hb)
    ∙ product_shifted i b c hb
    ∙ sym (power_product i (byte_product b c) (product_below b c hb hc)))
    a ha

product_sum : (a b c : ℕ) → a < 256 → b < 256 → c < 256 → byte_product a (bit_xor b c) ≡ bit_xor (byte_product a b) (byte_product a c)
product_sum a b c ha hb hc =
    by_powers (λ a. byte_product a (bit_xor b c) ≡ bit_xor (byte_product a b) (byte_product a c))
    (zero_product (bit_xor b c) (xor_lt 8 b c hb hc) ∙ sym (ap (λ x. bit_xor x (byte_product 0 c)) (zero_product b hb) ∙ zero_product c hc))
    (λ i _.
    power_product i (bit_xor b c) (xor_lt 8 b c hb hc)
    ∙ shifted_sum i b c
    ∙ sym (ap (λ x. bit_xor x (byte_product (shifted i 1) c)) (power_product i b hb) ∙ ap (bit_xor (shifted i b)) (power_product i c hc)))
    a ha

-- x^i and x^(255 - i) are inverse to each other.
pub opposite_power : (i : ℕ) → i ≤ 255 → byte_product (shifted i 1) (shifted (255 - i) 1) ≡ 1
opposite_power i h =
    let turn : i + (255 - i) ≡ 255 = omega arith in
    power_product i (shifted (255 - i) 1) (power_below (255 - i)) ∙ sym (shifted_add i (255 - i) 1) ∙ ap (λ n. shifted n 1) turn ∙ full_turn

product_reciprocal : (a : ℕ) → a < 256 → 0 < a → byte_product a (reciprocal 256 byte_product a) ≡ 1
product_reciprocal a ha =
    by_powers (λ a. 0 < a → byte_product a (reciprocal 256 byte_product a) ≡ 1)
    (λ h. absurd (omega arith))
    (λ i h _. reciprocal_passes 256 byte_product (shifted i 1) (shifted (255 - i) 1) (power_below (255 - i)) (opposite_power i (omega arith)))
    a ha

pub bytes : FieldLaws byte_arithmetic
bytes = field_laws record {
  least = omega arith;
  most = omega arith;
  plus_below = λ a b ha hb. xor_lt 8 a b ha hb;
  minus_below = λ a ha. ha;
  times_below = product_below;
  plus_assoc = λ a b c _ _ _. xor_assoc a b c;
  plus_comm = λ a b _ _. xor_comm a b;
  plus_zero = λ a _. xor_zero_r a;
  plus_minus = λ a _. xor_self a;
  times_assoc = product_assoc;
  times_comm = product_comm;
  times_one = λ a ha. product_comm a 1 ha (omega arith) ∙ one_product a ha;
  times_plus = product_sum;
  times_reciprocal = product_reciprocal;
  times_zero = zero_product;
}

-- Tables of powers and exponents, as the code holds them

pub power_shifted : (i : ℕ) → power_of_two i ≡ shifted i 1
unfolding power_of_two shifted byte_product doubled reduce
power_shifted zero = refl
power_shifted (suc i) = ap (byte_product 2) (power_shifted i) ∙ power_product 1 (shifted i 1) (power_below i)

pub product_of_powers : (i j : ℕ) → byte_product (power_of_two i) (power_of_two j) ≡ power_of_two (i + j)
product_of_powers i j =
    ap (λ x. byte_product x (power_of_two j)) (power_shifted i)
    ∙ ap (byte_product (shifted i 1)) (power_shifted j)
    ∙ power_product i (shifted j 1) (power_below j)
    ∙ sym (shifted_add i j 1)
    ∙ sym (power_shifted (i + j))

pub power_255 : power_of_two 255 ≡ 1
power_255 = power_shifted 255 ∙ full_turn

-- The table of n powers from a on: each entry is twice the one before.
unfoldable pub powers_from : ℕ → ℕ → List ℕ
powers_from zero a = []
powers_from (suc n) a = a ∷ powers_from n (doubled a)

shifted_entry : (n a i : ℕ) → i < n → get_or (powers_from n a) i 0 ≡ shifted i a
unfolding powers_from shifted
shifted_entry zero a i h = absurd (omega arith)
shifted_entry (suc n) a zero h = refl
shifted_entry (suc n) a (suc i) h = shifted_entry n (doubled a) i (omega arith) ∙ sym (shifted_add i 1 a) ∙ ap (λ n. shifted n a) (add-one i)

pub power_entry : (n i : ℕ) → i < n → get_or (powers_from n 1) i 0 ≡ power_of_two i
power_entry n i h = shifted_entry n 1 i h ∙ sym (power_shifted i)

-- The table of exponents of the first n bytes.
unfoldable pub exponents_below : ℕ → List ℕ
exponents_below n = map exponent (range_with_len 0 n)

pub exponent_entry : (a : ℕ) → 0 < a → a < 256 → (power_of_two (get_or (exponents_below 256) a 0) ≡ a) × (get_or (exponents_below 256) a 0 < 255)
unfolding exponents_below
exponent_entry zero p h = absurd (omega arith)
exponent_entry (suc a) p h =
    let entry : get_or (exponents_below 256) (suc a) 0 ≡ exponent (suc a) = get_or-map-range_with_len exponent 0 256 (suc a) (suc a) 0 h (omega arith) in (
      ap power_of_two entry ∙ power_shifted (exponent (suc a)) ∙ sym (is_power a (omega arith)),
      subst (λ (e : ℕ). e < 255) (sym entry) (exponent_below a (omega arith)),
    )

-- The inverse of a power, as a power.
pub inverse_power : (a i : ℕ) → 0 < a → a < 256 → i < 255 → power_of_two i ≡ a → power_of_two (255 - i) ≡ byte_arithmetic.inverse a
inverse_power a i p h hi e =
    let below : power_of_two (255 - i) < 256 = rw (power_shifted (255 - i)) (power_below (255 - i)) in
    let one : byte_product a (power_of_two (255 - i)) ≡ 1 =
    ap (λ x. byte_product x (power_of_two (255 - i))) (sym e ∙ power_shifted i)
    ∙ ap (byte_product (shifted i 1)) (power_shifted (255 - i))
    ∙ opposite_power i (omega arith) in
    inverse_unique byte_arithmetic bytes a (power_of_two (255 - i)) h below p (on_codes_inside 256 byte_product a (power_of_two (255 - i)) h below ∙ one)

-- A product is 0 where a factor is, whatever the other number.
pub product_with_zero : (a b : ℕ) → (a ≡ 0) ⊎ (b ≡ 0) → byte_arithmetic.product a b ≡ 0
product_with_zero a b (inl e) =
    ap (λ x. byte_arithmetic.product x b) e
    ∙ ⊎_elim (λ h. on_codes_inside 256 byte_product 0 b (omega arith) h ∙ zero_product b h) (on_codes_outside_right 256 byte_product 0 b) (cases_lt b 256)
product_with_zero a b (inr e) =
    ap (byte_arithmetic.product a) e
    ∙ ⊎_elim (λ h. on_codes_inside 256 byte_product a 0 h (omega arith) ∙ product_zero a h) (on_codes_outside_left 256 byte_product a 0) (cases_lt a 256)

-- The product of two powers, as a power.
pub product_power : (a b i j : ℕ) → a < 256 → b < 256 → power_of_two i ≡ a → power_of_two j ≡ b → power_of_two (i + j) ≡ byte_arithmetic.product a b
product_power a b i j ha hb ea eb =
    sym (product_of_powers i j)
    ∙ ap (λ x. byte_product x (power_of_two j)) ea
    ∙ ap (byte_product a) eb
    ∙ sym (on_codes_inside 256 byte_product a b ha hb)
