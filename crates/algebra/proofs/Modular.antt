-- The whole numbers modulo q are a field wherever each of them but 0 has an inverse, which one computed test shows.
use Rattle.std.proofs.Common.{◌≡◌, ℕ, zero, suc, ◌+◌, ◌-◌, ◌*◌, ◌%◌, ◌<◌, ◌≤◌, Bool, true, eqb, sym, refl, ap, ◌∙◌, add-zero, add_assoc, mod-lt, mod-eq_of_lt, mul_assoc, mul_comm, add_comm, zero-mul, mul-one, mul-add, arith}
use Rattle.std.proofs.lemmas.Nat.{mul-mod_first, mul-mod_second}
use native.Mathlib.Nat.{mod_self, mod-add-mod, add-mod-mod}
use Rattle.algebra.specs.Arithmetics.{modulo, reciprocal, such_that}
use Rattle.algebra.specs.Field.{FieldLaws, largest_order}
use Rattle.algebra.proofs.Computed.{all_below, agree_below}
use Rattle.algebra.proofs.Guarded.{field_laws}

abbrev times_modulo : ℕ → ℕ → ℕ → ℕ
times_modulo q a b = a * b % q

-- The test: 1 is the product of each code but 0 with its inverse.
abbrev pub inverses_modulo : ℕ → Bool
inverses_modulo q = all_below (λ a. eqb (suc a * reciprocal q (times_modulo q) (suc a) % q) 1) (q - 1)

module _ (q : ℕ) (least : 2 ≤ q) (most : q ≤ largest_order) (test : inverses_modulo q ≡ true) where
  positive : 0 < q
  positive = omega arith

  has_inverse : (a : ℕ) → a < q → 0 < a → a * reciprocal q (times_modulo q) a % q ≡ 1
  has_inverse zero ha h = absurd (omega arith)
  has_inverse (suc a) ha h = agree_below (λ a. suc a * reciprocal q (times_modulo q) (suc a) % q) (λ _. 1) (q - 1) test a (omega arith)

  pub residues : FieldLaws (modulo q)
  residues = field_laws record {
    least = least;
    most = most;
    plus_below = λ a b _ _. mod-lt (a + b) positive;
    minus_below = λ a _. mod-lt (q - a) positive;
    times_below = λ a b _ _. mod-lt (a * b) positive;
    plus_assoc = λ a b c _ _ _. mod-add-mod (a + b) q c ∙ ap (λ x. x % q) (add_assoc a b c) ∙ sym (add-mod-mod a (b + c) q);
    plus_comm = λ a b _ _. ap (λ x. x % q) (add_comm a b);
    plus_zero = λ a h. ap (λ x. x % q) (add-zero a) ∙ mod-eq_of_lt h;
    plus_minus = λ a h.
        let whole : a + (q - a) ≡ q = omega arith in
        add-mod-mod a (q - a) q ∙ ap (λ x. x % q) whole ∙ mod_self q;
    times_assoc = λ a b c _ _ _. mul-mod_first (a * b) c q ∙ ap (λ x. x % q) (mul_assoc a b c) ∙ sym (mul-mod_second a (b * c) q);
    times_comm = λ a b _ _. ap (λ x. x % q) (mul_comm a b);
    times_one = λ a h. ap (λ x. x % q) (mul-one a) ∙ mod-eq_of_lt h;
    times_plus = λ a b c _ _ _.
        mul-mod_second a (b + c) q
        ∙ ap (λ x. x % q) (mul-add a b c)
        ∙ sym (mod-add-mod (a * b) q (a * c % q) ∙ add-mod-mod (a * b) (a * c) q);
    times_reciprocal = has_inverse;
    times_zero = λ b _. ap (λ x. x % q) (zero-mul b) ∙ mod-eq_of_lt positive;
  }

-- 2 and 257 are prime: the checker finds an inverse for every other number than 0.
pub bit_laws : FieldLaws (modulo 2)
unfolding reciprocal such_that
bit_laws = residues 2 (omega arith) (omega arith) refl

pub clock_laws : FieldLaws (modulo 257)
unfolding reciprocal such_that
clock_laws = residues 257 (omega arith) (omega arith) refl
