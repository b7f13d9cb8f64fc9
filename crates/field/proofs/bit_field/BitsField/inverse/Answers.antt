-- Of the two codes only 1 has an inverse, itself.
use Rattle.std.proofs.Common.{◌≡◌, ℕ, zero, suc, ◌*◌, ◌%◌, sym, refl, ap, ◌∙◌, arith}
use Rattle.algebra.specs.Arithmetics.{reciprocal, such_that, modulo}
use Rattle.algebra.proofs.Guarded.{on_code_outside}
use Rattle.field.proofs.bit_field.BitsField.inverse.Goals as goal

no_other : (a : ℕ) → (a ≡ 1 → ⊥) → 0 ≡ (modulo 2).inverse a
unfolding reciprocal such_that
no_other zero h = refl
no_other (suc zero) h = absurd (h refl)
no_other (suc (suc a)) h = sym (on_code_outside 2 (reciprocal 2 (λ a b. a * b % 2)) (suc (suc a)) (omega arith))

one : (modulo 2).inverse 1 ≡ 1
unfolding reciprocal such_that
one = refl

pub returns-then-a-eq1 : goal.returns-then-a-eq1
returns-then-a-eq1 c = sym (ap (modulo 2).inverse c.if-a-eq1.true ∙ one)

pub returns-else-a-eq1 : goal.returns-else-a-eq1
returns-else-a-eq1 c = no_other c.args.a c.if-a-eq1.false
