-- The table holds the inverse of each number modulo 257: the checker computes both and compares them.
use Rattle.std.proofs.Common.{ℕ, ◌*◌, ◌%◌, sym, ◌∙◌, arith}
use Rattle.std.proofs.lemmas.List.FromFn.{get_or-map-range_with_len}
use Rattle.algebra.specs.Arithmetics.{reciprocal, such_that}
use Rattle.algebra.proofs.Guarded.{on_code_inside}
use Rattle.field.proofs.clock_field.ClockField.inverse.Goals as goal

inverse : ℕ → ℕ
inverse = reciprocal 257 (λ a b. a * b % 257)

pub returns-then-a-lt-ORDER : goal.returns-then-a-lt-ORDER
unfolding inverse reciprocal such_that
returns-then-a-lt-ORDER c =
    get_or-map-range_with_len inverse 0 257 c.args.a c.args.a 0 c.if-a-lt-ORDER.true (omega arith)
    ∙ sym (on_code_inside 257 inverse c.args.a c.if-a-lt-ORDER.true)
