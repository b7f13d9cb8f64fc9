-- The table holds the inverse of each nibble: the checker computes both and compares them.
use Rattle.std.proofs.Common.{ℕ, sym, ◌∙◌, arith}
use Rattle.std.proofs.lemmas.List.FromFn.{get_or-map-range_with_len}
use Rattle.algebra.specs.Arithmetics.{reciprocal, such_that}
use Rattle.algebra.specs.BitPolynomials.{carry_less, reduce}
use Rattle.algebra.proofs.Guarded.{on_code_inside}
use Rattle.laboratory.specs.Nibbles.{nibble_product}
use Rattle.laboratory.proofs.nibbles.NibblesField.inverse.Goals as goal

inverse : ℕ → ℕ
inverse = reciprocal 16 nibble_product

pub returns-then-a-lt-ORDER : goal.returns-then-a-lt-ORDER
unfolding inverse reciprocal such_that nibble_product reduce carry_less
returns-then-a-lt-ORDER c =
    get_or-map-range_with_len inverse 0 16 c.args.a c.args.a 0 c.if-a-lt-ORDER.true (omega arith)
    ∙ sym (on_code_inside 16 inverse c.args.a c.if-a-lt-ORDER.true)
