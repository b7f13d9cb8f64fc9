-- The digits that are left go on with the number so far, which has as many digits as were read.
use Rattle.std.proofs.Common.{◌≡◌, ◌≤◌, drop}
use Rattle.expression.specs.Grammar.{numeral}
use Rattle.expression.proofs.tokens.numeral_of.Given as goal

abbrev pub invariant-loop-digit : goal.invariant-loop-digit
invariant-loop-digit l =
    (numeral l.number (drop l.digit-index l.digits) ≡ numeral 0 l.digits)
    × (l.digit-index ≤ 0 → l.number ≤ 0) × (l.digit-index ≤ 1 → l.number ≤ 9) × (l.digit-index ≤ 2 → l.number ≤ 99)
    × (l.digit-index ≤ 3 → l.number ≤ 999)
