-- A bracket leaves fewer to open; within the same number a sum asks for a term, and a term for a factor. Each loop holds the phrase
-- that was read so far.
use Rattle.std.proofs.Common.{◌+◌, ◌-◌, ◌*◌, length}
use Rattle.expression.specs.Fields.{arithmetic_of}
use Rattle.expression.specs.Grammar.{factor, sum, term}
use Rattle.expression.specs.Readings.{Reading}
use Rattle.expression.proofs.readers.+factor_sum_term.Given as goal

abbrev pub decreases-factor : goal.decreases-factor
decreases-factor l = 3 * l.scope.left

abbrev pub decreases-term : goal.decreases-term
decreases-term l = 3 * l.scope.left + 1

abbrev pub decreases-sum : goal.decreases-sum
decreases-sum l = 3 * l.scope.left + 2

abbrev pub invariant-sum-loop-sign : goal.invariant-sum-loop-sign
invariant-sum-loop-sign l = Reading sum term (arithmetic_of l.scope.field) l.scope.left l.from.sheet.now l.from.place l.whole.end l.whole.value

abbrev pub decreases-sum-loop-sign : goal.decreases-sum-loop-sign
decreases-sum-loop-sign l = length l.from.sheet.now - l.whole.end

abbrev pub invariant-term-loop-sign : goal.invariant-term-loop-sign
invariant-term-loop-sign l = Reading term factor (arithmetic_of l.scope.field) l.scope.left l.from.sheet.now l.from.place l.whole.end l.whole.value

abbrev pub decreases-term-loop-sign : goal.decreases-term-loop-sign
decreases-term-loop-sign l = length l.from.sheet.now - l.whole.end
