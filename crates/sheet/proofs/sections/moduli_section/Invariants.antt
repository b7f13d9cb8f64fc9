use Rattle.std.proofs.Common.{◌≡◌, ◌-◌, ◌≤◌, List, length}
use Rattle.expression.specs.Fields.{arithmetic_of}
use Rattle.expression.specs.Grammar.{IsModulusLine}
use Rattle.expression.specs.Lines.{AnyLine}
use Rattle.expression.specs.Texts.{Got}
use Rattle.expression.specs.Values.{Expression}
use Rattle.sheet.specs.Grammar.{Lines}
use Rattle.sheet.specs.Sections.{AnyModuli, Noted}
use Rattle.sheet.specs.Sequences.{Rest, Times}
use Rattle.sheet.proofs.sections.moduli_section.Given as goal

abbrev pub invariant-loop-i : goal.invariant-loop-i
invariant-loop-i l =
    (l.next ≤ length l.from.sheet.now)
    × Rest AnyModuli (Times AnyLine (l.count.value - l.i)) l.from.sheet.now l.from.place l.next
    × ((es : List Expression) × Got (λ x. Lines IsModulusLine x es) l.from.sheet.now l.count.end l.next × (length es ≡ l.i)
    × Noted (arithmetic_of l.field) l.first es l.initial.moduli l.moduli)
