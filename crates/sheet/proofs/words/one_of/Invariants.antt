use Rattle.std.proofs.Common.{◌≡◌, ◌+◌, ◌<◌, take}
use Rattle.expression.specs.Texts.{Lost}
use Rattle.sheet.specs.Tables.{AnyWord}
use Rattle.sheet.proofs.words.one_of.Given as goal

abbrev pub invariant-loop-letters : goal.invariant-loop-letters
invariant-loop-letters g l =
    (l.letters-index ≡ 0 → l.furthest ≡ 0)
    × (0 < l.letters-index → Lost (AnyWord (take l.letters-index l.table)) l.from.sheet.now l.from.place (l.from.place + l.furthest))
