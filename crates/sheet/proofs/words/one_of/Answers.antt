use Rattle.std.proofs.Common.{◌+◌, take, arith, sym, subst}
use Rattle.expression.specs.Texts.{Lost}
use Rattle.sheet.specs.Tables.{AnyWord}
use Rattle.sheet.proofs.Tables.{matches, tried, written}
use Rattle.sheet.proofs.words.one_of.Goals as goal

pub returns-then-same-letters : goal.returns-then-same-letters
returns-then-same-letters g c =
    written _ c.loop-letters-item.result _ _ _ _ c.loop-letters-test.true c.loop-letters-item.is
    (matches c.args.from.within c.rest.ensures c.common-same.ensures) c.if-same-letters.true c.part.ensures.place c.part.ensures.text c.part.ensures.ends

pub part-requires-clause-within : goal.part-requires-clause-within
part-requires-clause-within g c = (matches c.args.from.within c.rest.ensures c.common-same.ensures).within

pub loop-letters-preserved : goal.loop-letters-preserved
loop-letters-preserved g c = (
  (λ h. absurd (omega arith)),
  (λ h. subst (λ m. Lost (AnyWord (take (c.loop-letters.letters-index + 1) c.args.table.now)) c.args.from.sheet.now c.args.from.place (c.args.from.place + m)) (sym c.max-furthest.ensures)
      (tried _ c.loop-letters-item.result _ _ _ _ _ c.loop-letters-test.true c.loop-letters-item.is c.loop-letters.invariant.0 c.loop-letters.invariant.1
      (matches c.args.from.within c.rest.ensures c.common-same.ensures) c.if-same-letters.false)),
)
