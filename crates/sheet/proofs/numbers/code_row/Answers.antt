use Rattle.std.proofs.Common.{sym, subst, arith}
use Rattle.sheet.specs.CallNumbers.{NumbersAt, none_at}
use Rattle.sheet.proofs.CallRows.{one_code_more}
use Rattle.sheet.proofs.Vacancies.{holds_none}
use Rattle.sheet.proofs.numbers.code_row.Goals as goal

pub loop-from-init : goal.loop-from-init
loop-from-init c =
    let row = c.args.row in (
      omega (arith, row.vacant.0),
      subst (NumbersAt _ _ _) (sym (holds_none row.codes row.vacant.0)) (none_at c.args.from.within),
      row.vacant.1,
    )

pub loop-from-preserved : goal.loop-from-preserved
loop-from-preserved c = (
  omega (arith, c.push_reserved.ensures.len, c.len.ensures),
  one_code_more {ms = c.push_reserved.new.self.items} c.loop-from.invariant.1
      (rw (c.at-in-loop-from.ensures.sheet, c.at-in-loop-from.ensures.place) at c.in_ok-code.ensures) c.push_reserved.ensures.items,
  omega (arith, c.push_reserved.ensures.capacity, c.loop-from.invariant.2),
)
