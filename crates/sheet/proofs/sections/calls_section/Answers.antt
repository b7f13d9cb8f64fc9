use Rattle.std.proofs.Common.{◌≡◌, map, length, vec_items, arith}
use Rattle.rack.specs.Racks.{given_by}
use Rattle.sheet.specs.Grammar.{IsCallLine}
use Rattle.sheet.proofs.Exits.{handed_on}
use Rattle.sheet.proofs.LineKinds.{call_kind}
use Rattle.sheet.proofs.Loops.{called_more, called_none}
use Rattle.sheet.proofs.Rows.{count_lost, line_lost, line_read, section_begins, section_got}
use Rattle.sheet.proofs.Vacancies.{holds_none}
use Rattle.sheet.proofs.sections.calls_section.Goals as goal

pub returns-in_err-count : goal.returns-in_err-count
returns-in_err-count c = rw (handed_on c.from_residual.result c.from_residual.ensures.1) (count_lost call_kind _ _ _ c.in_err-count.ensures)

pub loop-init : goal.loop-init
loop-init c =
    let g = c.in_ok-count.ensures in
    record {
      within = g.within;
      rest = section_begins call_kind _ _ _ _ g;
      called = called_none _ _ _ g.within (holds_none c.args.calls c.requires.room.0);
      many = omega arith;
      room = omega arith;
      rows = omega arith;
    }

pub returns-in_err-call : goal.returns-in_err-call
returns-in_err-call c =
    rw (handed_on c.from_residual-in_err-call.result c.from_residual-in_err-call.ensures.1)
    (line_lost call_kind _ _ _ _ _ c.loop-test.true c.loop.invariant.rest _ (rw (c.at.ensures.sheet, c.at.ensures.place) at c.in_err-call.ensures))

pub loop-preserved : goal.loop-preserved
loop-preserved c =
    let one = rw (c.at.ensures.sheet, c.at.ensures.place) at c.in_ok-call.ensures in
    record {
      within = one.got.within;
      rest = line_read call_kind _ _ _ _ _ c.loop-test.true c.loop.invariant.rest _ _ one.got;
      called = called_more _ _ _ _ _ (vec_items c.push_reserved.new.self) _ c.loop.invariant.called one c.push_reserved.ensures.items;
      many = omega arith;
      room = omega arith;
      rows = omega arith;
    }

pub returns : goal.returns
returns c =
    let called = c.loop.invariant.called in
    let n = called.count in
    let e : length (map given_by (vec_items c.loop.calls)) ≡ c.in_ok-count.count.value = omega arith in
    record { section = section_got IsCallLine _ _ _ _ _ _ _ _ c.in_ok-count.ensures called.lines e; has_room = called.has_room }
