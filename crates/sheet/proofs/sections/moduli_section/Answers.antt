use Rattle.std.proofs.Common.{◌≡◌, [], length, sym, refl, arith}
use Rattle.expression.specs.Grammar.{IsModulusLine}
use Rattle.sheet.proofs.Exits.{handed_on}
use Rattle.sheet.proofs.LineKinds.{modulus_kind}
use Rattle.sheet.proofs.Loops.{read_more}
use Rattle.sheet.proofs.Noting.{noted_none}
use Rattle.sheet.proofs.Rows.{count_lost, line_lost, line_read, lines_none, section_begins, section_got}
use Rattle.sheet.proofs.sections.moduli_section.Goals as goal

pub returns-in_err-count : goal.returns-in_err-count
returns-in_err-count c = rw (handed_on c.from_residual.result c.from_residual.ensures.1) (count_lost modulus_kind _ _ _ c.in_err-count.ensures)

pub loop-i-init : goal.loop-i-init
loop-i-init c =
    let g = c.in_ok-count.ensures in
    (g.within, section_begins modulus_kind _ _ _ _ g, ([], lines_none IsModulusLine _ _ g.within, refl, noted_none _ _ _))

pub returns-in_err-modulus : goal.returns-in_err-modulus
returns-in_err-modulus c =
    rw (handed_on c.from_residual-in_err-modulus.result c.from_residual-in_err-modulus.ensures.1)
    (line_lost modulus_kind _ _ _ _ _ c.loop-i-test.true c.loop-i.invariant.1 _ (c.in_err-modulus.ensures.within c.loop-i.invariant.0))

pub loop-i-preserved : goal.loop-i-preserved
loop-i-preserved c =
    let r = c.in_ok-modulus.ensures.within c.loop-i.invariant.0 in (
      r.line.within,
      line_read modulus_kind _ _ _ _ _ c.loop-i-test.true c.loop-i.invariant.1 r.expression _ r.line,
      read_more _ _ _ _ _ _ _ _ _ _ c.keep.new.self c.loop-i.invariant.2 r c.keep.ensures,
    )

pub returns : goal.returns
returns c =
    let (es, g, n, h) = c.loop-i.invariant.2 in
    let e : length es ≡ c.in_ok-count.count.value = omega arith in
    record {
      expressions = es;
      section = section_got IsModulusLine _ _ _ _ _ _ _ es c.in_ok-count.ensures g e;
      count_is = sym e;
      noted = h;
    }
