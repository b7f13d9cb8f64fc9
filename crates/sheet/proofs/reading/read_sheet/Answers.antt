use Rattle.std.proofs.Common.{◌≡◌, None, rules, arith, sym, ◌∙◌}
use Rattle.sheet.proofs.BadLines.{first_bad, none_bad}
use Rattle.sheet.proofs.Drafting.{any_sheet}
use Rattle.sheet.proofs.Exits.{handed_on}
use Rattle.sheet.proofs.Wholes.{got_whole, stops, stops_after}
use Rattle.sheet.specs.BadLines.{bad_line}
use Rattle.sheet.proofs.reading.read_sheet.Goals as goal

pub returns-in_err-draft : goal.returns-in_err-draft
returns-in_err-draft c =
    rw (handed_on c.from_residual.result c.from_residual.ensures.1) (λ long. omega (arith, long), stops _ _ c.in_err-draft.ensures)

pub returns-then-end-bytes : goal.returns-then-end-bytes
returns-then-end-bytes c =
    let d = c.in_ok-draft.ensures in
    (λ long. omega (arith, long), stops_after _ _ (any_sheet _ _ d.content d.sheet) c.if-end-bytes.true)

pub returns-in-Some : goal.returns-in-Some
returns-in-Some c =
    let d = c.in_ok-draft.ensures in (
      λ long. omega (arith, long),
      record {
        content = d.content;
        written = got_whole _ _ _ d.sheet (search rules);
        first = first_bad d.content c.in-Some.line (sym d.bad_is ∙ c.in-Some.is);
      },
    )

pub returns : goal.returns
returns c =
    let d = c.in_ok-draft.ensures in
    let none : bad_line d.content ≡ None = sym d.bad_is ∙ c.in_default.is in (
      d.content,
      record { short = omega arith; written = got_whole _ _ _ d.sheet (search rules); valued = none_bad d.content none },
      record {
        field_is = d.field_is;
        carriers_are = d.carriers_are;
        moduli_are = d.moduli_are none;
        calls_are = d.calls_are;
        has_room = d.has_room;
      },
    )
