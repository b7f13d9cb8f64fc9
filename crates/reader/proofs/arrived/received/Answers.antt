use Rattle.std.proofs.Common.{◌≡◌, ℕ, List, false, Some, None, Option, sym, ap, ◌∙◌, arith, Bor, rules}
use mathlib.Core.Path.{fun_ext}
use native.Mathlib.Decide.{dec_lt}
use Rattle.std.proofs.lemmas.Bool.{cond-false}
use Rattle.std.proofs.lemmas.List.{get_or_past}
use Rattle.std.specs.Option.{option_copied}
use Rattle.plan.specs.Held.{scheme}
use Rattle.reader.specs.Arrivals.{part, received}
use Rattle.reader.proofs.Calls.{from_fn_same}
use Rattle.reader.proofs.arrived.received.Goals as goal

-- Each entry is what its call gave; past the table nothing is present.
pub returns : goal.returns
returns g c =
    let s = scheme c.args.plan.now in
    let word = c.args.word.now in
    let present = c.args.present.now in
    let items = c.from_fn.ensures.items in
    fun_ext (λ i. elim (dec_lt i 24) [
      | yes l ↦
          from_fn_same _ (λ (j : ℕ) (y : Option (Bor (List ℕ))). option_copied y ≡ received s word present j) _ (λ j y f' k. search rules)
          c.from_fn.result 0 24 items.each i None (omega arith) (omega arith)
      | no l ↦
          ap option_copied (get_or_past c.from_fn.result i None (omega (arith, items.long)))
          ∙ sym (cond-false _ (Some (part s word i)) None (get_or_past present i false (omega arith)))
    ])
