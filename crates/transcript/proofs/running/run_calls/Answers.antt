use Rattle.std.proofs.Common.{◌≡◌, ℕ, List, ◌≤◌, All, length, map, vec_items, ap, subst, sym, ◌∙◌, arith}
use Rattle.std.proofs.lemmas.List.{length-map}
use Rattle.batch.specs.Lists.{requests}
use Rattle.batch.specs.declared.entry.Entry.{Entry}
use Rattle.plan.specs.Held.{scheme}
use Rattle.plan.specs.Limits.{most_total}
use Rattle.plan.specs.Schemes.{Scheme}
use Rattle.rack.specs.Racks.{given_by}
use Rattle.transcript.proofs.Shortness.{all_over, as_many, message_short}
use Rattle.transcript.proofs.Fitting.{given_back}
use Rattle.transcript.specs.Endings.{IsOver, entry_of}
use Rattle.transcript.specs.Runs.{RanOn, buffered}
use Rattle.transcript.proofs.running.run_calls.Goals as goal

pub entries_of-entries-requires-clause-few : goal.entries_of-entries-requires-clause-few
entries_of-entries-requires-clause-few g c = omega (arith, message_short (scheme c.in-Ok.plan) c.in-Ok.plan.lawful, c.message_length.ensures)

pub ended_of-requires-clause-over : goal.ended_of-requires-clause-over
ended_of-requires-clause-over g c =
    let s = scheme c.in-Ok.plan in
    let lawful = c.in-Ok.plan.lawful in
    let small : c.message_length.result ≤ most_total = omega (arith, message_short s lawful, c.message_length.ensures) in
    let asked : requests c.deref_mut.result.now ≡ map (buffered c.message_length.result) (map given_by (vec_items c.args.work.calls)) =
    ap requests c.deref_mut.ensures.value ∙ c.entries_of-entries.ensures in
    let long : c.entries_of-entries.result.len ≡ length c.deref_mut.result.now = sym c.deref_mut.ensures.len in
    let over = all_over s lawful (map given_by (vec_items c.args.work.calls)) small asked c.run_over_zeros.ensures.kept.ran in
    let P : List Entry → Type 0 = λ entries. All IsOver entries in
    subst P (sym (given_back _ long c.run_over_zeros.ensures)) over

pub ended_of-requires-clause-vacant : goal.ended_of-requires-clause-vacant
ended_of-requires-clause-vacant g c =
    let many = as_many c.message_length.result (vec_items c.entries_of-entries.result) (vec_items c.args.work.calls) c.entries_of-entries.ensures in
    (c.args.work.ended_fit.0, omega (arith, many, c.args.work.few, c.args.work.ended_fit.1))

pub invariant_of-result : goal.invariant_of-result
invariant_of-result g c =
    let many = as_many c.message_length.result (vec_items c.entries_of-entries.result) (vec_items c.args.work.calls) c.entries_of-entries.ensures in
    let long : c.entries_of-entries.result.len ≡ length c.deref_mut.result.now = sym c.deref_mut.ensures.len in
    let told = ap length (c.ended_of.ensures ∙ given_back _ long c.run_over_zeros.ensures) in
    record { few = omega (arith, many, told, length-map (vec_items c.ended_of.result) entry_of, c.args.work.few, c.run_over_zeros.ensures.kept.ran.long, long) }

pub returns : goal.returns
returns g c =
    let s = scheme c.in-Ok.plan in
    let plan = c.in-Ok.ensures in
    let long : c.entries_of-entries.result.len ≡ length c.deref_mut.result.now = sym c.deref_mut.ensures.len in
    let told : map entry_of (vec_items c.ended_of.result) ≡ c.run_over_zeros.new.entries = c.ended_of.ensures ∙ given_back _ long c.run_over_zeros.ensures in
    let asked : requests c.deref_mut.result.now ≡ map (buffered c.message_length.result) (map given_by (vec_items c.args.work.calls)) =
    ap requests c.deref_mut.ensures.value ∙ c.entries_of-entries.ensures in
    let calls = map given_by (vec_items c.args.work.calls) in
    let asked' = subst (λ (n : ℕ). requests c.deref_mut.result.now ≡ map (buffered n) calls) c.message_length.ensures asked in
    let ran : RanOn s calls c.run_over_zeros.new.entries = record { before = c.deref_mut.result.now; asked = asked'; ran = c.run_over_zeros.ensures } in (
      plan.0,
      subst (λ (x : Scheme). RanOn x calls (map entry_of (vec_items c.ended_of.result))) plan.1
          (subst (λ (x : List Entry). RanOn s calls x) (sym told) ran),
    )
