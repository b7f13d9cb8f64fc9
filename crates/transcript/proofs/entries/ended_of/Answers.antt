use Rattle.std.proofs.Common.{◌≡◌, [], ◌∷◌, ◌++◌, map, Some, ap, sym, ◌∙◌, arith}
use Rattle.std.specs.Vec.Iter.{into_iter_items}
use Rattle.batch.specs.declared.entry.Entry.{Entry}
use Rattle.transcript.proofs.Lists.{all_after, one_more}
use Rattle.transcript.specs.Endings.{IsOver, entry_of}
use Rattle.transcript.proofs.entries.ended_of.Goals as goal

pub loop-entry-preserved : goal.loop-entry-preserved
loop-entry-preserved c =
    let steps = c.in-Some.ensures.steps in
    let call = c.in-Some.entry.call in
    let whole : record { call = call; outcome = Some c.in-Some-outcome.outcome } ≡ c.in-Some.entry =
    ap (λ (o : _). record { call = call; outcome = o }) (sym c.in-Some-outcome.is) in
    record {
      listed = ap (map entry_of) c.in-Ok.ensures.items ∙ one_more entry_of c.loop-entry.room.items _ c.loop-entry.invariant.listed
          ∙ ap (λ (e : Entry). c.loop-entry.yielded ++ e ∷ []) whole;
      over = all_after IsOver (into_iter_items c.loop-entry.entry-iterator) (into_iter_items c.next.new.self) steps.0 c.loop-entry.invariant.over;
      fits = omega (arith, steps.1, c.in-Ok.ensures.len, c.in-Ok.ensures.capacity);
    }
