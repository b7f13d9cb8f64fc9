use Rattle.std.proofs.Common.{◌≡◌, [], ◌∷◌, ◌++◌, map, ap, sym, ◌∙◌, arith}
use Rattle.std.proofs.lemmas.List.{map-append}
use Rattle.std.specs.Vec.Iter.{into_iter_items}
use Rattle.batch.specs.Lists.{requests}
use Rattle.batch.specs.declared.entry.Entry.{Entry}
use Rattle.rack.specs.Ledger.{Request}
use Rattle.rack.specs.Racks.{given_by}
use Rattle.sheet.specs.Rooms.{HasRoom}
use Rattle.transcript.specs.Runs.{buffered}
use Rattle.transcript.proofs.Lists.{all_after, one_more}
use Rattle.transcript.proofs.entries.entries_of.Goals as goal

pub loop-call-preserved : goal.loop-call-preserved
loop-call-preserved c =
    let steps = c.in-Some.ensures.steps in
    let given : Entry → Request = λ e. given_by e.call in
    let so_far = map (buffered c.args.codes) (map given_by c.loop-call.yielded) in
    let next : given c.new.result ≡ buffered c.args.codes (given_by c.in-Some.call) = ap given c.new.ensures ∙ c.with_buffer.ensures in
    let more : map (buffered c.args.codes) (map given_by (c.loop-call.yielded ++ c.in-Some.call ∷ []))
    ≡ so_far ++ buffered c.args.codes (given_by c.in-Some.call) ∷ [] = simp map-append in
    record {
      listed = ap requests c.in-Ok.ensures.items ∙ one_more given c.loop-call.room.items c.new.result c.loop-call.invariant.listed
          ∙ ap (λ (r : Request). so_far ++ r ∷ []) next ∙ sym more;
      buffers = all_after HasRoom (into_iter_items c.loop-call.call-iterator) (into_iter_items c.next.new.self) steps.0 c.loop-call.invariant.buffers;
      fits = omega (arith, steps.1, c.in-Ok.ensures.len, c.in-Ok.ensures.capacity);
    }
