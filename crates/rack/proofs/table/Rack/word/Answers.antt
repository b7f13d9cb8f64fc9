use Rattle.std.proofs.Common.{◌+◌, ◌*◌, ◌≤◌, length, ap, subst, arith}
use Rattle.plan.specs.Limits.{most_total}
use Rattle.rack.specs.Racks.{state}
use Rattle.rack.specs.Stored.{Loaded}
use Rattle.rack.proofs.Loading.{loaded_front, slot_loaded}
use Rattle.rack.proofs.Showing.{slot_room}
use Rattle.rack.proofs.table.Rack.word.Goals as goal

pub returns : goal.returns
returns g c =
    let rack = c.args.self.now.whole in
    let r = state c.args.self.now in
    let n = c.word_length-count.result in
    let slots = c.args.self.now.slots.count in
    let room : c.args.slot * n + n ≤ length (g.M.Memory.cells c.args.self.now.memory) =
    omega (arith, slot_room n c.args.slot slots c.requires, ap (λ m. slots * m) c.word_length-count.ensures, rack.fits.room) in
    let few : n ≤ most_total = omega (arith, c.word_length-count.ensures, rack.lawful.short) in
    record {
      loaded = subst (λ m. Loaded r.cells (c.args.slot * m) m c.load.result) c.word_length-count.ensures c.load.ensures;
      account = slot_loaded r c.args.slot n c.load.result c.word_length-count.ensures (loaded_front _ _ _ _ c.load.ensures room few);
    }
