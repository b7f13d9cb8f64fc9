use Rattle.std.proofs.Common.{◌<◌, length, arith}
use Rattle.laboratory.proofs.Showing.{sets_both}
use Rattle.laboratory.proofs.mirrored.MirroredMemory.set.Goals as goal

pub returns : goal.returns
returns c =
    let inside : c.args.j < length c.args.self.now.cells.items = grind (arith, c.get_mut.ensures.variant, c.in-Some.is) in
    rw c.new.ensures (sets_both c.args.self.now.cells.items c.args.j c.args.v inside (omega (arith, c.ranges.v.fits)))
