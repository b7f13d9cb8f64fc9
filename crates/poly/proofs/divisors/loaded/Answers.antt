use Rattle.poly.specs.Slices.{capacity}
use Rattle.poly.proofs.CommonDivisors.{loaded_is}
use Rattle.poly.proofs.divisors.loaded.Goals as goal

pub returns : goal.returns
returns c = loaded_is c.args.p.now c.copy_from_slice.new.self capacity c.copy_from_slice.ensures.after
