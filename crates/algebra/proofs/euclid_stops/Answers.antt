use Rattle.algebra.proofs.euclid_stops.Goals as goal
use Rattle.algebra.proofs.Main.{euclid_stops}

pub returns : goal.returns
returns c = euclid_stops
