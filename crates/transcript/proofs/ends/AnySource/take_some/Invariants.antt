use Rattle.std.specs.Io.KnownBytes.{Keeps}
use Rattle.transcript.proofs.ends.AnySource.take_some.Given as goal

abbrev pub invariant-loop : goal.invariant-loop
invariant-loop g l = Keeps (g.R.Read.remaining l.fn.self) (g.R.Read.remaining l.self)
