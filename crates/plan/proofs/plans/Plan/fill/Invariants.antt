use Rattle.std.proofs.Common.{◌≡◌, take}
use Rattle.plan.specs.Held.{scheme}
use Rattle.plan.specs.Schemes.{start, word_to}
use Rattle.plan.proofs.plans.Plan.fill.Given as goal

-- The buffer begins with the positions so far.
abbrev pub invariant-loop-i : goal.invariant-loop-i
invariant-loop-i g l =
    take (start (scheme l.self) l.i) l.buffer
    ≡ word_to (scheme l.self) l.message l.i
