use Rattle.std.proofs.Common.{◌≡◌, ℕ, ◌<◌, length, None}
use Rattle.plan.specs.Drafts.{drafted}
use Rattle.plan.specs.Schemes.{Clash}
use Rattle.plan.proofs.drafts.Draft.first_clash.Given as goal

-- No pair in the rows so far shares a factor.
abbrev pub invariant-pairs : goal.invariant-pairs
invariant-pairs g l =
    (l.clash ≡ None)
    × ((a b : ℕ) → a < l.i → a < b → b < length l.self.moduli.now → ¬ (Clash (drafted g.F.Field.arithmetic l.self) a b))

-- Nor does one so far in this row.
abbrev pub invariant-loop-j : goal.invariant-loop-j
invariant-loop-j g l =
    (l.clash ≡ None)
    × ((b : ℕ) → l.i < b → b < l.j → ¬ (Clash (drafted g.F.Field.arithmetic l.self) l.i b))
