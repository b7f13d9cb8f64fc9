use Rattle.std.proofs.Common.{◌≡◌, ℕ, ◌+◌, ◌*◌, ◌≤◌, length, get_or, take}
use Rattle.algebra.specs.Polynomial.{Below, coefficients}
use Rattle.plan.specs.Schemes.{total_degree}
use Rattle.plan.proofs.drafts.Draft.starts.Given as goal

-- The starts so far are the sums of the degrees before them, and the last of them is the running end; zeros follow.
abbrev pub invariant-loop-i : goal.invariant-loop-i
invariant-loop-i l =
    (length l.starts ≡ 25)
    × ((j : ℕ) → j ≤ l.i → get_or l.starts j 0 ≡ total_degree (take j l.self.moduli.now))
    × (l.end ≡ total_degree (take l.i l.self.moduli.now))
    × (l.end ≤ 8 * l.i)
    × Below (l.i + 1) (coefficients l.starts)
