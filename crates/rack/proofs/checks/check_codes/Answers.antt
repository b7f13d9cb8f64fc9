use Rattle.std.proofs.Common.{sym, ap}
use Rattle.rack.specs.Checks.{settled}
use Rattle.rack.specs.Ledger.{code_fault}
use Rattle.rack.proofs.Numbers.{beyond_none, beyond_some}
use Rattle.rack.proofs.checks.check_codes.Goals as goal

pub returns-in-Some : goal.returns-in-Some
returns-in-Some g c =
    ap (λ found. settled (code_fault c.args.slot found)) (sym (beyond_some g.F.Field.arithmetic c.args.codes.now c.in-Some.index c.in-Some.ensures))

pub returns-in-None : goal.returns-in-None
returns-in-None g c =
    ap (λ found. settled (code_fault c.args.slot found)) (sym (beyond_none g.F.Field.arithmetic c.args.codes.now c.in-None.ensures))
