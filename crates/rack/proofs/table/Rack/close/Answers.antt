use Rattle.std.proofs.Common.{None, sym}
use Rattle.rack.specs.Ledger.{closes}
use Rattle.rack.specs.Racks.{state}
use Rattle.rack.proofs.Judging.{passed_on, use_refuses}
use Rattle.rack.proofs.Passing.{first_last}
use Rattle.rack.proofs.table.Rack.close.Goals as goal

pub returns-in_err-may_use : goal.returns-in_err-may_use
returns-in_err-may_use g c =
    let r = state c.args.self.now in
    passed_on _ _ c.from_residual.ensures.1
    (use_refuses r c.args.channel c.args.slot (closes c.args.channel c.args.slot) None (sym (first_last _)) _ c.in_err-may_use.ensures c.args.self.now.whole)
