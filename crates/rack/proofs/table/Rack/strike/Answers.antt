use Rattle.std.proofs.Common.{refl, ap}
use Rattle.rack.specs.Ledger.{strikes}
use Rattle.rack.specs.Racks.{state}
use Rattle.rack.specs.States.{with_record}
use Rattle.rack.proofs.Judging.{later_passes, later_refuses, passed_on, passes, use_refuses}
use Rattle.rack.proofs.table.Rack.strike.Goals as goal

pub returns-in_err-may_use : goal.returns-in_err-may_use
returns-in_err-may_use g c =
    let r = state c.args.self.now in
    passed_on _ _ c.from_residual.ensures.1
    (use_refuses r c.args.channel c.args.slot (strikes c.args.channel c.args.slot c.args.position) _ refl _ c.in_err-may_use.ensures c.args.self.now.whole)

pub returns-in_err-check_position : goal.returns-in_err-check_position
returns-in_err-check_position g c =
    let r = state c.args.self.now in
    passed_on _ _ c.from_residual-in_err-check_position.ensures.1
    (later_refuses r c.args.channel c.args.slot (strikes c.args.channel c.args.slot c.args.position) _ refl
    c.in_ok-may_use.ensures _ c.in_err-check_position.ensures c.args.self.now.whole)

pub returns : goal.returns
returns g c =
    let r = state c.args.self.now in
    passes r (strikes c.args.channel c.args.slot c.args.position) _ _
    (later_passes r c.args.channel c.args.slot (strikes c.args.channel c.args.slot c.args.position) _ refl
    c.in_ok-may_use.ensures c.in_ok-check_position.ensures)
    (refl, refl) _ (ap (with_record r c.args.slot) c.mark.ensures) c.args.self.now.whole
