use Rattle.std.proofs.Common.{false, replicate, Some, refl, ap, ◌∙◌}
use Rattle.plan.specs.Limits.{most_positions}
use Rattle.rack.specs.Ledger.{opens}
use Rattle.rack.specs.Racks.{state}
use Rattle.rack.specs.States.{with_record}
use Rattle.rack.specs.declared.channel.Channel.{Channel}
use Rattle.rack.proofs.Judging.{ok_checked, open_judged_by, open_refuses, passed_on, passes}
use Rattle.rack.proofs.table.Rack.open.Goals as goal

pub returns-in_err-opener : goal.returns-in_err-opener
returns-in_err-opener g c =
    passed_on _ _ c.from_residual.ensures.1
    (open_refuses (state c.args.self.now) c.args.channel c.args.slot _ c.in_err-opener.ensures c.args.self.now.whole)

pub returns : goal.returns
returns g c =
    let r = state c.args.self.now in
    let ok = ok_checked _ _ _ c.in_ok-opener.ensures in
    passes r (opens c.args.channel c.args.slot) _ _
    (open_judged_by r c.args.channel c.args.slot ∙ ok.0)
    (refl, refl) _
    (ap (with_record r c.args.slot) (c.open.ensures ∙ ap (λ (d : Channel). record { owner = Some d; present = replicate most_positions false }) ok.1)) c.args.self.now.whole
