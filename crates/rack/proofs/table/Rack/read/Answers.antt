use Rattle.std.proofs.Common.{◌≡◌, refl, ap, ◌∙◌, w32, to_z, of_z, rules}
use Rattle.rack.specs.Checks.{settled}
use Rattle.rack.specs.Ledger.{reads, wrong_length}
use Rattle.rack.specs.Racks.{state}
use Rattle.rack.proofs.Answering.{account_used, reading_found, reading_refused}
use Rattle.rack.proofs.Judging.{later_passes, later_refuses, passed_on, passes, use_refuses}
use Rattle.rack.proofs.table.Rack.read.Goals as goal

pub returns-in_err-may_use : goal.returns-in_err-may_use
returns-in_err-may_use g c =
    let r = state c.args.self.now in
    passed_on _ _ c.from_residual.ensures.1
    (use_refuses r c.args.channel c.args.slot (reads c.args.channel c.args.slot c.args.buffer.now) _ refl _ c.in_err-may_use.ensures c.args.self.now.whole)

pub returns-in_err-check_length : goal.returns-in_err-check_length
returns-in_err-check_length g c =
    let r = state c.args.self.now in
    let right = ap (λ n. settled (wrong_length c.args.slot n c.args.buffer.now)) c.message_length.ensures in
    passed_on _ _ c.from_residual-in_err-check_length.ensures.1
    (later_refuses r c.args.channel c.args.slot (reads c.args.channel c.args.slot c.args.buffer.now) _ refl
    c.in_ok-may_use.ensures _ (c.in_err-check_length.ensures ∙ right) c.args.self.now.whole)

pub returns-in_err-reading : goal.returns-in_err-reading
returns-in_err-reading g c =
    let r = state c.args.self.now in
    let request = reads c.args.channel c.args.slot c.args.buffer.now in
    let right = ap (λ n. settled (wrong_length c.args.slot n c.args.buffer.now)) c.message_length.ensures in
    passed_on _ _ c.from_residual-in_err-reading.ensures.1
    (passes r request _ _
    (later_passes r c.args.channel c.args.slot request _ refl c.in_ok-may_use.ensures (c.in_ok-check_length.ensures ∙ right)) (
      _,
      refl,
      reading_refused r.scheme _ _ (account_used r c.args.channel c.args.slot c.in_ok-may_use.ensures) c.args.slot c.args.buffer.now
          c.read_slot.result _ (search rules) c.read_slot.ensures,
    )
    _ refl c.args.self.now.whole)

pub returns : goal.returns
returns g c =
    let r = state c.args.self.now in
    let request = reads c.args.channel c.args.slot c.args.buffer.now in
    let right = ap (λ n. settled (wrong_length c.args.slot n c.args.buffer.now)) c.message_length.ensures in
    let back : to_z w32 (of_z w32 c.in_ok-reading.reading.margin) ≡ c.in_ok-reading.reading.margin = search rules in
    passes r request _ _
    (later_passes r c.args.channel c.args.slot request _ refl c.in_ok-may_use.ensures (c.in_ok-check_length.ensures ∙ right)) (
      _,
      refl,
      reading_found r.scheme _ _ (account_used r c.args.channel c.args.slot c.in_ok-may_use.ensures) c.args.slot c.args.buffer.now
          c.read_slot.result c.in_ok-reading.reading _ _ (search rules) c.read_slot.ensures (c.copy_from_slice.ensures.after ∙ c.codes.ensures) back refl,
    )
    _ refl c.args.self.now.whole
