use Rattle.std.proofs.Common.{◌≡◌, Ok, sym, refl, ap, ◌∙◌, w32, to_z, of_z, rules}
use Rattle.plan.specs.Accounts.{Account, margin}
use Rattle.rack.specs.Ledger.{measures}
use Rattle.rack.specs.Racks.{state}
use Rattle.rack.specs.declared.call.Answer.TheVariants.{Margin}
use Rattle.rack.proofs.Answering.{account_used}
use Rattle.rack.proofs.Judging.{later_passes, later_refuses, passed_on, passes, use_refuses}
use Rattle.rack.proofs.table.Rack.measure.Goals as goal

pub returns-in_err-may_use : goal.returns-in_err-may_use
returns-in_err-may_use g c =
    let r = state c.args.self.now in
    passed_on _ _ c.from_residual.ensures.1
    (use_refuses r c.args.channel c.args.slot (measures c.args.channel c.args.slot c.args.message.now) _ refl _ c.in_err-may_use.ensures c.args.self.now.whole)

pub returns-in_err-check_message : goal.returns-in_err-check_message
returns-in_err-check_message g c =
    let r = state c.args.self.now in
    passed_on _ _ c.from_residual-in_err-check_message.ensures.1
    (later_refuses r c.args.channel c.args.slot (measures c.args.channel c.args.slot c.args.message.now) _ refl
    c.in_ok-may_use.ensures _ c.in_err-check_message.ensures c.args.self.now.whole)

pub returns : goal.returns
returns g c =
    let r = state c.args.self.now in
    let request = measures c.args.channel c.args.slot c.args.message.now in
    let back : to_z w32 (of_z w32 c.measure.result) ≡ c.measure.result = search rules in
    let account = account_used r c.args.channel c.args.slot c.in_ok-may_use.ensures ∙ sym c.word-word.ensures.account in
    passes r request _ _
    (later_passes r c.args.channel c.args.slot request _ refl c.in_ok-may_use.ensures c.in_ok-check_message.ensures)
    (ap (λ m. Ok (Margin m)) (back ∙ c.measure.ensures ∙ ap (λ (a : Account). margin r.scheme a c.args.message.now) (sym account)), refl)
    _ refl c.args.self.now.whole
