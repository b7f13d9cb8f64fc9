use Rattle.std.proofs.Common.{◌≡◌, ◌+◌, ◌*◌, refl, ap, arith}
use Rattle.rack.specs.Ledger.{puts}
use Rattle.rack.specs.Racks.{state}
use Rattle.rack.specs.States.{cell_of}
use Rattle.rack.proofs.Answering.{placed, put_performs}
use Rattle.rack.proofs.Judging.{later_refuses, passed_on, use_refuses}
use Rattle.rack.proofs.table.Rack.put.Goals as goal

pub returns-in_err-may_use : goal.returns-in_err-may_use
returns-in_err-may_use g c =
    let r = state c.args.self.now in
    passed_on _ _ c.from_residual.ensures.1
    (use_refuses r c.args.channel c.args.slot (puts c.args.channel c.args.slot c.args.position c.args.residue.now) _ refl _
    c.in_err-may_use.ensures c.args.self.now.whole)

pub returns-in_err-check_residue : goal.returns-in_err-check_residue
returns-in_err-check_residue g c =
    let r = state c.args.self.now in
    passed_on _ _ c.from_residual-in_err-check_residue.ensures.1
    (later_refuses r c.args.channel c.args.slot (puts c.args.channel c.args.slot c.args.position c.args.residue.now) _ refl
    c.in_ok-may_use.ensures _ c.in_err-check_residue.ensures c.args.self.now.whole)

pub overflow_add-at : goal.overflow_add-at
overflow_add-at g c =
    let r = state c.args.self.now in
    let fits = placed r c.args.channel c.args.slot c.args.position c.args.residue.now c.args.self.now.whole c.in_ok-may_use.ensures c.in_ok-check_residue.ensures in
    let few = (g.met.M.Memory.bounded c.args.self.now.memory).few in
    omega (arith, fits.room, few, ap (λ n. c.args.slot * n) c.word_length.ensures, c.start.ensures)

pub store-requires : goal.store-requires
store-requires g c =
    let r = state c.args.self.now in
    let fits = placed r c.args.channel c.args.slot c.args.position c.args.residue.now c.args.self.now.whole c.in_ok-may_use.ensures c.in_ok-check_residue.ensures in
    let few = (g.met.M.Memory.bounded c.args.self.now.memory).few in
    omega (arith, fits.room, few, ap (λ n. c.args.slot * n) c.word_length.ensures, c.start.ensures)

pub invariant_of-self : goal.invariant_of-self
invariant_of-self g c =
    let r = state c.args.self.now in
    let at : c.args.slot * c.word_length.result + c.start.result ≡ cell_of r.scheme c.args.slot c.args.position =
    omega (arith, ap (λ n. c.args.slot * n) c.word_length.ensures, c.start.ensures) in
    let performed = put_performs r c.args.channel c.args.slot c.args.position c.args.residue.now c.args.self.now.whole c.in_ok-may_use.ensures
    c.in_ok-check_residue.ensures _ at _ _ c.store.ensures _ c.mark.ensures in
    record { whole = performed.stays }

pub returns : goal.returns
returns g c =
    let r = state c.args.self.now in
    let at : c.args.slot * c.word_length.result + c.start.result ≡ cell_of r.scheme c.args.slot c.args.position =
    omega (arith, ap (λ n. c.args.slot * n) c.word_length.ensures, c.start.ensures) in
    put_performs r c.args.channel c.args.slot c.args.position c.args.residue.now c.args.self.now.whole c.in_ok-may_use.ensures
    c.in_ok-check_residue.ensures _ at _ _ c.store.ensures _ c.mark.ensures
