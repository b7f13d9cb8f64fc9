use Rattle.std.proofs.Common.{ℕ, ◌+◌, ◌<◌, sym, subst, arith}
use Rattle.algebra.specs.Polynomial.{coefficients}
use Rattle.plan.specs.Held.{scheme}
use Rattle.plan.specs.Schemes.{positions}
use Rattle.plan.proofs.Sizes.{start_room}
use Rattle.reader.specs.Arrivals.{account_of}
use Rattle.reader.specs.Gathering.{GatheredTo}
use Rattle.reader.specs.declared.joining.Joined.{Joined}
use Rattle.reader.proofs.Gathers.{gathered_joined, gathered_left, gathered_most, gathered_none, usable_parts}
use Rattle.reader.proofs.arrived.Arrived.gather.Goals as goal
use Rattle.reader.proofs.arrived.Arrived.gather.Goals.{in-Some, in_default}

pub loop-i-init : goal.loop-i-init
loop-i-init g c =
    let self = c.args.self.now in
    let j = c.start-joined.result in
    let M = coefficients j.product in
    let Y = coefficients j.value in
    subst (λ (D : ℕ). GatheredTo (scheme self.plan.now) (account_of self.residues.now) 0 D M Y) (sym c.start-joined.ensures.degree)
    (gathered_none self.plan.now g.met.F.Field.lawful (account_of self.residues.now) M Y c.start-joined.ensures.product)

pub join-requires : goal.join-requires
join-requires g c =
    let L = g.met.F.Field.lawful in
    let p = c.args.self.now.plan.now in
    let s = scheme p in
    let account = account_of c.args.self.now.residues.now in
    let i = c.loop-i.i in
    let j = c.loop-i.joined in
    let here = c.in-Some.ensures in
    let place : i < positions s = omega (arith, c.loop-i-test.true, c.positions-i-end.ensures) in
    omega (
      arith,
      gathered_most p L account i j.degree (coefficients j.product) (coefficients j.value) (omega arith) c.loop-i.invariant,
      (usable_parts p L account i (account i) c.in-Some.next.residue.now here.0).1,
      start_room s i place,
      p.lawful.short,
    )

pub loop-i-preserved : goal.loop-i-preserved
loop-i-preserved g c =
    let L = g.met.F.Field.lawful in
    let p = c.args.self.now.plan.now in
    let s = scheme p in
    let account = account_of c.args.self.now.residues.now in
    let i = c.loop-i.i in
    let j = c.loop-i.joined in
    let place : i < positions s = omega (arith, c.loop-i-test.true, c.positions-i-end.ensures) in
    let So : Joined g.row.F.Denot g.F.Field → Type 0 =
    λ k. GatheredTo s account (i + 1) k.degree (coefficients k.product) (coefficients k.value) in
    elim c.match-congruence.branch [
      | in-Some w ↦
          let next = w.in-Some.next in
          subst So (sym w.joined-is)
          (gathered_joined p L account i place j w.join.new.self next.modulus.now next.residue.now c.loop-i.invariant w.join.ensures w.in-Some.ensures.0
          w.in-Some.ensures.1)
      | in_default w ↦
          subst So (sym w.joined-is)
          (gathered_left p L account i j.degree (coefficients j.product) (coefficients j.value) w.in_default.ensures c.loop-i.invariant)
    ]
