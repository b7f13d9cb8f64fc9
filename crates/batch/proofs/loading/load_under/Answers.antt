use Rattle.std.proofs.Common.{◌≡◌, Ok, rules}
use Rattle.std.proofs.lemmas.Result.{MatchResult-at_ok}
use Rattle.plan.specs.Held.{scheme}
use Rattle.rack.specs.Racks.{state}
use Rattle.batch.proofs.Readings.{kept}
use Rattle.batch.proofs.loading.load_under.Goals as goal

pub returns : goal.returns
returns g c =
    let is : c.new.result ≡ Ok c.in_ok-rack.rack = search rules in
    let made = MatchResult-at_ok _ _ _ is c.new.ensures in
    kept (scheme c.args.plan) g.met.F.Field.lawful c.args.plan.lawful _ (state c.in_ok-rack.rack) made.0 c.run.ensures
