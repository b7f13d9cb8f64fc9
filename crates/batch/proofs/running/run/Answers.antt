use Rattle.std.proofs.Common.{None, sym, ◌∙◌, arith}
use Rattle.std.proofs.lemmas.List.{get_or_read}
use Rattle.rack.specs.declared.call.Call.TheVariants.{Close}
use Rattle.batch.proofs.Underway.{going_end, going_on}
use Rattle.batch.proofs.running.run.Goals as goal

pub loop-entry-preserved : goal.loop-entry-preserved
loop-entry-preserved g c =
    let found = sym c.entry-item.is
    ∙ get_or_read c.loop-entry.entries c.loop-entry.entry-index c.entry-item.result (omega arith) c.entry-item.is (record { call = Close 0 0; outcome = None }) in
    going_on c.loop-entry.invariant c.loop-entry-test.true _ _ _ found c.serve.ensures

pub returns : goal.returns
returns g c = going_end c.loop-entry.invariant c.loop-entry-test.false c.loop-entry.rack.whole
