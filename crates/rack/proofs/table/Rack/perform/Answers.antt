use Rattle.std.proofs.Common.{◌≡◌, length, sym, ap, ◌∙◌, rules}
use Rattle.std.proofs.lemmas.List.{with_items_is}
use Rattle.rack.specs.Racks.{given_by}
use Rattle.rack.proofs.Judging.{read_carried}
use Rattle.rack.proofs.table.Rack.perform.Goals as goal

pub returns-in-Read : goal.returns-in-Read
returns-in-Read g c =
    let b = c.in-Read.buffer in
    let lent = c.as_mut_slice.ensures.value in
    let long : length c.read.new.buffer ≡ b.len = c.read.auto.buffer ∙ ap length lent ∙ sym b.ok.0 in
    read_carried _ _ _ _ _ c.in-Read.channel c.in-Read.slot _ _ _ _
    (ap given_by c.in-Read.is) lent (search rules) (with_items_is b c.read.new.buffer long) (c.read.ensures)
