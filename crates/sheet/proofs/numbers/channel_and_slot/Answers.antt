use Rattle.std.proofs.Common.{lit<}
use Rattle.sheet.specs.CallNumbers.{none_at, one_more_at}
use Rattle.sheet.proofs.CallRows.{one_at, wanting}
use Rattle.sheet.proofs.Exits.{handed_on}
use Rattle.sheet.proofs.numbers.channel_and_slot.Goals as goal

pub returns-in_err-channel : goal.returns-in_err-channel
returns-in_err-channel c = rw (handed_on c.from_residual.result c.from_residual.ensures.1) (wanting (none_at c.args.from.within) (lit< tt) (lit< tt) c.in_err-channel.ensures)

pub returns-in_err-slot : goal.returns-in_err-slot
returns-in_err-slot c =
    rw (handed_on c.from_residual-in_err-slot.result c.from_residual-in_err-slot.ensures.1)
    (wanting (one_at c.in_ok-channel.ensures c.args.from.within) (lit< tt) (lit< tt) (rw (c.at.ensures.sheet, c.at.ensures.place) at c.in_err-slot.ensures))

pub returns : goal.returns
returns c =
    rw (c.from.ensures, c.from-2.ensures)
    (one_more_at (one_at c.in_ok-channel.ensures c.args.from.within) (rw (c.at.ensures.sheet, c.at.ensures.place) at c.in_ok-slot.ensures))
