use Rattle.std.proofs.Common.{◌≡◌, vec_len}
use Rattle.sheet.proofs.rooms.Room.new.Given as goal

abbrev pub invariant-loop : goal.invariant-loop
invariant-loop l = vec_len l.rows ≡ l.counter
