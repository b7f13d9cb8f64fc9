use Rattle.laboratory.proofs.Showing.{shows, shows_top}
use Rattle.laboratory.proofs.mirrored.damage_shows.Goals as goal

pub returns : goal.returns
returns c = record { sound = shows; damaged = shows_top }
