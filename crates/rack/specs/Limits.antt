-- The limits of a rack.
use Rattle.std.specs.Prelude.{ℕ}

-- The most slots that a rack has.
abbrev pub most_slots : ℕ
most_slots = 16
