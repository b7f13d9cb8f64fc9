-- What a contract says of the place that a cursor stands at.
use Rattle.std.specs.Prelude.{ℕ, List}
use Rattle.expression.specs.declared.cursors.Cursor.{Cursor}

-- This holds of the sheet and the place.
abbrev pub Here : Cursor → (List ℕ → ℕ → Type 0) → Type 0
Here at Holds = Holds at.sheet.now at.place
