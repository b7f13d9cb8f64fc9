-- Inner: no public contract cites this.
-- The first line whose modulus has no value, as a function of what a sheet says.
use Rattle.std.specs.Prelude.{ℕ, suc, List, [], ◌∷◌, Some, None, Option}
use Rattle.algebra.specs.Field.{Arithmetic}
use Rattle.expression.specs.Fields.{arithmetic_of}
use Rattle.expression.specs.Values.{Expression, Value, value}
use Rattle.sheet.specs.Grammar.{Content}
use Rattle.sheet.specs.Limits.{first_modulus_line}
use Rattle.sheet.specs.Refusals.{first_spare_line}

-- The line of the first expression that has no value over f, where the first of them stands on line n.
abbrev pub line_unless : Value → ℕ → Option ℕ → Option ℕ
line_unless None n later = Some n
line_unless (Some codes) n later = later

abbrev pub first_without : Arithmetic → ℕ → List Expression → Option ℕ → Option ℕ
first_without f n [] later = later
first_without f n (e ∷ es) later = line_unless (value f e) n (first_without f (suc n) es later)

-- The first line of the sheet whose modulus has no value.
abbrev pub bad_line : Content → Option ℕ
bad_line content =
    first_without (arithmetic_of content.field) first_modulus_line content.carrying
    (first_without (arithmetic_of content.field) (first_spare_line content) content.spare None)
