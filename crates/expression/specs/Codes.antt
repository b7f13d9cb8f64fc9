-- Inner: no public contract cites this.
-- Values whose numbers are codes of a field: what the arithmetic asks of them.
use Rattle.std.specs.Prelude.{Some, None}
use Rattle.algebra.specs.Field.{Arithmetic}
use Rattle.poly.specs.Slices.{Codes}
use Rattle.expression.specs.Values.{Value}

-- Codes of the field, or none.
abbrev pub InField : Arithmetic → Value → Type 0
InField f None = Unit {0}
InField f (Some xs) = Codes f xs
