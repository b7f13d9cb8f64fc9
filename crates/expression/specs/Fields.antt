-- The fields by their names.
use Rattle.std.specs.Prelude.{ℕ, List, codes}
use Rattle.algebra.specs.Arithmetics.{byte_arithmetic, modulo}
use Rattle.algebra.specs.Field.{Arithmetic}
use Rattle.expression.specs.declared.names.FieldName.{FieldName}
use Rattle.expression.specs.declared.names.FieldName.TheVariants.{Bits, Bytes, Clock}

abbrev pub arithmetic_of : FieldName → Arithmetic
arithmetic_of Bits = modulo 2
arithmetic_of Bytes = byte_arithmetic
arithmetic_of Clock = modulo 257

-- The names as a sheet writes them.
abbrev pub field_word : FieldName → List ℕ
field_word Bits = codes "bits"
field_word Bytes = codes "bytes"
field_word Clock = codes "clock"
