-- Inner: no public contract cites this.
-- The factor with which a product is taken in.
use Rattle.std.specs.Prelude.{ℕ}
use Rattle.algebra.specs.Field.{Arithmetic}
use Rattle.poly.specs.declared.products.Taken.{Taken}
use Rattle.poly.specs.declared.products.Taken.TheVariants.{Added, Subtracted}

-- 1, or -1.
abbrev pub unit : Arithmetic → Taken → ℕ
unit f Added = 1
unit f Subtracted = f.negative 1
