-- Tables of fixed size.
use Rattle.std.specs.Prelude.{ℕ, ◌-◌, List, ◌++◌, length, replicate}

-- A list as a table of n holds it: the filler stands in all that is left.
abbrev pub table_of : {A : Type 0} → ℕ → A → List A → List A
table_of n filler xs = xs ++ replicate (n - length xs) filler
