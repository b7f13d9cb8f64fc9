-- What is printed of numbers in a row: each after a blank.
use Rattle.std.specs.Prelude.{ℕ, List, ◌++◌, codes, decimal}
use Rattle.std.specs.List.{flat_map}

abbrev pub row_text : List ℕ → List ℕ
row_text = flat_map (λ n. codes " " ++ decimal n)

-- A number of sixteen bits takes at most this many bytes: its blank, and five digits.
abbrev pub longest_number : ℕ
longest_number = 6
