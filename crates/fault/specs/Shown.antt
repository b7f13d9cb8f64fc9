-- What a refusal looks like: `no 8 M 0 0` is ground 8 of the memory layer, with no place named.
use Rattle.std.specs.Prelude.{ℕ, List, ◌++◌, codes, decimal, encode_utf8}
use Rattle.fault.specs.declared.Ground.{Ground}
use Rattle.fault.specs.declared.Layer.{Layer}
use Rattle.fault.specs.declared.Layer.TheVariants.{Sheet, Plan, Memory, Rack, Reader}

-- The letter of a layer, by its code: S, P, M, R and D.
abbrev pub letter_of : Layer → ℕ
letter_of Sheet = 83
letter_of Plan = 80
letter_of Memory = 77
letter_of Rack = 82
letter_of Reader = 68

-- A word, a blank, and what follows.
abbrev pub spaced : List ℕ → List ℕ → List ℕ
spaced word rest = word ++ (codes " " ++ rest)

-- The line that is printed for a ground: the word no, the number, the letter and the two places, parted by one blank.
abbrev pub line : Ground → List ℕ
line g = spaced (codes "no") (spaced (decimal g.number) (spaced (encode_utf8 (letter_of g.layer)) (spaced (decimal g.first) (decimal g.second))))

-- No line is longer: a number of one byte, and two places of eight.
abbrev pub longest_line : ℕ
longest_line = 50
