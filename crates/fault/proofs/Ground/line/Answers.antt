use Rattle.std.proofs.Common.{◌≡◌, List, ℕ, ◌+◌, ◌^◌, ◌<◌, ◌≤◌, ◌++◌, length, codes, decimal, encode_utf8, arith, append_assoc, length-append, lit≤, lit<, refl, subst, sym}
use Rattle.std.proofs.lemmas.Fmt.{length-decimal-le}
use Rattle.fault.specs.Shown.{letter_of, line, longest_line, spaced}
use Rattle.fault.specs.declared.Ground.{Ground}
use Rattle.fault.specs.declared.Layer.{Layer}
use Rattle.fault.specs.declared.Layer.TheVariants.{Sheet, Plan, Memory, Rack, Reader}
use Rattle.fault.proofs.Ground.line.Goals as goal

regrouped : (n l a b : List ℕ)
    → ((((((codes "no " ++ n) ++ codes " ") ++ l) ++ codes " ") ++ a) ++ codes " ") ++ b
    ≡ spaced (codes "no") (spaced n (spaced l (spaced a b)))
regrouped n l a b = simp append_assoc

one_letter : (layer : Layer) → length (encode_utf8 (letter_of layer)) ≡ 1
unfolding lib.Utf8.encode
one_letter Sheet = refl
one_letter Plan = refl
one_letter Memory = refl
one_letter Rack = refl
one_letter Reader = refl

spaced_length : (word rest : List ℕ) → length (spaced word rest) ≡ length word + (1 + length rest)
spaced_length word rest = simp length-append

short : (g : Ground) → g.number < 256 → g.first < 2 ^ 64 → g.second < 2 ^ 64 → length (line g) ≤ longest_line
short g n a b =
    let l = one_letter g.layer in
    let n' = length-decimal-le 3 g.number (lit< tt) (omega arith) (omega arith) in
    let a' = length-decimal-le 20 g.first (lit< tt) (omega arith) a in
    let b' = length-decimal-le 20 g.second (lit< tt) (omega arith) b in
    omega (
      arith,
      spaced_length (codes "no") (spaced (decimal g.number) (spaced (encode_utf8 (letter_of g.layer)) (spaced (decimal g.first) (decimal g.second)))),
      spaced_length (decimal g.number) (spaced (encode_utf8 (letter_of g.layer)) (spaced (decimal g.first) (decimal g.second))),
      spaced_length (encode_utf8 (letter_of g.layer)) (spaced (decimal g.first) (decimal g.second)),
      spaced_length (decimal g.first) (decimal g.second),
    )

-- Each piece finds room: the places have at most 20 digits.
pub returns-clause-whole : goal.returns-clause-whole
returns-clause-whole c =
    let e1 = c.new.ensures.told.fits (lit≤ tt) in
    let e2 = c.number.ensures.room (omega (arith, c.new.ensures.longest)) in
    let e3 = c.text.ensures.told.fits (omega arith) in
    let e4 = c.letter-2.ensures.room (omega arith) in
    let e5 = c.text-2.ensures.told.fits (omega arith) in
    let e6 = c.number-2.ensures.room (omega arith) in
    let e7 = c.text-3.ensures.told.fits (omega arith) in
    let e8 = c.number-3.ensures.room (omega arith) in
    rw (e8, e7, e6, e5, e4, e3, e2, e1, c.letter.ensures) (regrouped _ _ _ _)

pub returns-clause-short : goal.returns-clause-short
returns-clause-short c =
    let P : List ℕ → Type 0 = λ text. length text ≤ longest_line in
    subst P (sym (returns-clause-whole c)) (short c.args.self.now (omega arith) (omega arith) (omega arith))
