-- What a sign's part says of a cursor that was moved over a sheet: t and k are its sheet and its place, s and i what these are known to be.
use Rattle.std.proofs.Common.{◌≡◌, ℕ, ◌+◌, ◌<◌, List, [], ◌∷◌, length, get_or, sym, ap, ◌∙◌, arith}
use Rattle.expression.specs.Texts.{Stands}
use Rattle.expression.specs.Tokens.{ByteAt}
use Rattle.expression.specs.declared.parts.Part.{Part}
use Rattle.expression.proofs.Stretches.{single}
use Rattle.std.specs.List.{between}

-- A part of one byte: that byte stands there, and the part ends after it.
pub byte_there : {s : List ℕ} {i byte end : ℕ} {part : Part} → ByteAt byte s i part → end ≡ part.place + length part.text.now → Stands byte s i × (end ≡ i + 1)
byte_there {s} {i} {byte} {end} {part} p ends =
    let one : length part.text.now ≡ 1 = ap length p.is in
    let inside : i < length s = omega (arith, p.placed.within) in
    let text : get_or s i 0 ∷ [] ≡ byte ∷ [] = sym (single s i inside) ∙ (ap (λ n. between i (i + n) s) (sym one) ∙ (sym p.placed.is ∙ p.is)) in
    ((inside, ap (λ x. get_or x 0 0) text), omega (arith, p.placed.here))

pub sign_there : {t s : List ℕ} {k i byte end : ℕ} {part : Part} → t ≡ s → k ≡ i → ByteAt byte t k part → end ≡ part.place + length part.text.now
    → Stands byte s i × (end ≡ i + 1)
sign_there sheet place p ends = rw (sheet, place) at (byte_there p ends)

pub sign_not : {t s : List ℕ} {k i byte : ℕ} → t ≡ s → k ≡ i → (Stands byte t k → ⊥) → i < length s → get_or s i 0 ≡ byte → ⊥
sign_not sheet place none h e = none (rw (sheet, place) (h, e))
