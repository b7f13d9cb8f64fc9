use Rattle.std.proofs.Common.{◌≡◌, ℕ, List, ◌++◌, codes, arith, append_assoc, lit≤}
use Rattle.std.proofs.lemmas.Int.{to_z-of_z}
use Rattle.std.specs.Fmt.{signed_decimal}
use Rattle.fault.specs.Shown.{spaced}
use Rattle.fault.specs.Texts.{written}
use Rattle.transcript.proofs.lines.found_words.Goals as goal

regrouped : (m e : List ℕ) → ((codes "ok " ++ m) ++ codes " ") ++ e ≡ spaced (codes "ok") (spaced m e)
regrouped m e = simp append_assoc

-- Each piece finds room.
pub returns-clause-whole : goal.returns-clause-whole
returns-clause-whole c =
    let e1 = c.new.ensures.told.fits (lit≤ tt) in
    let e2 = c.signed.ensures.room (omega (arith, c.new.ensures.longest)) in
    let e2' : written c.signed.result ≡ written c.new.result ++ signed_decimal c.args.margin = grind (arith, to_z-of_z, e2) in
    let e3 = c.text.ensures.told.fits (omega arith) in
    let e4 = c.number.ensures.room (omega arith) in
    rw (e4, e3, e2', e1) (regrouped _ _)
