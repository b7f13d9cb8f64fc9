use Rattle.std.proofs.Common.{◌≡◌, ℕ, ◌-◌, List, length, take, replicate, refl, ap, ◌∙◌, arith}
use Rattle.algebra.specs.Polynomial.{coefficients}
use Rattle.std.proofs.lemmas.List.{length-take-le}
use Rattle.poly.proofs.Fronts.{zeros_below}
use Rattle.reader.proofs.Tables.{codes_padded, remainder_padded, zeros_drop}
use Rattle.reader.proofs.congruence.Congruence.remainder_of.Goals as goal

pub returns : goal.returns
returns g c =
    let f = g.F.Field.arithmetic in
    let m = c.args.self.now.modulus.now in
    let pair = c.args.self.now.pair in
    let d = length c.args.self.now.residue.now in
    let zeros : List ℕ = replicate 65 0 in
    let e = length (take (d - 0) zeros) in
    let same : e ≡ d = length-take-le (d - 0) zeros (omega (arith, pair.long, pair.short)) ∙ omega arith in
    let rest = zeros_drop (d - 0) zeros (zeros_below zeros 65 refl) in
    record {
      divided =
          remainder_padded f d e (coefficients m) (coefficients c.args.p.now) c.reduce.new.residue _ rest same
          (c.reduce.ensures.divided c.requires pair.codes (ap (coefficients m) same ∙ pair.monic));
      codes = codes_padded f c.reduce.new.residue _ rest c.reduce.ensures.codes;
    }
