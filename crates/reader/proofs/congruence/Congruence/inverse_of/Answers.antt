use Rattle.std.proofs.Common.{◌≡◌, ℕ, length, sym, ap, ◌∙◌, subst, arith}
use Rattle.algebra.specs.Moduli.{Congruent, one, monomial}
use Rattle.algebra.specs.Polynomial.{Below, add, coefficients, multiply}
use Rattle.algebra.proofs.Remainders.{zeros_nought}
use Rattle.reader.proofs.Joins.{pair_degree}
use Rattle.reader.proofs.Inverting.{scaled_below, scaled_inverts, scaled_value}
use Rattle.reader.proofs.Tables.{zeros_codes}
use Rattle.reader.proofs.congruence.Congruence.inverse_of.Goals as goal

pub descend-requires : goal.descend-requires
descend-requires g c =
    let pair = c.args.self.now.pair in
    let m = c.args.self.now.modulus.now in
    let d = length c.args.self.now.residue.now in
    record {
      D = d;
      M = coefficients m;
      Y = coefficients c.args.p.now;
      fits = omega (arith, pair.long, pair.short);
      holds =
          c.start-euclid.ensures.extended g.F.Field.arithmetic g.met.F.Field.lawful pair.codes c.requires.p_codes d
          (pair_degree g.F.Field.arithmetic m c.args.self.now.residue.now pair) c.requires.lower;
    }

pub add_scaled-requires-clause-p_codes : goal.add_scaled-requires-clause-p_codes
add_scaled-requires-clause-p_codes g c = zeros_codes g.F.Field.arithmetic g.met.F.Field.lawful 65

pub add_scaled-requires-clause-r_codes : goal.add_scaled-requires-clause-r_codes
add_scaled-requires-clause-r_codes g c =
    let f = g.F.Field.arithmetic in
    let pair = c.args.self.now.pair in
    let m = c.args.self.now.modulus.now in
    let y = c.args.self.now.residue.now in
    let R =
    c.descend.ensures.extended (length y) (coefficients m) (coefficients c.args.p.now)
    (c.start-euclid.ensures.extended f g.met.F.Field.lawful pair.codes c.requires.p_codes (length y) (pair_degree f m y pair) c.requires.lower) in
    R.t_previous_polynomial.codes

pub returns : goal.returns
returns g c =
    let f = g.F.Field.arithmetic in
    let L = g.met.F.Field.lawful in
    let m = c.args.self.now.modulus.now in
    let d = length c.args.self.now.residue.now in
    let p = c.args.p.now in
    let pair = c.args.self.now.pair in
    let e = c.descend.new.self in
    let R =
    c.descend.ensures.extended d (coefficients m) (coefficients p)
    (c.start-euclid.ensures.extended f L pair.codes c.requires.p_codes d (pair_degree f m c.args.self.now.residue.now pair) c.requires.lower) in
    let r = c.add_scaled.new.p in
    let value : coefficients r ≡ multiply f (monomial (f.inverse (coefficients e.previous 0)) 0) (coefficients e.t_previous) =
    scaled_value f L d m p e R c.descend.ensures.few r c.inverse-factor.result c.inverse-factor.ensures
    (c.add_scaled.ensures.value
    ∙ ap (λ (x : ℕ → ℕ). add f x (multiply f (monomial c.inverse-factor.result 0) (coefficients e.t_previous))) (zeros_nought 65)) in
    record {
      codes = c.add_scaled.ensures.codes;
      below =
          subst (λ (x : ℕ → ℕ). Below d x) (sym value) (scaled_below f L d m p e R c.descend.ensures.few);
      inverts =
          λ coprime.
          subst (λ (x : ℕ → ℕ). Congruent f (coefficients m) (multiply f x (coefficients p)) one) (sym value)
          (scaled_inverts f L d m p e R c.descend.ensures.few coprime);
    }
