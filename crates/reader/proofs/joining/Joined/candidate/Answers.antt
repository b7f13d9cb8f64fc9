use Rattle.std.proofs.Common.{◌≡◌, ℕ, ◌-◌, ◌≤◌, List, length, take, Some, pos, ◌<ℤ◌, sym, subst, arith, rules, w32, SFits}
use Rattle.std.proofs.lemmas.Int.{ints}
use Rattle.algebra.specs.Polynomial.{Below, coefficients}
use Rattle.algebra.proofs.Coefficients.{below_more}
use Rattle.reader.specs.Finding.{Quotient}
use Rattle.reader.proofs.Searching.{low_degree, none_by_quotient, none_by_rest, quotient_exact}
use Rattle.reader.proofs.Tables.{front_codes, front_same}
use Rattle.reader.proofs.joining.Joined.candidate.Goals as goal
use Rattle.reader.proofs.joining.Joined.candidate.Goals.{then-rest-ge0-via-then-rest-ge0, then-rest-ge0-via-else-rest-ge0+then-degree-message_length}

pub returns-then-rest-ge0 : goal.returns-then-rest-ge0
returns-then-rest-ge0 g c =
    let f = g.F.Field.arithmetic in
    let L = g.met.F.Field.lawful in
    let K = c.args.message_length in
    let S = c.half_way-euclid.ensures in
    let e = c.half_way-euclid.result in
    let q = coefficients c.divide-degree.new.quotient in
    let rest = coefficients c.divide-degree.new.remainder in
    let V = c.divide-degree.ensures.divided.by_degree S.t_degree S.t_has in
    let small : K ≤ 64 = omega (arith, c.args.self.now.state.fits, c.requires) in
    let degree_fits : SFits w32 c.divide-degree.result.0 = search rules in
    let rest_fits : SFits w32 c.divide-degree.result.1 = search rules in
    record {
      r = coefficients e.current;
      t = coefficients e.t_current;
      stopped = S;
      quotient =
          elim c.then-rest-ge0.branch [
            | then-rest-ge0-via-then-rest-ge0 w ↦
                none_by_rest f L K S.t_degree (coefficients e.current) (coefficients e.t_current) q rest S.t_polynomial S.t_has V
                c.divide-degree.result.1 c.divide-degree.ensures.remainder_degree (omega (arith, ints, w.if-rest-ge0.true))
            | then-rest-ge0-via-else-rest-ge0+then-degree-message_length w ↦
                none_by_quotient f L K S.t_degree (coefficients e.current) (coefficients e.t_current) q rest S.t_polynomial S.t_has V
                c.divide-degree.result.0 c.divide-degree.ensures.quotient_degree (omega (arith, ints, w.if-degree-message_length.true))
          ];
    }

pub returns : goal.returns
returns g c =
    let f = g.F.Field.arithmetic in
    let L = g.met.F.Field.lawful in
    let K = c.args.message_length in
    let S = c.half_way-euclid.ensures in
    let e = c.half_way-euclid.result in
    let quotient = c.divide-degree.new.quotient in
    let rest = coefficients c.divide-degree.new.remainder in
    let V = c.divide-degree.ensures.divided.by_degree S.t_degree S.t_has in
    let quotient_long : length quotient ≡ 65 = search rules in
    let small : K ≤ 64 = omega (arith, c.args.self.now.state.fits, c.requires) in
    let degree_fits : SFits w32 c.divide-degree.result.0 = search rules in
    let rest_fits : SFits w32 c.divide-degree.result.1 = search rules in
    let degree_low : c.divide-degree.result.0 <ℤ pos K = omega (arith, ints, c.if-degree-message_length.false) in
    let rest_low : c.divide-degree.result.1 <ℤ pos 0 = omega (arith, ints, c.if-rest-ge0.false) in
    let low : Below K (coefficients quotient) =
    low_degree (coefficients quotient) K c.divide-degree.result.0 c.divide-degree.ensures.quotient_degree degree_low in
    let table : Below 64 (coefficients quotient) = below_more K 64 (coefficients quotient) small low in
    let none : Below 0 rest = low_degree rest 0 c.divide-degree.result.1 c.divide-degree.ensures.remainder_degree rest_low in
    let whole = front_same quotient 64 table (omega arith) in
    let found : Quotient f K (coefficients e.current) (coefficients e.t_current) (Some (take (64 - 0) quotient)) = (
      front_codes f quotient 64 table (omega arith) c.divide-degree.ensures.quotient_codes,
      subst (λ (x : ℕ → ℕ). Below K x) (sym whole) low,
      rw whole
          (quotient_exact f L K S.t_degree (coefficients e.current) (coefficients e.t_current) (coefficients quotient) rest S.t_polynomial S.t_has V none),
    ) in
    record {
      r = coefficients e.current;
      t = coefficients e.t_current;
      stopped = S;
      quotient =
          subst (λ (x : List ℕ). Quotient f K (coefficients e.current) (coefficients e.t_current) (Some x)) (sym c.copy_from_slice.ensures.after) found;
    }
