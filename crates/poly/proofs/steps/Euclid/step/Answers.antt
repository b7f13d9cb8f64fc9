use Rattle.std.proofs.Common.{◌≡◌, ℕ, length, sym, refl, subst, arith, rules}
use Rattle.std.proofs.lemmas.List.{length-take-le}
use Rattle.algebra.specs.Polynomial.{coefficients, multiply, subtract}
use Rattle.poly.specs.Extended.{Extended}
use Rattle.poly.specs.Slices.{capacity}
use Rattle.poly.proofs.Fronts.{counted, front_codes, significant_within}
use Rattle.poly.proofs.ExtendedState.{fronts_taken, counts_fit, extended_step}
use Rattle.poly.proofs.steps.Euclid.step.Goals as goal

pub slice_bounds-quotient-end : goal.slice_bounds-quotient-end
slice_bounds-quotient-end g c =
    let q = c.divide-quotient_degree.new.quotient in
    let n = c.count_of-quotient_count.result in
    significant_within q n (counted q c.divide-quotient_degree.result.0 n (search rules) c.divide-quotient_degree.ensures.quotient_degree c.count_of-quotient_count.ensures)

pub slice_bounds-subtract_product-end-2 : goal.slice_bounds-subtract_product-end-2
slice_bounds-subtract_product-end-2 g c =
    let q = c.divide-quotient_degree.new.quotient in
    let n = c.count_of-quotient_count.result in
    let s = counted q c.divide-quotient_degree.result.0 n (search rules) c.divide-quotient_degree.ensures.quotient_degree c.count_of-quotient_count.ensures in
    sym (length-take-le n q (significant_within q n s))

pub subtract_product-requires-clause-fits : goal.subtract_product-requires-clause-fits
subtract_product-requires-clause-fits g c =
    let e = c.args.self.now in
    let q = c.divide-quotient_degree.new.quotient in
    let nq = c.count_of-quotient_count.result in
    let nt = c.significant-factor_count.result in
    let sq = counted q c.divide-quotient_degree.result.0 nq (search rules) c.divide-quotient_degree.ensures.quotient_degree c.count_of-quotient_count.ensures in
    let st = c.significant-factor_count.ensures in
    let long : length e.t_previous ≡ capacity = search rules in
    let wide : length e.t_current ≡ capacity = search rules in
    let fit =
    counts_fit g.F.Field.arithmetic g.met.F.Field.lawful e (coefficients q) (coefficients c.divide-quotient_degree.new.remainder) nq nt c.requires
    c.divide-quotient_degree.ensures.divided sq st.is (omega (arith, st.within)) in
    omega (arith, fit, long, length-take-le nq q (significant_within q nq sq), length-take-le nt e.t_current (omega (arith, st.within)))

pub subtract_product-requires-clause-a_codes : goal.subtract_product-requires-clause-a_codes
subtract_product-requires-clause-a_codes g c =
    let q = c.divide-quotient_degree.new.quotient in
    let n = c.count_of-quotient_count.result in
    let s = counted q c.divide-quotient_degree.result.0 n (search rules) c.divide-quotient_degree.ensures.quotient_degree c.count_of-quotient_count.ensures in
    front_codes g.F.Field.arithmetic q n (significant_within q n s) s c.divide-quotient_degree.ensures.quotient_codes

pub subtract_product-requires-clause-b_codes : goal.subtract_product-requires-clause-b_codes
subtract_product-requires-clause-b_codes g c =
    let s = c.significant-factor_count.ensures in
    front_codes g.F.Field.arithmetic c.args.self.now.t_current c.significant-factor_count.result s.within s.is c.requires.holds.t_polynomial.codes

pub returns : goal.returns
returns g c =
    let f = g.F.Field.arithmetic in
    let L = g.met.F.Field.lawful in
    let e = c.args.self.now in
    let q = c.divide-quotient_degree.new.quotient in
    let r = c.divide-quotient_degree.new.remainder in
    let next = c.subtract_product.new.p in
    let nq = c.count_of-quotient_count.result in
    let sq = counted q c.divide-quotient_degree.result.0 nq (search rules) c.divide-quotient_degree.ensures.quotient_degree c.count_of-quotient_count.ensures in
    let st = c.significant-factor_count.ensures in
    let t_is : coefficients next ≡ subtract f (coefficients e.t_previous) (multiply f (coefficients q) (coefficients e.t_current)) =
    fronts_taken f (coefficients e.t_previous) (coefficients next) q e.t_current nq
    c.significant-factor_count.result (significant_within q nq sq) st.within sq st.is c.subtract_product.ensures.value in
    record {
      stepped =
          record {
            quotient = coefficients q;
            divided = c.divide-quotient_degree.ensures.divided;
            previous_is = refl {a = e.current};
            t_previous_is = refl {a = e.t_current};
            t_is = t_is;
            current_codes = c.divide-quotient_degree.ensures.remainder_codes;
            t_codes = c.subtract_product.ensures.codes;
          };
      extended =
          λ d D M Y h E.
          subst (λ (x : ℕ → ℕ). Extended f D M Y (coefficients e.current) (coefficients r) (coefficients e.t_current) x) (sym t_is)
          (extended_step f L d D M Y (coefficients e.previous) (coefficients e.current) (coefficients e.t_previous) (coefficients e.t_current)
          (coefficients q) (coefficients r) h c.divide-quotient_degree.ensures.divided E);
      count = counted r c.divide-quotient_degree.result.1 c.count_of.result (search rules) c.divide-quotient_degree.ensures.remainder_degree c.count_of.ensures;
    }
