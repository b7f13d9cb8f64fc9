-- What is gathered and found, against the messages within the allowance.
use Rattle.std.proofs.Common.{◌≡◌, ℕ, ◌<◌, ◌≤◌, Bool, true, false, cond, ◌&&◌, eqb, List, length, take, pos, ◌<ℤ◌, is_some, Some, None, Option, sym, refl, ap, subst, arith}
use Rattle.std.proofs.lemmas.List.{length-take-le}
use Rattle.std.proofs.lemmas.Int.{ints}
use Rattle.std.proofs.lemmas.Bool.{and_from, both_ways, eq-eqb, false≢true}
use Rattle.algebra.specs.Field.{Arithmetic, FieldLaws}
use Rattle.algebra.specs.Moduli.{nought}
use Rattle.algebra.specs.Polynomial.{IsDivision, coefficients}
use Rattle.algebra.proofs.Coefficients.{list_polynomial}
use Rattle.algebra.proofs.Residues.{exact_division}
use Rattle.field.specs.declared.Field as field
use Rattle.plan.specs.Accounts.{Account, Within, margin}
use Rattle.plan.specs.Held.{scheme}
use Rattle.plan.specs.Schemes.{IsMessage, Scheme, degree, message_length, positions}
use Rattle.plan.specs.declared.plans.Plan.{Plan}
use Rattle.plan.proofs.Uniqueness.{message_below, message_polynomial}
use Rattle.poly.proofs.Fronts.{front_is}
use Rattle.reader.specs.Finding.{Searched}
use Rattle.reader.specs.Gathering.{GatheredTo, all_below, kept, usable}
use Rattle.reader.specs.declared.joining.Joined.{Joined}
use Rattle.reader.proofs.Completeness.{Gathered, Useless, message_fits, message_found, message_read}
use Rattle.reader.proofs.Gathers.{decides_codes, usable_parts}
use Rattle.reader.proofs.Tables.{codes_of}

module _ {F : Type 0} {fields : field.Ghosts F} (p : Plan F fields) (L : FieldLaws fields.arithmetic) (account : Account) where
  abbrev f : Arithmetic
  f = fields.arithmetic

  abbrev s : Scheme
  s = scheme p

  abbrev keep : ℕ → Bool
  keep = kept s account

  -- A kept position has a residue to use, and one that is not kept is of no use.
  used : (o : Option (List ℕ)) → is_some o ≡ true → (y : List ℕ) × (o ≡ Some y)
  used None e = absurd (false≢true e)
  used (Some y) e = (y, refl)

  left_out : (i : ℕ) (o : Option (List ℕ)) → is_some (usable s i o) ≡ false → Useless s i o
  left_out i None k = tt
  left_out i (Some y) k =
      λ u.
      let fits : (eqb (length y) (degree s i) && all_below f.order y) ≡ true =
      and_from (eqb (length y) (degree s i)) (all_below f.order y) (eq-eqb (length y) (degree s i) u.long) ((decides_codes f L y).1 u.codes) in
      both_ways (is_some (usable s i (Some y))) k (ap (λ (b : Bool). is_some (cond b (Some y) None)) fits)

  module _ (j : Joined F fields) (G : GatheredTo s account (positions s) j.degree (coefficients j.product) (coefficients j.value)) where
    abbrev M : ℕ → ℕ
    M = coefficients j.product

    abbrev Y : ℕ → ℕ
    Y = coefficients j.value

    gathered : Gathered s account keep j.degree M Y
    gathered =
        record {
          kept =
              λ i l k.
              let here = used (usable s i (account i)) k in
              let parts = usable_parts p L account i (account i) here.0 here.1 in
              (here.0, parts.0, record { long = parts.1; codes = parts.2 }, G.congruent i here.0 l here.1);
          left_out = λ i l. left_out i (account i);
          M_is = G.product_is;
          M_degree = j.state.has_degree;
          Y_polynomial = list_polynomial f L j.value j.state.value_codes;
        }

    pub none_by_degree : j.degree < message_length s → (message : List ℕ) → ¬ (Within s account message)
    none_by_degree l a W = omega (arith, message_fits s L p.lawful account keep j.degree M Y gathered a W)

    pub none_by_search : Searched f j.degree (message_length s) M Y None → (message : List ℕ) → ¬ (Within s account message)
    none_by_search X a W =
        X.quotient (coefficients a) (message_polynomial s L p.lawful a W.is_message) (message_below s L p.lawful a W.is_message)
        (message_found s L p.lawful account keep j.degree M Y gathered a W X.r X.t X.stopped)

    -- A candidate is the only message that can lie within the allowance.
    module _ (c : List ℕ) (room : message_length s ≤ length c) (X : Searched f j.degree (message_length s) M Y (Some c)) where
      pub front_message : IsMessage s (take (message_length s) c)
      front_message =
          record {
            long = length-take-le (message_length s) c room;
            codes = codes_of f (take (message_length s) c) (coefficients c) (front_is c (message_length s) X.quotient.1 room) X.quotient.0;
          }

      only_message : (a : List ℕ) → Within s account a → take (message_length s) c ≡ a
      only_message a W =
          let S = X.stopped in
          let exact =
          exact_division f L S.t_degree X.r X.t (coefficients c) S.t_polynomial (list_polynomial f L c X.quotient.0) X.quotient.2 in
          message_read s L p.lawful account keep j.degree M Y gathered a W X.r X.t S S.t_degree nought
          (take (message_length s) c) S.t_has
          (subst (λ (q : ℕ → ℕ). IsDivision f S.t_degree X.r X.t q nought) (sym (front_is c (message_length s) X.quotient.1 room)) exact)
          (length-take-le (message_length s) c room)

      pub none_by_margin : margin s account (take (message_length s) c) <ℤ pos 0 → (message : List ℕ) → ¬ (Within s account message)
      none_by_margin l a W =
          let less : margin s account a <ℤ pos 0 = subst (λ (x : List ℕ). margin s account x <ℤ pos 0) (only_message a W) l in
          omega (arith, ints, W.margin_enough)
