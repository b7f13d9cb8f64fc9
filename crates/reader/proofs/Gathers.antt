-- One more position gathered, kept or not.
use Rattle.std.proofs.Common.{◌≡◌, ℕ, zero, suc, ◌+◌, ◌<◌, ◌≤◌, Bool, true, false, cond, eqb, ltb, List, [], ◌∷◌, length, take, is_some, Some, None, Option, Decides, sym, refl, ap, ◌∙◌, subst, add-one, arith}
use native.Mathlib.Decide.{dec_lt}
use Rattle.std.proofs.lemmas.List.{length-take-le}
use Rattle.std.proofs.lemmas.Bool.{and_from, and_parts, cond-false, cond-true, eqb-true, lt-ltb, ltb-true}
use Rattle.algebra.specs.Field.{Arithmetic, FieldLaws}
use Rattle.algebra.specs.Moduli.{Congruent, Coprime, chosen, chosen_degrees, nought, one, product_of, total}
use Rattle.algebra.specs.Polynomial.{Divides, coefficients, multiply}
use Rattle.algebra.specs.Theorems.{Moduli}
use Rattle.algebra.proofs.Codes.{zero_below}
use Rattle.algebra.proofs.Coefficients.{degree_of_one, list_polynomial, multiply_one, one_polynomial}
use Rattle.algebra.proofs.Residues.{congruent_divisor, congruent_trans, coprime_all, coprime_sym, member_divides, product_of_next, product_of_none, product_of_polynomial}
use Rattle.algebra.proofs.Selections.{chosen_moduli, chosen_total, pairwise}
use Rattle.field.specs.declared.Field as field
use Rattle.plan.specs.Accounts.{Account}
use Rattle.plan.specs.Held.{scheme}
use Rattle.plan.specs.Limits.{modulus_codes}
use Rattle.plan.specs.Schemes.{IsModulus, Scheme, degree, degree_of, extent, modulus, positions, start}
use Rattle.plan.specs.declared.plans.Plan.{Plan}
use Rattle.plan.proofs.Sizes.{extent_length, start_sum}
use Rattle.plan.proofs.Tallies.{over_total}
use Rattle.plan.proofs.Trimmed.{trimmed}
use Rattle.plan.proofs.Uniqueness.{scheme_moduli, scheme_polynomial}
use Rattle.poly.specs.Slices.{Codes}
use Rattle.reader.specs.Gathering.{GatheredTo, all_below, is_usable, kept, usable}
use Rattle.reader.specs.Joining.{JoinedBy}
use Rattle.reader.specs.States.{IsPair, IsState}
use Rattle.reader.specs.declared.joining.Joined.{Joined}
use Rattle.reader.proofs.Tables.{codes_of}

pub decides_codes : (f : Arithmetic) (L : FieldLaws f) (xs : List ℕ) → Decides (all_below f.order xs) (Codes f xs)
decides_codes f L xs = (codes xs, below xs)
  where
    codes : (xs : List ℕ) → all_below f.order xs ≡ true → Codes f xs
    codes [] e i = zero_below f L
    codes (x ∷ xs) e zero = ltb-true x f.order (and_parts (ltb x f.order) (all_below f.order xs) e).0
    codes (x ∷ xs) e (suc i) = codes xs (and_parts (ltb x f.order) (all_below f.order xs) e).1 i

    below : (xs : List ℕ) → Codes f xs → all_below f.order xs ≡ true
    below [] h = refl
    below (x ∷ xs) h = and_from (ltb x f.order) (all_below f.order xs) (lt-ltb x f.order (h 0)) (below xs (λ i. h (suc i)))

-- A position's modulus without the zeros after its leading code, and its residue, are a pair to join.
pub pair_here : (f : Arithmetic) (modulus ms ys : List ℕ) → IsModulus f modulus → ms ≡ take (extent modulus) modulus → length ms ≤ modulus_codes
    → length ys ≡ degree_of modulus → Codes f ys → (coefficients ms ≡ coefficients modulus) × IsPair f ms ys
pair_here f modulus ms ys lawful is short d residue_codes =
    let front : coefficients ms ≡ coefficients modulus = ap coefficients is ∙ trimmed modulus (extent modulus) (omega arith) in
    let proper = lawful.proper in
    let count : length ms ≡ length ys + 1 =
    ap length is ∙ length-take-le (extent modulus) modulus (extent_length modulus) ∙ omega arith in (
      front,
      record {
        least = omega arith;
        long = count;
        short = short;
        monic = ap (λ (p : ℕ → ℕ). p (length ys)) front ∙ ap (coefficients modulus) d ∙ lawful.leading;
        codes = codes_of f ms (coefficients modulus) front lawful.codes;
        residue_codes = residue_codes;
      },
    )

-- M = 1 and Y = 0.
pub started : (f : Arithmetic) (L : FieldLaws f) (product value : List ℕ) → coefficients product ≡ one → coefficients value ≡ nought → IsState f product value 0
started f L product value p v =
    record {
      fits = omega arith;
      product_codes = codes_of f product one p (one_polynomial f L).codes;
      value_codes = codes_of f value nought v (λ i. zero_below f L);
      has_degree = rw p (degree_of_one f L);
      below = λ i l. ap (λ (x : ℕ → ℕ). x i) v;
    }

module _ {F : Type 0} {fields : field.Ghosts F} (p : Plan F fields) (L : FieldLaws fields.arithmetic) (account : Account) where
  abbrev f : Arithmetic
  f = fields.arithmetic

  abbrev s : Scheme
  s = scheme p

  abbrev keep : ℕ → Bool
  keep = kept s account

  abbrev m : ℕ → ℕ → ℕ
  m i = coefficients (modulus s i)

  abbrev d : ℕ → ℕ
  d = chosen_degrees keep (degree s)

  family : Moduli f (positions s) (chosen keep m) d
  family = chosen_moduli f L (positions s) m (degree s) keep (scheme_moduli s L p.lawful)

  -- The product of the kept moduli before position n.
  abbrev product : ℕ → ℕ → ℕ
  product = product_of f (chosen keep m)

  -- What is used is what has arrived, with as many numbers as the position, all of them codes.
  pub usable_parts : (i : ℕ) (o : Option (List ℕ)) (y : List ℕ) → usable s i o ≡ Some y → (o ≡ Some y) × (length y ≡ degree s i) × Codes f y
  usable_parts i None y e = absurd (cc e)
  usable_parts i (Some x) y e = go (is_usable s i x) refl e
    where
      go : (b : Bool) → is_usable s i x ≡ b → cond b (Some x) None ≡ Some y
          → (Some x ≡ Some y) × (length y ≡ degree s i) × Codes f y
      go false t e = absurd (cc e)
      go true t e =
          let same : x ≡ y = cc in
          let both = and_parts (eqb (length x) (degree s i)) (all_below f.order x) t in
          (e, rw (sym same) (eqb-true (length x) (degree s i) both.0), rw (sym same) ((decides_codes f L x).0 both.1))

  -- The kept degrees before position n are no more than all of them.
  pub gathered_most : (n D : ℕ) (M Y : ℕ → ℕ) → n ≤ positions s → GatheredTo s account n D M Y → D ≤ start s n
  gathered_most n D M Y l G = omega (arith, G.degree_is, chosen_total keep (degree s) n, over_total (degree s) n, start_sum s n l)

  total_next : (n : ℕ) → total d (suc n) ≡ total d n + cond (keep n) (degree s n) 0
  unfolding total
  total_next n = refl

  pub gathered_none : (M Y : ℕ → ℕ) → M ≡ one → GatheredTo s account 0 0 M Y
  unfolding total
  gathered_none M Y e =
      record { degree_is = refl; product_is = e ∙ sym (product_of_none f L (chosen keep m)); congruent = λ i y l. absurd (omega arith) }

  -- What holds before n, and at n if it is kept, holds before n + 1.
  more : (P : ℕ → List ℕ → Type 0) (n : ℕ) → ((i : ℕ) (y : List ℕ) → i < n → usable s i (account i) ≡ Some y → P i y)
      → ((y : List ℕ) → usable s n (account n) ≡ Some y → P n y) → (i : ℕ) (y : List ℕ) → i < n + 1 → usable s i (account i) ≡ Some y → P i y
  more P n before here i y l u =
      elim (dec_lt i n) [
        | yes g ↦ before i y g u
        | no g ↦
            let e : i ≡ n = omega arith in
            subst (λ (k : ℕ). P k y) (sym e) (here y (ap (λ (k : ℕ). usable s k (account k)) (sym e) ∙ u))
      ]

  pub gathered_left : (n D : ℕ) (M Y : ℕ → ℕ) → usable s n (account n) ≡ None → GatheredTo s account n D M Y → GatheredTo s account (n + 1) D M Y
  gathered_left n D M Y u G =
      let k : keep n ≡ false = ap is_some u in
      record {
        degree_is = omega (arith, G.degree_is, ap (total d) (add-one n), total_next n, cond-false (keep n) (degree s n) 0 k);
        product_is =
            G.product_is
            ∙ sym (multiply_one f L (product n) (product_of_polynomial f L (chosen keep m) n family.polynomial))
            ∙ ap (multiply f (product n)) (sym (cond-false (keep n) (m n) one k))
            ∙ sym (product_of_next f L (chosen keep m) n)
            ∙ ap product (sym (add-one n));
        congruent =
            more (λ i y. Congruent f (m i) Y (coefficients y)) n G.congruent (λ y e. absurd (cc (u, e)));
      }

  module _ (n : ℕ) (l : n < positions s) (j j' : Joined F fields) (ms ys : List ℕ)
      (G : GatheredTo s account n j.degree (coefficients j.product) (coefficients j.value)) (J : JoinedBy ms ys j j')
      (u : usable s n (account n) ≡ Some ys) (same_modulus : coefficients ms ≡ m n) where
    k : keep n ≡ true
    k = ap is_some u

    chosen_here : chosen keep m n ≡ m n
    chosen_here = cond-true (keep n) (m n) one k

    -- The next modulus is coprime to the product of the kept ones before it.
    apart : Coprime f (product n) (m n)
    apart =
        let hm = family.polynomial in
        let hM = product_of_polynomial f L (chosen keep m) n hm in
        subst (Coprime f (product n)) chosen_here
        (coprime_sym f L (chosen keep m n) (product n) (hm n) hM
        (coprime_all f L (chosen keep m n) (chosen keep m) n (hm n) hm
        (λ i b.
        coprime_sym f L (chosen keep m i) (chosen keep m n) (hm i) (hm n)
        (pairwise f L (positions s) (chosen keep m) d family i n b l))))

    new : (y : List ℕ) → usable s n (account n) ≡ Some y → Congruent f (m n) (coefficients j'.value) (coefficients y)
    new y e =
        let same : ys ≡ y = cc (u, e) in
        subst (λ (y : List ℕ). Congruent f (m n) (coefficients j'.value) (coefficients y)) same
        (subst (λ (x : ℕ → ℕ). Congruent f x (coefficients j'.value) (coefficients ys)) same_modulus
        (J.new (rw (same_modulus, G.product_is) apart)))

    old : (i : ℕ) (y : List ℕ) → i < n → usable s i (account i) ≡ Some y → Congruent f (m i) (coefficients j'.value) (coefficients y)
    old i y b e =
        let hm = scheme_polynomial s L p.lawful i in
        let hM = list_polynomial f L j.product j.state.product_codes in
        let hY = list_polynomial f L j.value j.state.value_codes in
        let hY' = list_polynomial f L j'.value j'.state.value_codes in
        let divides =
        subst (λ (x : ℕ → ℕ). Divides f x (product n)) (cond-true (keep i) (m i) one (ap is_some e))
        (member_divides f L (chosen keep m) n i family.polynomial b) in
        congruent_trans f L (m i) (coefficients j'.value) (coefficients j.value) (coefficients y) hm hY' hY
        (list_polynomial f L y (usable_parts i (account i) y e).2)
        (congruent_divisor f L (m i) (coefficients j.product) (coefficients j'.value) (coefficients j.value) hm hM hY' hY
        (rw G.product_is divides) J.old)
        (G.congruent i y b e)

    pub gathered_joined : GatheredTo s account (n + 1) j'.degree (coefficients j'.product) (coefficients j'.value)
    gathered_joined =
        record {
          degree_is =
              omega (arith, J.degree_is, G.degree_is, (usable_parts n (account n) ys u).1, ap (total d) (add-one n), total_next n, cond-true (keep n) (degree s n) 0 k);
          product_is =
              J.product_is ∙ ap (λ (x : ℕ → ℕ). multiply f x (coefficients ms)) G.product_is
              ∙ ap (multiply f (product n)) (same_modulus ∙ sym chosen_here)
              ∙ sym (product_of_next f L (chosen keep m) n)
              ∙ ap product (sym (add-one n));
          congruent = more (λ i y. Congruent f (m i) (coefficients j'.value) (coefficients y)) n old new;
        }
