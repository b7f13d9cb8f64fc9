-- The laws of a field from the laws on its codes alone: operations that answer 0 outside the codes keep them all.
use Rattle.std.proofs.Common.{◌≡◌, ℕ, zero, suc, ◌<◌, ◌≤◌, Bool, true, false, cond, eqb, ltb, ◌⊎◌, sym, refl, ap, ◌∙◌, subst, inl, inr, ⊎_elim, arith}
use Rattle.std.proofs.lemmas.Bool.{lt-ltb, le-ltb, cases_lt, cases_order, cond_both, cond-false, both_ways, eqb-true, eq-eqb, ne_eqb}
use Rattle.algebra.specs.Arithmetics.{on_code, on_codes, on_codes_below, such_that, reciprocal}
use Rattle.algebra.specs.Field.{FieldLaws, largest_order}

-- What a sum, a negative and a product have to show of the codes below q.
pub record LawsOnCodes (q : ℕ) (plus : ℕ → ℕ → ℕ) (minus : ℕ → ℕ) (times : ℕ → ℕ → ℕ) : Type 0 where
  pub least : 2 ≤ q
  pub most : q ≤ largest_order
  pub plus_below : (a b : ℕ) → a < q → b < q → plus a b < q
  pub minus_below : (a : ℕ) → a < q → minus a < q
  pub times_below : (a b : ℕ) → a < q → b < q → times a b < q
  pub plus_assoc : (a b c : ℕ) → a < q → b < q → c < q → plus (plus a b) c ≡ plus a (plus b c)
  pub plus_comm : (a b : ℕ) → a < q → b < q → plus a b ≡ plus b a
  pub plus_zero : (a : ℕ) → a < q → plus a 0 ≡ a
  pub plus_minus : (a : ℕ) → a < q → plus a (minus a) ≡ 0
  pub times_assoc : (a b c : ℕ) → a < q → b < q → c < q → times (times a b) c ≡ times a (times b c)
  pub times_comm : (a b : ℕ) → a < q → b < q → times a b ≡ times b a
  pub times_one : (a : ℕ) → a < q → times a 1 ≡ a
  pub times_plus : (a b c : ℕ) → a < q → b < q → c < q → times a (plus b c) ≡ plus (times a b) (times a c)
  pub times_reciprocal : (a : ℕ) → a < q → 0 < a → times a (reciprocal q times a) ≡ 1
  pub times_zero : (b : ℕ) → b < q → times 0 b ≡ 0

such_that_below : (test : ℕ → Bool) (n m : ℕ) → n ≤ m → 0 < m → such_that test n < m
unfolding such_that
such_that_below test zero m h p = p
such_that_below test (suc n) m h p =
    cond_both (test n) n (such_that test n) (λ x. x < m) (λ _. omega arith) (λ _. such_that_below test n m (omega arith) p)

pub reciprocal_below : (q : ℕ) (times : ℕ → ℕ → ℕ) (a : ℕ) → 0 < q → reciprocal q times a < q
unfolding reciprocal
reciprocal_below q times a p = such_that_below (λ b. eqb (times a b) 1) q q (omega arith) p

such_that_passes : (test : ℕ → Bool) (n k : ℕ) → k < n → test k ≡ true → test (such_that test n) ≡ true
unfolding such_that
such_that_passes test zero k h t = absurd (omega arith)
such_that_passes test (suc n) k h t =
    cond_both (test n) n (such_that test n) (λ x. test x ≡ true) (λ e. e) (λ e. such_that_passes test n k (below e (cases_order k n)) t)
  where
    below : test n ≡ false → (k ≡ n) ⊎ ((k < n) ⊎ (n < k)) → k < n
    below e (inl same) = absurd (both_ways (test n) e (ap test (sym same) ∙ t))
    below e (inr (inl less)) = less
    below e (inr (inr more)) = absurd (omega arith)

-- A code that has an inverse b among the codes has the reciprocal for one.
pub reciprocal_passes : (q : ℕ) (times : ℕ → ℕ → ℕ) (a b : ℕ) → b < q → times a b ≡ 1 → times a (reciprocal q times a) ≡ 1
unfolding reciprocal
reciprocal_passes q times a b h e =
    eqb-true (times a (reciprocal q times a)) 1 (such_that_passes (λ b. eqb (times a b) 1) q b h (eq-eqb (times a b) 1 e))

such_that_none : (test : ℕ → Bool) (n : ℕ) → ((k : ℕ) → k < n → test k ≡ false) → such_that test n ≡ 0
unfolding such_that
such_that_none test zero fails = refl
such_that_none test (suc n) fails = cond-false (test n) n (such_that test n) (fails n (omega arith)) ∙ such_that_none test n (λ k h. fails k (omega arith))

reciprocal_zero : (q : ℕ) (times : ℕ → ℕ → ℕ) → ((b : ℕ) → b < q → times 0 b ≡ 0) → reciprocal q times 0 ≡ 0
unfolding reciprocal
reciprocal_zero q times zeros =
    such_that_none (λ b. eqb (times 0 b) 1) q (λ k h. ne_eqb (times 0 k) 1 (λ e. let z = zeros k h in omega arith))

-- An operation at a code, and at a number that is none.
module _ (q : ℕ) (g : ℕ → ℕ) (a : ℕ) where
  pub on_code_inside : a < q → on_code q g a ≡ g a
  on_code_inside h = rw lt-ltb refl

  pub on_code_outside : q ≤ a → on_code q g a ≡ 0
  on_code_outside h = rw le-ltb refl

module _ (q : ℕ) (g : ℕ → ℕ → ℕ) (a b : ℕ) where
  pub on_codes_inside : a < q → b < q → on_codes q g a b ≡ g a b
  on_codes_inside h k = ap (λ t. cond t (cond (ltb b q) (g a b) 0) 0) (lt-ltb a q h) ∙ ap (λ t. cond t (g a b) 0) (lt-ltb b q k)

  pub on_codes_outside_left : q ≤ a → on_codes q g a b ≡ 0
  on_codes_outside_left h = ap (λ t. cond t (cond (ltb b q) (g a b) 0) 0) (le-ltb a q h)

  pub on_codes_outside_right : q ≤ b → on_codes q g a b ≡ 0
  on_codes_outside_right h =
      ap (λ t. cond (ltb a q) (cond t (g a b) 0) 0) (le-ltb b q h)
      ∙ cond_both (ltb a q) 0 0 (λ (x : ℕ). x ≡ 0) (λ _. refl) (λ _. refl)

-- Answers lie below q, outside the codes too.
on_code_below : (q : ℕ) (g : ℕ → ℕ) → 0 < q → ((a : ℕ) → a < q → g a < q) → (a : ℕ) → on_code q g a < q
on_code_below q g p below a =
    ⊎_elim
    (λ h. subst (λ (x : ℕ). x < q) (sym (on_code_inside q g a h)) (below a h))
    (λ h. subst (λ (x : ℕ). x < q) (sym (on_code_outside q g a h)) p)
    (cases_lt a q)

on_codes_below_order : (q : ℕ) (g : ℕ → ℕ → ℕ) → 0 < q → ((a b : ℕ) → a < q → b < q → g a b < q) → (a b : ℕ) → on_codes q g a b < q
on_codes_below_order q g p below a b =
    ⊎_elim
    (λ h. ⊎_elim
    (λ k. subst (λ (x : ℕ). x < q) (sym (on_codes_inside q g a b h k)) (below a b h k))
    (λ k. subst (λ (x : ℕ). x < q) (sym (on_codes_outside_right q g a b k)) p)
    (cases_lt b q))
    (λ h. subst (λ (x : ℕ). x < q) (sym (on_codes_outside_left q g a b h)) p)
    (cases_lt a q)

-- An operation inside another: on the codes below q both are the plain ones.
module _ (q : ℕ) (g h : ℕ → ℕ → ℕ) (below : (a b : ℕ) → a < q → b < q → h a b < q) (a b c : ℕ) (ha : a < q) (hb : b < q) (hc : c < q) where
  nested_left : on_codes q g (on_codes q h a b) c ≡ g (h a b) c
  nested_left = ap (λ x. on_codes q g x c) (on_codes_inside q h a b ha hb) ∙ on_codes_inside q g (h a b) c (below a b ha hb) hc

  nested_right : on_codes q g a (on_codes q h b c) ≡ g a (h b c)
  nested_right = ap (on_codes q g a) (on_codes_inside q h b c hb hc) ∙ on_codes_inside q g a (h b c) ha (below b c hb hc)

module _ {q : ℕ} {plus : ℕ → ℕ → ℕ} {minus : ℕ → ℕ} {times : ℕ → ℕ → ℕ} (l : LawsOnCodes q plus minus times) where
  positive : 0 < q
  positive = omega (arith, l.least)

  pub field_laws : FieldLaws (on_codes_below q plus minus times)
  field_laws =
      record {
        order_least = l.least;
        order_most = l.most;
        sum_below = on_codes_below_order q plus positive l.plus_below;
        negative_below = on_code_below q minus positive l.minus_below;
        product_below = on_codes_below_order q times positive l.times_below;
        inverse_below = on_code_below q (reciprocal q times) positive (λ a _. reciprocal_below q times a positive);
        sum_assoc = λ a b c ha hb hc.
            nested_left q plus plus l.plus_below a b c ha hb hc
            ∙ l.plus_assoc a b c ha hb hc
            ∙ sym (nested_right q plus plus l.plus_below a b c ha hb hc);
        sum_comm = λ a b ha hb. on_codes_inside q plus a b ha hb ∙ l.plus_comm a b ha hb ∙ sym (on_codes_inside q plus b a hb ha);
        sum_zero = λ a ha. on_codes_inside q plus a 0 ha positive ∙ l.plus_zero a ha;
        sum_negative = λ a ha.
            ap (on_codes q plus a) (on_code_inside q minus a ha)
            ∙ on_codes_inside q plus a (minus a) ha (l.minus_below a ha)
            ∙ l.plus_minus a ha;
        product_assoc = λ a b c ha hb hc.
            nested_left q times times l.times_below a b c ha hb hc
            ∙ l.times_assoc a b c ha hb hc
            ∙ sym (nested_right q times times l.times_below a b c ha hb hc);
        product_comm = λ a b ha hb. on_codes_inside q times a b ha hb ∙ l.times_comm a b ha hb ∙ sym (on_codes_inside q times b a hb ha);
        product_one = λ a ha. on_codes_inside q times a 1 ha (omega (arith, l.least)) ∙ l.times_one a ha;
        product_inverse = λ a ha h.
            ap (on_codes q times a) (on_code_inside q (reciprocal q times) a ha)
            ∙ on_codes_inside q times a (reciprocal q times a) ha (reciprocal_below q times a positive)
            ∙ l.times_reciprocal a ha h;
        distributes = λ a b c ha hb hc.
            nested_right q times plus l.plus_below a b c ha hb hc
            ∙ l.times_plus a b c ha hb hc
            ∙ sym (on_codes_inside q plus (times a b) (times a c) (l.times_below a b ha hb) (l.times_below a c ha hc))
            ∙ ap (λ x. on_codes q plus x (times a c)) (sym (on_codes_inside q times a b ha hb))
            ∙ ap (on_codes q plus (on_codes q times a b)) (sym (on_codes_inside q times a c ha hc));
        inverse_of_zero = on_code_inside q (reciprocal q times) 0 positive ∙ reciprocal_zero q times l.times_zero;
        sum_outside_left = on_codes_outside_left q plus;
        sum_outside_right = on_codes_outside_right q plus;
        negative_outside = on_code_outside q minus;
        product_outside_left = on_codes_outside_left q times;
        product_outside_right = on_codes_outside_right q times;
        inverse_outside = on_code_outside q (reciprocal q times);
      }
