-- What keeps the laws of a field passes the test of a small field.
use Rattle.std.proofs.Common.{◌≡◌, ℕ, ◌<◌, Bool, true, sym, refl, ap, ◌∙◌, subst, arith}
use Rattle.std.proofs.lemmas.Bool.Decides.{nat_tests, Decides-below_and}
use Rattle.algebra.specs.Arithmetics.{on_codes_below, reciprocal}
use Rattle.algebra.specs.Field.{Arithmetic, FieldLaws}
use Rattle.algebra.proofs.Codes.{zero_product}
use Rattle.algebra.proofs.Computed.{all_below}
use Rattle.algebra.proofs.Guarded.{on_code_inside, on_codes_inside, reciprocal_below}
use Rattle.small_field.specs.Tested.{at_code, at_pair, at_triple, passes}

all_pass : (test : ℕ → Bool) (n : ℕ) → ((k : ℕ) → k < n → test k ≡ true) → all_below test n ≡ true
all_pass test n each = (Decides-below_and test (λ k. test k ≡ true) (all_below test) (λ k. (λ e. e, λ e. e)) refl (λ _. refl) n).1 each

module _ (q : ℕ) (plus : ℕ → ℕ → ℕ) (minus : ℕ → ℕ) (times : ℕ → ℕ → ℕ) where
  code_passes : (a : ℕ)
      → minus a < q
      → plus a 0 ≡ a
      → plus a (minus a) ≡ 0
      → times a 1 ≡ a
      → times 0 a ≡ 0
      → (0 < a → times a (reciprocal q times a) ≡ 1)
      → at_code q plus minus times a ≡ true
  code_passes a below zero negative one nothing inverse = grind (arith, nat_tests)

  pair_passes : (a b : ℕ) → plus a b < q → times a b < q → plus a b ≡ plus b a → times a b ≡ times b a → at_pair q plus minus times a b ≡ true
  pair_passes a b sum product turned swapped = grind (arith, nat_tests)

  triple_passes : (a b c : ℕ)
      → plus (plus a b) c ≡ plus a (plus b c)
      → times (times a b) c ≡ times a (times b c)
      → times a (plus b c) ≡ plus (times a b) (times a c)
      → at_triple q plus minus times a b c ≡ true
  triple_passes a b c sums products both = grind (arith, nat_tests)

  abbrev f : Arithmetic
  f = on_codes_below q plus minus times

  module _ (l : FieldLaws f) where
    positive : 0 < q
    positive = omega (arith, l.order_least)

    -- On codes the operations are the plain ones, and their answers are codes.
    sum : (a b : ℕ) → a < q → b < q → f.sum a b ≡ plus a b
    sum a b ha hb = on_codes_inside q plus a b ha hb

    negative : (a : ℕ) → a < q → f.negative a ≡ minus a
    negative a ha = on_code_inside q minus a ha

    product : (a b : ℕ) → a < q → b < q → f.product a b ≡ times a b
    product a b ha hb = on_codes_inside q times a b ha hb

    plus_below : (a b : ℕ) → a < q → b < q → plus a b < q
    plus_below a b ha hb = subst (λ (x : ℕ). x < q) (sum a b ha hb) (l.sum_below a b)

    minus_below : (a : ℕ) → a < q → minus a < q
    minus_below a ha = subst (λ (x : ℕ). x < q) (negative a ha) (l.negative_below a)

    times_below : (a b : ℕ) → a < q → b < q → times a b < q
    times_below a b ha hb = subst (λ (x : ℕ). x < q) (product a b ha hb) (l.product_below a b)

    plus_minus : (a : ℕ) → a < q → plus a (minus a) ≡ 0
    plus_minus a ha = sym (sum a (minus a) ha (minus_below a ha)) ∙ ap (f.sum a) (sym (negative a ha)) ∙ l.sum_negative a ha

    times_reciprocal : (a : ℕ) → a < q → 0 < a → times a (reciprocal q times a) ≡ 1
    times_reciprocal a ha h =
        sym (product a (reciprocal q times a) ha (reciprocal_below q times a positive))
        ∙ ap (f.product a) (sym (on_code_inside q (reciprocal q times) a ha))
        ∙ l.product_inverse a ha h

    code : (a : ℕ) → a < q → at_code q plus minus times a ≡ true
    code a ha =
        code_passes a
        (minus_below a ha)
        (sym (sum a 0 ha positive) ∙ l.sum_zero a ha)
        (plus_minus a ha)
        (sym (product a 1 ha (omega (arith, l.order_least))) ∙ l.product_one a ha)
        (sym (product 0 a positive ha) ∙ zero_product f l a ha)
        (times_reciprocal a ha)

    pair : (a b : ℕ) → a < q → b < q → at_pair q plus minus times a b ≡ true
    pair a b ha hb =
        pair_passes a b
        (plus_below a b ha hb)
        (times_below a b ha hb)
        (sym (sum a b ha hb) ∙ l.sum_comm a b ha hb ∙ sum b a hb ha)
        (sym (product a b ha hb) ∙ l.product_comm a b ha hb ∙ product b a hb ha)

    triple : (a b c : ℕ) → a < q → b < q → c < q → at_triple q plus minus times a b c ≡ true
    triple a b c ha hb hc =
        triple_passes a b c
        (sym (sum (plus a b) c (plus_below a b ha hb) hc)
        ∙ ap (λ x. f.sum x c) (sym (sum a b ha hb))
        ∙ l.sum_assoc a b c ha hb hc
        ∙ ap (f.sum a) (sum b c hb hc)
        ∙ sum a (plus b c) ha (plus_below b c hb hc))
        (sym (product (times a b) c (times_below a b ha hb) hc)
        ∙ ap (λ x. f.product x c) (sym (product a b ha hb))
        ∙ l.product_assoc a b c ha hb hc
        ∙ ap (f.product a) (product b c hb hc)
        ∙ product a (times b c) ha (times_below b c hb hc))
        (sym (product a (plus b c) ha (plus_below b c hb hc))
        ∙ ap (f.product a) (sym (sum b c hb hc))
        ∙ l.distributes a b c ha hb hc
        ∙ ap (λ x. f.sum x (f.product a c)) (product a b ha hb)
        ∙ ap (f.sum (times a b)) (product a c ha hc)
        ∙ sum (times a b) (times a c) (times_below a b ha hb) (times_below a c ha hc))

    codes : all_below (at_code q plus minus times) q ≡ true
    codes = all_pass (at_code q plus minus times) q code

    pairs : all_below (λ a. all_below (at_pair q plus minus times a) q) q ≡ true
    pairs =
        all_pass (λ a. all_below (at_pair q plus minus times a) q) q
        (λ a ha. all_pass (at_pair q plus minus times a) q (λ b hb. pair a b ha hb))

    triples : all_below (λ a. all_below (λ b. all_below (at_triple q plus minus times a b) q) q) q ≡ true
    triples =
        all_pass (λ a. all_below (λ b. all_below (at_triple q plus minus times a b) q) q) q
        (λ a ha. all_pass (λ b. all_below (at_triple q plus minus times a b) q) q
        (λ b hb. all_pass (at_triple q plus minus times a b) q (λ c hc. triple a b c ha hb hc)))

    -- What is a field passes.
    pub passing : passes q plus minus times ≡ true
    passing = grind (arith, nat_tests, codes, pairs, triples, l.order_least, l.order_most)
