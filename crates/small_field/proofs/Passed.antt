-- What passes the test of a small field keeps the laws.
use Rattle.std.proofs.Common.{◌≡◌, ℕ, ◌<◌, true, arith}
use Rattle.std.proofs.lemmas.Bool.Decides.{nat_tests}
use Rattle.algebra.specs.Arithmetics.{on_codes_below, reciprocal}
use Rattle.algebra.specs.Field.{FieldLaws}
use Rattle.algebra.proofs.Computed.{all_below, passes_below}
use Rattle.algebra.proofs.Guarded.{field_laws}
use Rattle.small_field.specs.Tested.{at_code, at_pair, at_triple, passes}

module _ (q : ℕ) (plus : ℕ → ℕ → ℕ) (minus : ℕ → ℕ) (times : ℕ → ℕ → ℕ) where
  pub code_laws : (a : ℕ) → at_code q plus minus times a ≡ true
      → (minus a < q)
      × (plus a 0 ≡ a)
      × (plus a (minus a) ≡ 0)
      × (times a 1 ≡ a)
      × (times 0 a ≡ 0)
      × (0 < a → times a (reciprocal q times a) ≡ 1)
  code_laws a h = grind (arith, nat_tests)

  pub pair_laws : (a b : ℕ) → at_pair q plus minus times a b ≡ true → (plus a b < q) × (times a b < q) × (plus a b ≡ plus b a) × (times a b ≡ times b a)
  pair_laws a b h = grind (arith, nat_tests)

  pub triple_laws : (a b c : ℕ) → at_triple q plus minus times a b c ≡ true
      → (plus (plus a b) c ≡ plus a (plus b c))
      × (times (times a b) c ≡ times a (times b c))
      × (times a (plus b c) ≡ plus (times a b) (times a c))
  triple_laws a b c h = grind (arith, nat_tests)

  module _ (test : passes q plus minus times ≡ true) where
    pub codes : (a : ℕ) → a < q → at_code q plus minus times a ≡ true
    codes = passes_below (at_code q plus minus times) q (grind (arith, nat_tests))

    pub pairs : (a b : ℕ) → a < q → b < q → at_pair q plus minus times a b ≡ true
    pairs a b ha hb = passes_below (at_pair q plus minus times a) q (passes_below (λ a. all_below (at_pair q plus minus times a) q) q (grind (arith, nat_tests)) a ha) b hb

    pub triples : (a b c : ℕ) → a < q → b < q → c < q → at_triple q plus minus times a b c ≡ true
    triples a b c ha hb hc =
        passes_below (at_triple q plus minus times a b) q
        (passes_below (λ b. all_below (at_triple q plus minus times a b) q) q
        (passes_below (λ a. all_below (λ b. all_below (at_triple q plus minus times a b) q) q) q (grind (arith, nat_tests)) a ha)
        b hb)
        c hc

    -- What passes is a field.
    pub passed : FieldLaws (on_codes_below q plus minus times)
    passed =
        let code = λ (a : ℕ) (h : a < q). code_laws a (codes a h) in
        let pair = λ (a b : ℕ) (ha : a < q) (hb : b < q). pair_laws a b (pairs a b ha hb) in
        let triple = λ (a b c : ℕ) (ha : a < q) (hb : b < q) (hc : c < q). triple_laws a b c (triples a b c ha hb hc) in
        field_laws record {
          least = grind (arith, nat_tests);
          most = grind (arith, nat_tests);
          plus_below = λ a b ha hb. (pair a b ha hb).0;
          minus_below = λ a h. (code a h).0;
          times_below = λ a b ha hb. (pair a b ha hb).1;
          plus_assoc = λ a b c ha hb hc. (triple a b c ha hb hc).0;
          plus_comm = λ a b ha hb. (pair a b ha hb).2;
          plus_zero = λ a h. (code a h).1;
          plus_minus = λ a h. (code a h).2;
          times_assoc = λ a b c ha hb hc. (triple a b c ha hb hc).1;
          times_comm = λ a b ha hb. (pair a b ha hb).3;
          times_one = λ a h. (code a h).3;
          times_plus = λ a b c ha hb hc. (triple a b c ha hb hc).2;
          times_reciprocal = λ a h. (code a h).5;
          times_zero = λ b h. (code b h).4;
        }
