-- Where no law is broken there is a field, and where one is there is none.
use Rattle.std.proofs.Common.{◌≡◌, ℕ, ◌<◌, true, Ok, Err, MatchResult, Result, arith}
use Rattle.algebra.specs.Arithmetics.{reciprocal}
use Rattle.algebra.specs.Field.{FieldLaws}
use Rattle.algebra.proofs.Guarded.{field_laws, reciprocal_below, reciprocal_passes}
use Rattle.small_field.specs.Candidates.{Breaks, Decided, candidate, minus, plus, times}
use Rattle.small_field.specs.Stages.{AllHold, CodeHolds, PairHolds, TripleHolds}
use Rattle.small_field.specs.Tested.{passes}
use Rattle.small_field.specs.declared.broken.Broken.{Broken}
use Rattle.small_field.specs.declared.broken.Broken.TheVariants.{Order, NegativeNoCode, SumWithZero, SumWithNegative, ProductWithOne, ProductWithZero, NoInverse, SumNoCode, ProductNoCode, SumTurned, ProductTurned, SumRegrouped, ProductRegrouped, Distribution}
use Rattle.small_field.specs.declared.tables.Tables.{Tables}
use Rattle.small_field.proofs.Passed.{code_laws, codes, pair_laws, pairs, triple_laws, triples}
use Rattle.small_field.proofs.Passing.{passing}

module _ (t : Tables) where
  abbrev q : ℕ
  q = t.order

  field_found : AllHold t → FieldLaws (candidate t)
  field_found all =
      field_laws record {
        least = all.least;
        most = all.most;
        plus_below = λ a b ha hb. (all.pairs a b ha hb).sum_below;
        minus_below = λ a h. (all.codes a h).below;
        times_below = λ a b ha hb. (all.pairs a b ha hb).product_below;
        plus_assoc = λ a b c ha hb hc. (all.triples a b c ha hb hc).sum_regrouped;
        plus_comm = λ a b ha hb. (all.pairs a b ha hb).sum_turned;
        plus_zero = λ a h. (all.codes a h).zero;
        plus_minus = λ a h. (all.codes a h).negative;
        times_assoc = λ a b c ha hb hc. (all.triples a b c ha hb hc).product_regrouped;
        times_comm = λ a b ha hb. (all.pairs a b ha hb).product_turned;
        times_one = λ a h. (all.codes a h).one;
        times_plus = λ a b c ha hb hc. (all.triples a b c ha hb hc).distributes;
        times_reciprocal = λ a h p. let by = (all.codes a h).inverse p in reciprocal_passes q (times t) a by.0 by.1 by.2;
        times_zero = λ b h. (all.codes b h).nothing;
      }

  module _ (l : FieldLaws (candidate t)) where
    test : passes q (plus t) (minus t) (times t) ≡ true
    test = passing q (plus t) (minus t) (times t) l

    code_holds : (a : ℕ) → a < q → CodeHolds t a
    code_holds a ha =
        let laws = code_laws q (plus t) (minus t) (times t) a (codes q (plus t) (minus t) (times t) test a ha) in
        record {
          below = laws.0;
          zero = laws.1;
          negative = laws.2;
          one = laws.3;
          nothing = laws.4;
          inverse = λ p. (reciprocal q (times t) a, reciprocal_below q (times t) a (omega (arith, ha)), laws.5 p);
        }

    pair_holds : (a b : ℕ) → a < q → b < q → PairHolds t a b
    pair_holds a b ha hb =
        let laws = pair_laws q (plus t) (minus t) (times t) a b (pairs q (plus t) (minus t) (times t) test a b ha hb) in
        record { sum_below = laws.0; product_below = laws.1; sum_turned = laws.2; product_turned = laws.3 }

    triple_holds : (a b c : ℕ) → a < q → b < q → c < q → TripleHolds t a b c
    triple_holds a b c ha hb hc =
        let laws = triple_laws q (plus t) (minus t) (times t) a b c (triples q (plus t) (minus t) (times t) test a b c ha hb hc) in
        record { sum_regrouped = laws.0; product_regrouped = laws.1; distributes = laws.2 }

  no_field : (law : Broken) → Breaks t law → FieldLaws (candidate t) → ⊥
  no_field Order h l = h (l.order_least, l.order_most)
  no_field (NegativeNoCode a) h l = omega (arith, h.1, (code_holds l a h.0).below)
  no_field (SumWithZero a) h l = h.1 (code_holds l a h.0).zero
  no_field (SumWithNegative a) h l = h.1 (code_holds l a h.0).negative
  no_field (ProductWithOne a) h l = h.1 (code_holds l a h.0).one
  no_field (ProductWithZero a) h l = h.1 (code_holds l a h.0).nothing
  no_field (NoInverse a) h l = let by = (code_holds l a h.0).inverse h.1 in h.2 by.0 by.1 by.2
  no_field (SumNoCode a b) h l = omega (arith, h.2, (pair_holds l a b h.0 h.1).sum_below)
  no_field (ProductNoCode a b) h l = omega (arith, h.2, (pair_holds l a b h.0 h.1).product_below)
  no_field (SumTurned a b) h l = h.2 (pair_holds l a b h.0 h.1).sum_turned
  no_field (ProductTurned a b) h l = h.2 (pair_holds l a b h.0 h.1).product_turned
  no_field (SumRegrouped a b c) h l = h.3 (triple_holds l a b c h.0 h.1 h.2).sum_regrouped
  no_field (ProductRegrouped a b c) h l = h.3 (triple_holds l a b c h.0 h.1 h.2).product_regrouped
  no_field (Distribution a b c) h l = h.3 (triple_holds l a b c h.0 h.1 h.2).distributes

  -- What the search answers decides.
  pub decided : (r : Result (Unit {0}) Broken) → MatchResult r (λ _. AllHold t) (Breaks t) → Decided t r
  decided (Ok done) all = field_found all
  decided (Err law) broken = (broken, no_field law broken)
