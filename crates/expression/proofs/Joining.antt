-- Terms of factors and sums of terms: what is read so far, a sign and the next part make one phrase, and where the next part stops,
-- so does the whole.
use Rattle.std.proofs.Common.{◌≡◌, ℕ, ◌+◌, ◌<◌, ◌≤◌, List, ◌∷◌, ◌++◌, length, get_or, sym, refl, ap, ◌∙◌, subst, inl, inr, append_assoc, arith}
use Rattle.std.specs.List.{between}
use Rattle.algebra.specs.Field.{Arithmetic}
use Rattle.expression.specs.Bytes.{plus_sign, times_sign}
use Rattle.expression.specs.Grammar.{Kind, Phrase, factor, one_factor, one_term, plus, sum, term, times}
use Rattle.expression.specs.Limits.{most_brackets}
use Rattle.expression.specs.Readings.{Reading, Stopped}
use Rattle.expression.specs.Values.{Expression, Value, product_of, product_value, sum_of, sum_value, value}
use Rattle.expression.specs.Watch.{fresh, inside, step, watch}
use Rattle.expression.proofs.Stretches.{cut_at}
use Rattle.expression.proofs.Watching.{Leads, passes, plus_leads, times_leads, watch_++}

-- After a phrase and a sign that leads on, the watch is as at the start.
resumes : (k : Kind) (n c : ℕ) (s : List ℕ) (i j m : ℕ) {e : Expression} → Phrase k n (between i j s) e → n ≤ most_brackets → Leads c → i ≤ j
    → j < m → m ≤ length s → get_or s j 0 ≡ c → watch (inside n fresh) (between i m s) ≡ watch (inside n fresh) (between (j + 1) m s)
resumes k n c s i j m phrase few leads h l w e =
    let p = passes phrase few in
    ap (watch (inside n fresh)) (cut_at s i j m c h l w e)
    ∙ (watch_++ (inside n fresh) (between i j s) (c ∷ between (j + 1) m s)
    ∙ (ap (λ t. watch (step t c) (between (j + 1) m s)) p.is ∙ ap (λ t. watch t (between (j + 1) m s)) (leads n p.spot p.is_whole)))

-- How parts of one kind are joined into a whole: by which sign, that one part is a whole, what the whole writes, and what it is worth.
pub record Join (whole part : Kind) : Type 0 where
  pub sign : ℕ
  pub leads : Leads sign
  pub made : Expression → Expression → Expression
  pub first : {n : ℕ} {x : List ℕ} {a : Expression} → Phrase part n x a → Phrase whole n x a
  pub joins : (n : ℕ) (x y : List ℕ) (a b : Expression) → Phrase whole n x a → Phrase part n y b → Phrase whole n (x ++ sign ∷ y) (made a b)
  pub worth : Arithmetic → Value → Value → Value
  pub worth_is : (f : Arithmetic) (a b : Expression) → value f (made a b) ≡ worth f (value f a) (value f b)

abbrev pub by_times : Join term factor
by_times =
    record {
      sign = times_sign;
      leads = times_leads;
      made = product_of;
      first = one_factor;
      joins = λ n x y a b p q. times p q;
      worth = product_value;
      worth_is = λ f a b. refl;
    }

abbrev pub by_plus : Join sum term
by_plus =
    record {
      sign = plus_sign;
      leads = plus_leads;
      made = sum_of;
      first = one_term;
      joins = λ n x y a b p q. plus p q;
      worth = sum_value;
      worth_is = λ f a b. refl;
    }

module _ {whole part : Kind} (join : Join whole part) (f : Arithmetic) (n : ℕ) (s : List ℕ) (i j : ℕ) where
  pub joined : {m : ℕ} {a b codes : Value} → n ≤ most_brackets → Reading whole part f n s i j a → j < length s → get_or s j 0 ≡ join.sign
      → Reading part part f n s (j + 1) m b → codes ≡ join.worth f a b → Reading whole part f n s i m codes
  joined {m} {a} {b} few r l e t worth = record {
    expression = join.made r.expression t.expression;
    more = omega (arith, r.more, t.more);
    within = t.within;
    phrase =
        subst (λ x. Phrase whole n x (join.made r.expression t.expression))
        (sym (cut_at s i j m join.sign (omega (arith, r.more)) (omega (arith, t.more)) t.within e))
        (join.joins n _ _ _ _ r.phrase t.phrase);
    value_is =
        worth
        ∙ ap (λ v. join.worth f v b) r.value_is
        ∙ (ap (join.worth f (value f r.expression)) t.value_is ∙ sym (join.worth_is f r.expression t.expression));
    stops = λ h. elim (t.stops h) [
      | inl x ↦ inl x
      | inr d ↦
          inr
          (resumes whole n join.sign s i j (m + 1) r.phrase few join.leads (omega (arith, r.more)) (omega (arith, t.more)) (omega arith) e
          ∙ d)
    ];
  }

  pub joined_stopped : {p : ℕ} {a : Value} → n ≤ most_brackets → Reading whole part f n s i j a → j < length s → get_or s j 0 ≡ join.sign
      → Stopped part n s (j + 1) p → Stopped whole n s i p
  joined_stopped {p} {a} few r l e t = record {
    more = omega (arith, r.more, t.more);
    within = t.within;
    rest = t.rest;
    expression = join.made r.expression t.expression;
    phrase =
        subst (λ x. Phrase whole n x (join.made r.expression t.expression))
        (sym (append_assoc (between i j s) (join.sign ∷ between (j + 1) p s) t.rest)
        ∙ ap (λ x. x ++ t.rest) (sym (cut_at s i j p join.sign (omega (arith, r.more)) (omega (arith, t.more)) t.within e)))
        (join.joins n _ _ _ _ r.phrase t.phrase);
    ends = λ h.
        resumes whole n join.sign s i j (p + 1) r.phrase few join.leads (omega (arith, r.more)) (omega (arith, t.more)) (omega arith) e
        ∙ t.ends h;
  }

-- The first part is a whole of its own, and where it stops, so does the whole.
module _ {whole part : Kind} (join : Join whole part) {n : ℕ} {s : List ℕ} {i : ℕ} where
  pub alone : {f : Arithmetic} {j : ℕ} {codes : Value} → Reading part part f n s i j codes → Reading whole part f n s i j codes
  alone r = record {
    expression = r.expression;
    more = r.more;
    within = r.within;
    phrase = join.first r.phrase;
    value_is = r.value_is;
    stops = r.stops;
  }

  pub alone_stopped : {p : ℕ} → Stopped part n s i p → Stopped whole n s i p
  alone_stopped t = record {
    more = t.more;
    within = t.within;
    rest = t.rest;
    expression = t.expression;
    phrase = join.first t.phrase;
    ends = t.ends;
  }
