-- A whole line: a sum and the end of the line, or the place where what stands there stops being one.
use Rattle.std.proofs.Common.{◌≡◌, ℕ, ◌+◌, ◌<◌, ◌≤◌, List, [], ◌∷◌, ◌++◌, length, get_or, sym, refl, ap, ◌∙◌, subst, inl, inr, append_assoc, arith, lit≤}
use Rattle.std.proofs.lemmas.List.Edits.{between_more}
use Rattle.std.specs.List.{between}
use Rattle.algebra.specs.Field.{Arithmetic}
use Rattle.expression.specs.Bytes.{line_end}
use Rattle.expression.specs.Grammar.{sum}
use Rattle.expression.specs.Limits.{most_brackets}
use Rattle.expression.specs.Lines.{AnyLine, LineRead}
use Rattle.expression.specs.Readings.{Reading, Stopped}
use Rattle.expression.specs.Texts.{Lost}
use Rattle.expression.specs.Values.{Value}
use Rattle.expression.specs.Watch.{Spot, Watch, broken, ended, fresh, inside, step, watch}
use Rattle.expression.proofs.Factors.{one_more}
use Rattle.expression.proofs.Watching.{by_close, by_end, passes, watch_++, watch_broken}

-- The watch at the start of a line.
abbrev start : Watch
start = inside most_brackets fresh

-- It ends with every line, and with nothing else that matters here.
line_watched : (line : List ℕ) → AnyLine line → watch start line ≡ ended
line_watched line (e, l) =
    let p = passes l.phrase (lit≤ tt) in
    ap (watch start) l.is
    ∙ (watch_++ start l.text (line_end ∷ []) ∙ (ap (λ w. step w line_end) p.is ∙ by_end most_brackets p.spot p.is_whole))

abbrev IsEnded : Watch → Type 0
IsEnded broken = ⊥
IsEnded ended = Unit {0}
IsEnded (inside n q) = ⊥

-- An ended watch never gets inside again.
past_the_end : (x : List ℕ) (n : ℕ) (q : Spot) → watch ended x ≡ inside n q → ⊥
past_the_end [] n q e = subst IsEnded e tt
past_the_end (b ∷ x) n q e =
    let never : broken ≡ inside n q = sym (watch_broken x) ∙ e in
    let z : ◌≡◌ {A = ℕ} 0 1 = cc in
    omega arith

-- What the watch sees is enough to have lost the line.
lost_by_watch : (s : List ℕ) (i p : ℕ) → i ≤ p → p ≤ length s → (t : List ℕ) → AnyLine (between i p s ++ t) → (watch start (between i p s) ≡ ended → ⊥)
    → (p < length s → watch start (between i (p + 1) s) ≡ broken) → Lost AnyLine s i p
lost_by_watch s i p m w t begins short breaks = record {
  more = m;
  within = w;
  begins = (t, begins);
  short = λ l. short (line_watched (between i p s) l);
  ends = λ h u l.
      subst IsEnded
      (sym (line_watched (between i (p + 1) s ++ u) l)
      ∙ (watch_++ start (between i (p + 1) s) u ∙ (ap (λ v. watch v u) (breaks h) ∙ watch_broken u)))
      tt;
}

-- The sum stopped, and so does the line.
pub sum_lost : (s : List ℕ) (i p : ℕ) → Stopped sum most_brackets s i p → Lost AnyLine s i p
sum_lost s i p t =
    let q = passes t.phrase (lit≤ tt) in
    lost_by_watch s i p t.more t.within (t.rest ++ line_end ∷ []) (
      t.expression,
      record { text = between i p s ++ t.rest; phrase = t.phrase; is = sym (append_assoc (between i p s) t.rest (line_end ∷ [])) },
    )
    (λ e. past_the_end t.rest most_brackets q.spot (sym (watch_++ start (between i p s) t.rest ∙ ap (λ v. watch v t.rest) e) ∙ q.is))
    t.ends

-- The sum is whole, and what follows does not end the line.
pub not_ended : (f : Arithmetic) (s : List ℕ) (i j : ℕ) {codes : Value} → Reading sum sum f most_brackets s i j codes
    → (j < length s → get_or s j 0 ≡ line_end → ⊥) → Lost AnyLine s i j
not_ended f s i j r none =
    let q = passes r.phrase (lit≤ tt) in
    lost_by_watch s i j (omega (arith, r.more)) r.within (line_end ∷ [])
    (r.expression, record { text = between i j s; phrase = r.phrase; is = refl })
    (λ e. past_the_end [] most_brackets q.spot (sym e ∙ q.is))
    (λ h. elim (r.stops h) [
      | inl a ↦ elim a [
        | inl x ↦
            one_more most_brackets s i j _ (omega (arith, r.more)) h q.is
            ∙ (ap (step (inside most_brackets q.spot)) x ∙ by_close most_brackets q.spot q.is_whole)
        | inr x ↦ absurd (none h x)
      ]
      | inr x ↦ x
    ])

-- The sum is whole, and the line ends after it.
pub line_read : (f : Arithmetic) (s : List ℕ) (i j : ℕ) {codes : Value} → Reading sum sum f most_brackets s i j codes → j < length s
    → get_or s j 0 ≡ line_end → LineRead f s i (j + 1) codes
line_read f s i j r h e = record {
  expression = r.expression;
  line =
      record {
        more = omega (arith, r.more);
        within = omega arith;
        is =
            record {
              text = between i j s;
              phrase = r.phrase;
              is = between_more s i j 0 (omega (arith, r.more)) h ∙ ap (λ b. between i j s ++ b ∷ []) e;
            };
      };
  value_is = r.value_is;
}
