-- A count and that many lines, read one line after the other.
use Rattle.std.proofs.Common.{◌≡◌, ℕ, zero, suc, ◌+◌, ◌-◌, ◌<◌, ◌≤◌, List, [], ◌∷◌, ◌++◌, length, sym, refl, ap, ◌∙◌, subst, append_assoc, append-nil, arith, lit≤}
use Rattle.std.proofs.lemmas.List.Edits.{between_none}
use Rattle.std.specs.List.{between}
use Rattle.expression.specs.Bytes.{first_digit, line_end}
use Rattle.expression.specs.Texts.{Got, Lost}
use Rattle.sheet.specs.Grammar.{IsCount, IsSection, Lines, no_lines, one_more}
use Rattle.sheet.specs.Parts.{AnyCount}
use Rattle.sheet.specs.Sequences.{After, Any, Rest, Times}
use Rattle.sheet.proofs.Between.{part_join}
use Rattle.sheet.proofs.Chains.{Alone, Told, got_like, got_lost, lost_first, lost_like, rest_lost, rest_more, some_times}
use Rattle.sheet.proofs.Decimals.{from_one, told_count}

module _ {X : Type 0} (L : List ℕ → X → Type 0) where
  times_from : {x : List ℕ} {items : List X} → Lines L x items → Times (Any L) (length items) x
  times_from no_lines = refl
  times_from (one_more {line} {rest} h more) = (tt, (line, (rest, (_, h), times_from more, refl)))

  times_to : (n : ℕ) (x : List ℕ) → Times (Any L) n x → (items : List X) × Lines L x items × (length items ≡ n)
  times_to zero x e = ([], subst (λ y. Lines L y []) (sym e) no_lines, refl)
  times_to (suc n) x (_, (line, (rest, (v, h), more, e))) =
      let (items, ls, k) = times_to n rest more in
      (v ∷ items, subst (λ y. Lines L y (v ∷ items)) (sym e) (one_more h ls), ap suc k)

  push : {x y : List ℕ} {items : List X} {v : X} → Lines L x items → L y v → Lines L (x ++ y) (items ++ v ∷ [])
  push {y = y} {v = v} no_lines h = subst (λ t. Lines L t (v ∷ [])) (append-nil y) (one_more h no_lines)
  push {y = y} {v = v} (one_more {line} {rest} {x = u} {xs = us} k more) h =
      subst (λ t. Lines L t (u ∷ (us ++ v ∷ []))) (sym (append_assoc line rest y)) (one_more k (push more h))

  pub lines_none : (s : List ℕ) (j : ℕ) → j ≤ length s → Got (λ x. Lines L x []) s j j
  lines_none s j h = record { more = omega arith; within = h; is = subst (λ y. Lines L y []) (sym (between_none s j)) no_lines }

  pub lines_more : (s : List ℕ) (i j k : ℕ) (items : List X) (v : X) → Got (λ x. Lines L x items) s i j → Got (λ x. L x v) s j k → Got (λ x. Lines L x (items ++ v ∷ [])) s i k
  lines_more s i j k items v g h = record {
    more = omega (arith, g.more, h.more);
    within = h.within;
    is = subst (λ y. Lines L y (items ++ v ∷ [])) (sym (part_join s i j k g.more h.more)) (push g.is h.is);
  }

  pub section_got : (least most : ℕ) (s : List ℕ) (i j k n : ℕ) (items : List X) → Got (λ x. IsCount least most x n) s i j → Got (λ x. Lines L x items) s j k
      → length items ≡ n → Got (λ x. IsSection least most L x items) s i k
  section_got least most s i j k n items g h e = record {
    more = omega (arith, g.more, h.more);
    within = h.within;
    is = record {
      count_line = between i j s;
      lines = between j k s;
      counted = subst (IsCount least most (between i j s)) (sym e) g.is;
      written = h.is;
      is = part_join s i j k g.more h.more;
    };
  }

-- A kind of sections: its counts are written with two digits at most, what its lines hold is told by how they begin, and there is one
-- such line.
pub record SectionKind {X : Type 0} (L : List ℕ → X → Type 0) (least most : ℕ) : Type 0 where
  pub few : most ≤ 99
  pub told : Told (λ v x. L x v)
  pub line : List ℕ
  pub some : Any L line

one_less : (n c : ℕ) → c < n → n - c ≡ suc (n - (c + 1))
one_less n c h = omega arith

module _ {X : Type 0} {L : List ℕ → X → Type 0} {least most : ℕ} (k : SectionKind L least most) where
  abbrev Counts : ℕ → List ℕ → Type 0
  Counts n x = IsCount least most x n

  told_counts : Told Counts
  told_counts = told_count least most k.few

  told_rows : {x y a b : List ℕ} {us ws : List X} → Lines L x us → Lines L a ws → x ++ y ≡ a ++ b → length us ≡ length ws → (us ≡ ws) × (x ≡ a) × (y ≡ b)
  told_rows no_lines no_lines e n = (refl, refl, e)
  told_rows no_lines (one_more h more) e n = absurd (omega arith)
  told_rows (one_more h more) no_lines e n = absurd (omega arith)
  told_rows {y = y} {b = b} (one_more {line = l} {rest = r} {x = u} {xs = us} h more) (one_more {line = m} {rest = q} {x = w} {xs = ws} g rest) e n =
      let (p, s, t) = k.told u w l (r ++ y) m (q ++ b) h g (sym (append_assoc l r y) ∙ (e ∙ append_assoc m q b)) in
      let (o, z, end) = told_rows more rest t (omega arith) in
      (cc, cc, end)

  pub told_section : Told (λ items x. IsSection least most L x items)
  told_section us ws x y a b h g e =
      let split : h.count_line ++ (h.lines ++ y) ≡ g.count_line ++ (g.lines ++ b) =
      sym (ap (λ u. u ++ y) h.is ∙ append_assoc h.count_line h.lines y) ∙ (e ∙ (ap (λ u. u ++ b) g.is ∙ append_assoc g.count_line g.lines b)) in
      let (n, p, q) = told_counts (length us) (length ws) h.count_line (h.lines ++ y) g.count_line (g.lines ++ b) h.counted g.counted split in
      let (items, lines, rest) = told_rows h.written g.written q n in
      (items, h.is ∙ (ap (λ u. u ++ h.lines) p ∙ (ap (λ u. g.count_line ++ u) lines ∙ sym g.is)), rest)

  pub alone_section : Alone (Any (IsSection least most L))
  alone_section _ _ x y a b (us, h) (ws, g) e = let (_, p, q) = told_section us ws x y a b h g e in (refl, p, q)

  apart : Alone (Any L)
  apart _ _ x y a b (v, h) (w, g) e = let (_, p, q) = k.told v w x y a b h g e in (refl, p, q)

  to_after : (x : List ℕ) → Any (IsSection least most L) x → After Counts (Times (Any L)) x
  to_after x (items, h) = (length items, (h.count_line, (h.lines, h.counted, times_from L h.written, h.is)))

  from_after : (x : List ℕ) → After Counts (Times (Any L)) x → Any (IsSection least most L) x
  from_after x (n, (a, (b, c, t, e))) =
      let (items, ls, m) = times_to L n b t in
      (items, record { count_line = a; lines = b; counted = subst (IsCount least most a) (sym m) c; written = ls; is = e })

  pub some_section : least ≤ 1 → 1 ≤ most → (text : List ℕ) × Any (IsSection least most L) text
  some_section low high = (
    _,
    (
      k.some.0 ∷ [],
      record {
        count_line = (first_digit + 1) ∷ line_end ∷ [];
        lines = k.line ++ [];
        counted = record { low = low; high = high; is = from_one 1 (lit≤ tt) };
        written = one_more k.some.1 no_lines;
        is = refl;
      },
    ),
  )

  module _ (s : List ℕ) (i : ℕ) where
    pub count_lost : (p : ℕ) → Lost (AnyCount least most) s i p → Lost (Any (IsSection least most L)) s i p
    count_lost p h =
        lost_like (After Counts (Times (Any L))) (Any (IsSection least most L)) s i p from_after to_after
        (lost_first {X = ℕ} Counts (Times (Any L)) told_counts s (λ n. some_times (Any L) k.line k.some n) i p h)

    -- After the count all lines are left.
    pub section_begins : (j n : ℕ) → Got (Counts n) s i j → Rest (Any (IsSection least most L)) (Times (Any L) (n - 0)) s i j
    section_begins j n g p h =
        let all : n - 0 ≡ n = omega arith in
        lost_like (After Counts (Times (Any L))) (Any (IsSection least most L)) s i p from_after to_after
        (got_lost {X = ℕ} Counts (Times (Any L)) told_counts s n i j p g (subst (λ m. Lost (Times (Any L) m) s j p) all h))

    module _ (j n c : ℕ) (lt : c < n) (rest : Rest (Any (IsSection least most L)) (Times (Any L) (n - c)) s i j) where
      -- One line more fails, or is read.
      pub line_lost : (p : ℕ) → Lost (Any L) s j p → Lost (Any (IsSection least most L)) s i p
      line_lost p h = rest_lost (Any (IsSection least most L)) (Any L) apart s i j (n - c) (n - (c + 1)) (one_less n c lt) rest k.line k.some p h

      pub line_read : (v : X) (end : ℕ) → Got (λ x. L x v) s j end → Rest (Any (IsSection least most L)) (Times (Any L) (n - (c + 1))) s i end
      line_read v end g =
          rest_more (Any (IsSection least most L)) (Any L) apart s i j (n - c) (n - (c + 1)) (one_less n c lt) rest end
          (got_like (λ x. L x v) (Any L) s j end (λ x h. (v, h)) g)
