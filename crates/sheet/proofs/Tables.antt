-- Words that must stand as they are written, and the furthest place of several.
use Rattle.std.proofs.Common.{◌≡◌, ℕ, zero, suc, ◌+◌, ◌<◌, ◌≤◌, ◌==◌, Bool, true, false, cond, max, ◌-◌, length-drop, ◌⊎◌, List, [], ◌∷◌, ◌++◌, length, get_or, take, drop, sym, refl, ap, ◌∙◌, subst, inl, inr, append_assoc, append-nil, arith, Contains}
use Rattle.std.proofs.lemmas.List.{get_or_at, length-take-le, take-append-drop, get_or-map, length-map, map_push, take_all, take_more, get_or-drop}
use Rattle.std.proofs.lemmas.List.Elements.{All-contains, All-from_recursion, Contains-append_left, Contains-push, Contains-push_cases}
use Rattle.std.proofs.lemmas.Bool.Decides.{nat_tests}
use Rattle.std.specs.Borrow.{Bor}
use Rattle.std.specs.List.{AllByRecursion, between}
use Rattle.expression.specs.Texts.{Got, Lost}
use Rattle.expression.specs.Tokens.{PartAt}
use Rattle.expression.specs.declared.parts.Part.{Part}
use Rattle.sheet.specs.Tables.{AnyWord, IsWord, NamedAt, common, words}
use Rattle.sheet.specs.declared.words.Named.{Named}
use Rattle.sheet.proofs.Between.{part_join}
use Rattle.sheet.proofs.Chains.{dies, lost, lost_like}

-- From the front on n bytes are those of the word, and the next is not.
record Common (x word : List ℕ) (n : ℕ) : Type 0 where
  few : n ≤ length word
  within : n ≤ length x
  same : take n x ≡ take n word
  stops : n < length word → n < length x → ¬ (get_or x n 0 ≡ get_or word n 0)

common_more : (b c : ℕ) (x word : List ℕ) → (q : Bool) → b == c ≡ q → Common x word (common x word) → Common (b ∷ x) (c ∷ word) (cond q (1 + common x word) 0)
common_more b c x word true e r =
    let is : b ≡ c = grind (arith, nat_tests) in
    let few = r.few in
    let within = r.within in
    let same = r.same in
    let one : suc (common x word) ≡ 1 + common x word = omega arith in
    subst (Common (b ∷ x) (c ∷ word)) one (record { few = omega arith; within = omega arith; same = cc; stops = λ m n. r.stops (omega arith) (omega arith) })
common_more b c x word false e r = record { few = omega arith; within = omega arith; same = refl; stops = λ m n is. grind (arith, nat_tests) }

is_common : (x word : List ℕ) → Common x word (common x word)
is_common [] word = record { few = omega arith; within = omega arith; same = refl; stops = λ a b e. omega arith }
is_common (b ∷ x) [] = record { few = omega arith; within = omega arith; same = refl; stops = λ a b e. omega arith }
is_common (b ∷ x) (c ∷ word) = common_more b c x word (b == c) refl (is_common x word)

-- The same from a place of a sheet on.
pub record Matches (s : List ℕ) (i : ℕ) (word : List ℕ) (n : ℕ) : Type 0 where
  few : n ≤ length word
  pub within : i + n ≤ length s
  same : between i (i + n) s ≡ take n word
  stops : n < length word → i + n < length s → ¬ (get_or s (i + n) 0 ≡ get_or word n 0)

pub matches : {s rest word : List ℕ} {i n : ℕ} → i ≤ length s → rest ≡ drop i s → n ≡ common rest word → Matches s i word n
matches {s} {rest} {word} {i} {n} h is e =
    let r = is_common (drop i s) word in
    let len : length (drop i s) ≡ length s - i = length-drop i s in
    let d : i + n - i ≡ n = omega arith in
    let within = r.within in
    subst (Matches s i word) (sym (e ∙ ap (λ x. common x word) is))
    (record {
      few = r.few;
      within = omega arith;
      same = ap (λ m. take m (drop i s)) (omega arith) ∙ r.same;
      stops = λ m l is. r.stops m (omega arith) (get_or-drop i s _ 0 ∙ is);
    })

word_lost : (s word : List ℕ) (from n : ℕ) → Matches s from word n → ¬ (n ≡ length word) → Lost (λ x. x ≡ word) s from (from + n)
word_lost s word from n m not_all =
    let short : n < length word = omega (arith, m.few) in
    lost (λ x. x ≡ word) s from (from + n) (omega arith) m.within (drop n word) (ap (λ x. x ++ drop n word) m.same ∙ take-append-drop n word)
    (λ e. let f : length (take n word) ≡ length word = ap length (sym m.same ∙ e) in omega (arith, length-take-le n word m.few, f))
    (λ l t e. m.stops short l (sym (ap (λ x. get_or x n 0) (sym e ∙ ap (λ x. x ++ get_or s (from + n) 0 ∷ t) m.same) ∙ get_or_at (take n word) (get_or s (from + n) 0) t 0 n (length-take-le n word m.few))))

-- Of two languages the one that goes further tells the place.
further : (L M : List ℕ → Type 0) (s : List ℕ) (i p q : ℕ) → Lost L s i p → Lost M s i q → q ≤ p → Lost (λ x. L x ⊎ M x) s i p
further L M s i p q h k le =
    lost (λ x. L x ⊎ M x) s i p h.more h.within h.begins.0 (inl h.begins.1)
    (λ a. elim a [ inl l ↦ h.short l | inr m ↦ shut m split ])
    (λ w t a. elim a [ inl l ↦ dies L s i p h w t l | inr m ↦ past w t m split ])
  where
    split : (q ≡ p) ⊎ (q < p)
    split = grind arith

    far : q < p → (t : List ℕ) → between i p s ++ t ≡ between i (q + 1) s ++ (between (q + 1) p s ++ t)
    far lt t =
        let e = part_join s i (q + 1) p (omega (arith, k.more)) (omega arith) in
        ap (λ x. x ++ t) e ∙ append_assoc (between i (q + 1) s) (between (q + 1) p s) t

    dead : q < p → (t : List ℕ) → ¬ (M (between i p s ++ t))
    dead lt t m = k.ends (omega (arith, h.within)) (between (q + 1) p s ++ t) (subst M (far lt t) m)

    shut : M (between i p s) → (q ≡ p) ⊎ (q < p) → ⊥
    shut m (inl e) = k.short (subst (λ j. M (between i j s)) (sym e) m)
    shut m (inr lt) = dead lt [] (subst M (sym (append-nil (between i p s))) m)

    past : p < length s → (t : List ℕ) → M (between i p s ++ (get_or s p 0 ∷ t)) → (q ≡ p) ⊎ (q < p) → ⊥
    past w t m (inl e) = dies M s i q k (omega arith) t (subst (λ j. M (between i j s ++ (get_or s j 0 ∷ t))) (sym e) m)
    past w t m (inr lt) = dead lt (get_or s p 0 ∷ t) m

either_way : (L M : List ℕ → Type 0) (s : List ℕ) (i p q : ℕ) → Lost L s i (i + p) → Lost M s i (i + q) → Lost (λ x. L x ⊎ M x) s i (i + max p q)
either_way L M s i p q h k = go split
  where
    split : (q ≤ p) ⊎ (p ≤ q)
    split = grind arith

    go : (q ≤ p) ⊎ (p ≤ q) → Lost (λ x. L x ⊎ M x) s i (i + max p q)
    go (inl le) = let e : i + p ≡ i + max p q = omega arith in subst (Lost (λ x. L x ⊎ M x) s i) e (further L M s i (i + p) (i + q) h k (omega arith))
    go (inr le) =
        let e : i + q ≡ i + max p q = omega arith in
        subst (Lost (λ x. L x ⊎ M x) s i) e
        (lost_like (λ x. M x ⊎ L x) (λ x. L x ⊎ M x) s i (i + q) (λ x a. elim a [ inl m ↦ inr m | inr l ↦ inl l ]) (λ x a. elim a [ inl l ↦ inr l | inr m ↦ inl m ])
        (further M L s i (i + q) (i + p) k h (omega arith)))

module _ {T : Type 0} where
  pub written : (table : List (Bor (List ℕ) × T)) (e : Bor (List ℕ) × T) (s : List ℕ) (i k n : ℕ) → k < length table → e ≡ get_or table k e
      → Matches s i e.0.now n → n ≡ length e.0.now → {part : Part} → part.place ≡ i → part.text.now ≡ between i (i + n) s
      → part.place + length part.text.now ≡ i + n → PartAt s i part × IsWord table part.text.now e.1
  written table e s i k n lt is m all {part} here text ends =
      let count : n ≡ length part.text.now = omega (arith, ends, here) in (
        record { here = here; within = omega (arith, m.within); is = text ∙ ap (λ l. between i (i + l) s) count },
        subst (λ x. IsWord table x e.1) (sym (text ∙ (m.same ∙ take_all n e.0.now (omega arith)))) (record { listed = (k, within, at) }),
      )
    where
      within : k < length (words table)
      within = let many = length-map {B = List ℕ × T} table (λ e. (e.0.now, e.1)) in omega arith

      at : get_or (words table) k (e.0.now, e.1) ≡ (e.0.now, e.1)
      at = get_or-map (λ (e : Bor (List ℕ) × T). (e.0.now, e.1)) table k e (e.0.now, e.1) lt ∙ ap (λ d. (d.0.now, d.1)) (sym is)

  -- One word more.
  words_more : (table : List (Bor (List ℕ) × T)) (e : Bor (List ℕ) × T) (s : List ℕ) (i p n : ℕ) → Lost (AnyWord table) s i (i + p) → Lost (λ x. x ≡ e.0.now) s i (i + n)
      → Lost (AnyWord (table ++ e ∷ [])) s i (i + max p n)
  words_more table e s i p n h k =
      lost_like (λ x. AnyWord table x ⊎ (x ≡ e.0.now)) (AnyWord (table ++ e ∷ [])) s i (i + max p n) to back (either_way (AnyWord table) (λ x. x ≡ e.0.now) s i p n h k)
    where
      is : words (table ++ e ∷ []) ≡ words table ++ (e.0.now, e.1) ∷ []
      is = map_push (λ e. (e.0.now, e.1)) table e

      to : (x : List ℕ) → AnyWord table x ⊎ (x ≡ e.0.now) → AnyWord (table ++ e ∷ []) x
      to x (inl (v, w)) = (v, record { listed = subst (λ l. Contains l (x, v)) (sym is) (Contains-append_left (words table) _ (x, v) w.listed) })
      to x (inr e') = (e.1, record { listed = subst (λ l. Contains l (x, e.1)) (sym is) (subst (λ y. Contains (words table ++ (e.0.now, e.1) ∷ []) (y, e.1)) (sym e') (Contains-push (words table) (e.0.now, e.1))) })

      back : (x : List ℕ) → AnyWord (table ++ e ∷ []) x → AnyWord table x ⊎ (x ≡ e.0.now)
      back x (v, w) = elim (Contains-push_cases (words table) (e.0.now, e.1) (x, v) (subst (λ l. Contains l (x, v)) is w.listed)) [
        | inl had ↦ inl (v, record { listed = had })
        | inr same ↦ inr (ap (λ p. p.0) (sym same))
      ]

  first_word : (e : Bor (List ℕ) × T) (s : List ℕ) (i n : ℕ) → Lost (λ x. x ≡ e.0.now) s i (i + n) → Lost (AnyWord (e ∷ [])) s i (i + n)
  first_word e s i n h = lost_like (λ x. x ≡ e.0.now) (AnyWord (e ∷ [])) s i (i + n) to back h
    where
      to : (x : List ℕ) → x ≡ e.0.now → AnyWord (e ∷ []) x
      to x is = (e.1, record { listed = (0, omega arith, ap (λ y. (y, e.1)) (sym is)) })

      back : (x : List ℕ) → AnyWord (e ∷ []) x → x ≡ e.0.now
      back x (v, w) = elim (Contains-push_cases [] (e.0.now, e.1) (x, v) w.listed) [ inl (k, lt, _) ↦ absurd (omega arith) | inr same ↦ ap (λ p. p.0) (sym same) ]

  pub tried : (table : List (Bor (List ℕ) × T)) (e : Bor (List ℕ) × T) (s : List ℕ) (i k f n : ℕ) → k < length table → e ≡ get_or table k e
      → (k ≡ 0 → f ≡ 0) → (0 < k → Lost (AnyWord (take k table)) s i (i + f)) → Matches s i e.0.now n → ¬ (n ≡ length e.0.now)
      → Lost (AnyWord (take (k + 1) table)) s i (i + max f n)
  tried table e s i k f n lt is none some m short =
      subst (λ t. Lost (AnyWord t) s i (i + max f n)) (ap (λ d. take k table ++ d ∷ []) is ∙ sym (take_more table k e lt)) (go k none some)
    where
      failed : Lost (λ x. x ≡ e.0.now) s i (i + n)
      failed = word_lost s e.0.now i n m short

      go : (k : ℕ) → (k ≡ 0 → f ≡ 0) → (0 < k → Lost (AnyWord (take k table)) s i (i + f)) → Lost (AnyWord (take k table ++ e ∷ [])) s i (i + max f n)
      go zero none some = let far : i + n ≡ i + max f n = omega (arith, none refl) in subst (Lost (AnyWord (e ∷ [])) s i) far (first_word e s i n failed)
      go (suc k) none some = words_more (take (suc k) table) e s i f n (some (omega arith)) failed

-- Where a word stands, a text of its language does.
pub named_got : {T : Type 0} (Is : List ℕ → T → Type 0) {s : List ℕ} {i j : ℕ} {named : Named T} → NamedAt Is s i named
    → j ≡ named.word.place + length named.word.text.now → Got (λ x. Is x named.value) s i j
named_got Is {s} {i} {j} {named} (part, is) ends =
    let end : i + length named.word.text.now ≡ j = omega (arith, part.here) in
    record {
      more = omega (arith, part.here);
      within = omega (arith, part.here, part.within);
      is = subst (λ x. Is x named.value) (part.is ∙ ap (λ m. between i m s) end) is;
    }

-- What every word of a table stands for, and that it has all of them.
pub record Spells {T : Type 0} (table : List (Bor (List ℕ) × T)) (spelled : T → List ℕ) : Type 0 where
  pub each : AllByRecursion (λ (p : List ℕ × T). p.0 ≡ spelled p.1) (words table)
  pub all : (v : T) → Contains (words table) (spelled v, v)

module _ {T : Type 0} {table : List (Bor (List ℕ) × T)} {spelled : T → List ℕ} (h : Spells table spelled) where
  is_spelled : (x : List ℕ) (v : T) → IsWord table x v → x ≡ spelled v
  is_spelled x v w = All-contains (λ (p : List ℕ × T). p.0 ≡ spelled p.1) (words table) (x, v) (All-from_recursion _ (words table) h.each) w.listed

  pub spelled_got : {s : List ℕ} {i : ℕ} {named : Named T} → NamedAt (IsWord table) s i named → NamedAt (λ x v. x ≡ spelled v) s i named
  spelled_got {named = named} (part, is) = (part, is_spelled _ named.value is)

  pub spelled_lost : {s : List ℕ} {i p : ℕ} → Lost (AnyWord table) s i p → Lost (λ x. (v : T) × (x ≡ spelled v)) s i p
  spelled_lost {s} {i} {p} =
      lost_like (AnyWord table) (λ x. (v : T) × (x ≡ spelled v)) s i p (λ x (v, w). (v, is_spelled x v w))
      (λ x (v, is). (v, record { listed = subst (λ y. Contains (words table) (y, v)) (sym is) (h.all v) }))
