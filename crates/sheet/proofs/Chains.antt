-- Texts one after the other: where the first part of a sequence fails, or what follows it, there the whole fails.
use Rattle.std.proofs.Common.{◌≡◌, ℕ, zero, suc, ◌+◌, ◌<◌, ◌≤◌, ◌⊎◌, List, [], ◌∷◌, ◌++◌, length, get_or, sym, refl, ap, ◌∙◌, subst, inl, inr, append_assoc, append-nil, arith}
use Rattle.std.proofs.lemmas.List.Edits.{between_more}
use Rattle.std.specs.List.{between}
use Rattle.expression.specs.Texts.{Got, Lost}
use Rattle.sheet.specs.Sequences.{After, Rest, Times}
use Rattle.sheet.proofs.Between.{part_join}

-- A text stands first in one way only, and tells one value.
abbrev pub Told : {X : Type 0} → (X → List ℕ → Type 0) → Type 0
Told {X} C = (v w : X) (x y a b : List ℕ) → C v x → C w a → x ++ y ≡ a ++ b → (v ≡ w) × (x ≡ a) × (y ≡ b)

abbrev pub Alone : (List ℕ → Type 0) → Type 0
Alone L = Told {X = Unit {0}} (λ _. L)

pub alone : (L : List ℕ → Type 0) → ((x y a b : List ℕ) → L x → L a → x ++ y ≡ a ++ b → (x ≡ a) × (y ≡ b)) → Alone L
alone L h _ _ x y a b lx la e = let (p, q) = h x y a b lx la e in (refl, p, q)

-- Of two ways to cut a text one cuts no later than the other.
abbrev Cuts : List ℕ → List ℕ → List ℕ → List ℕ → Type 0
Cuts x y a b = ((c : List ℕ) × (a ≡ x ++ c) × (y ≡ c ++ b)) ⊎ ((c : List ℕ) × (x ≡ a ++ c) × (b ≡ c ++ y))

cuts_more : (u v : ℕ) (x y a b : List ℕ) → u ≡ v → Cuts x y a b → Cuts (u ∷ x) y (v ∷ a) b
cuts_more u v x y a b e (inl (c, p, q)) = inl (c, cc, q)
cuts_more u v x y a b e (inr (c, p, q)) = inr (c, cc, q)

cuts : (x y a b : List ℕ) → x ++ y ≡ a ++ b → Cuts x y a b
cuts [] y a b e = inl (a, refl, e)
cuts (u ∷ x) y [] b e = inr (u ∷ x, refl, sym e)
cuts (u ∷ x) y (v ∷ a) b e =
    let p : u ≡ v = cc in
    let q : x ++ y ≡ a ++ b = cc in
    cuts_more u v x y a b p (cuts x y a b q)

pub front_nil : (x y : List ℕ) → x ++ y ≡ [] → x ≡ []
front_nil [] y e = refl
front_nil (u ∷ x) y e = cc

-- A text and the byte after it.
one_byte : (s : List ℕ) (i p : ℕ) (t : List ℕ) → i ≤ p → p < length s → between i (p + 1) s ++ t ≡ between i p s ++ (get_or s p 0 ∷ t)
one_byte s i p t h w = ap (λ x. x ++ t) (between_more s i p 0 h w) ∙ append_assoc (between i p s) (get_or s p 0 ∷ []) t

module _ (L : List ℕ → Type 0) (s : List ℕ) (i p : ℕ) where
  -- The place where a text fails, by the byte that stands there.
  pub lost : i ≤ p → p ≤ length s → (t : List ℕ) → L (between i p s ++ t) → ¬ (L (between i p s))
      → (p < length s → (t : List ℕ) → ¬ (L (between i p s ++ (get_or s p 0 ∷ t)))) → Lost L s i p
  lost h w t b short ends = record {
    more = h;
    within = w;
    begins = (t, b);
    short = short;
    ends = λ lt u l. ends lt u (subst L (one_byte s i p u h lt) l);
  }

  pub dies : Lost L s i p → p < length s → (t : List ℕ) → ¬ (L (between i p s ++ (get_or s p 0 ∷ t)))
  dies h w t l = h.ends w t (subst L (sym (one_byte s i p t h.more w)) l)

-- Two names of one language.
pub lost_like : (L M : List ℕ → Type 0) (s : List ℕ) (i p : ℕ) → ((x : List ℕ) → L x → M x) → ((x : List ℕ) → M x → L x) → Lost L s i p → Lost M s i p
lost_like L M s i p to back h = record {
  more = h.more;
  within = h.within;
  begins = (h.begins.0, to _ h.begins.1);
  short = λ m. h.short (back _ m);
  ends = λ w t m. h.ends w t (back _ m);
}

pub got_like : (L M : List ℕ → Type 0) (s : List ℕ) (i j : ℕ) → ((x : List ℕ) → L x → M x) → Got L s i j → Got M s i j
got_like L M s i j to h = record { more = h.more; within = h.within; is = to _ h.is }

module _ {X : Type 0} (C M : X → List ℕ → Type 0) (one : Told C) (s : List ℕ) where
  -- What follows a text fails.
  pub got_lost : (v : X) (i j p : ℕ) → Got (C v) s i j → Lost (M v) s j p → Lost (After C M) s i p
  got_lost v i j p g h =
      lost (After C M) s i p (omega (arith, g.more, h.more)) h.within h.begins.0
      (v, (between i j s, (between j p s ++ h.begins.0, g.is, h.begins.1, whole h.begins.0)))
      (λ (w, (x, (y, cx, my, e))). h.short (same w x y (between j p s) cx my (sym parts ∙ e)))
      (λ lt t (w, (x, (y, cx, my, e))). dies (M v) s j p h lt t (same w x y (between j p s ++ (get_or s p 0 ∷ t)) cx my (sym (whole (get_or s p 0 ∷ t)) ∙ e)))
    where
      parts : between i p s ≡ between i j s ++ between j p s
      parts = part_join s i j p g.more h.more

      whole : (t : List ℕ) → between i p s ++ t ≡ between i j s ++ (between j p s ++ t)
      whole t = ap (λ k. k ++ t) parts ∙ append_assoc (between i j s) (between j p s) t

      same : (w : X) (x y r : List ℕ) → C w x → M w y → between i j s ++ r ≡ x ++ y → M v r
      same w x y r cx my e =
          let (p, _, q) = one v w (between i j s) r x y g.is cx e in
          subst (λ u. M u r) (sym p) (subst (M w) (sym q) my)

  -- The first text fails, and something can follow each that could have stood there.
  pub lost_first : ((v : X) → (rest : List ℕ) × M v rest) → (i p : ℕ) → Lost (λ x. (v : X) × C v x) s i p → Lost (After C M) s i p
  lost_first follow i p h =
      let (t, (v, cv)) = h.begins in
      let (rest, mv) = follow v in
      lost (After C M) s i p h.more h.within (t ++ rest)
      (v, (between i p s ++ t, (rest, cv, mv, sym (append_assoc (between i p s) t rest))))
      (λ (w, (x, (y, cx, my, e))). early w x y cx e)
      (λ lt u (w, (x, (y, cx, my, e))). past lt u w x y cx (cuts (between i p s) (get_or s p 0 ∷ u) x y e))
    where
      early : (w : X) (x d : List ℕ) → C w x → between i p s ≡ x ++ d → ⊥
      early w x d cx e =
          let (t, (v, cv)) = h.begins in
          let (_, _, z) = one v w (between i p s ++ t) [] x (d ++ t) cv cx (append-nil (between i p s ++ t) ∙ (ap (λ k. k ++ t) e ∙ append_assoc x d t)) in
          h.short (w, subst (C w) (sym (e ∙ (ap (λ k. x ++ k) (front_nil d t (sym z)) ∙ append-nil x))) cx)

      past : p < length s → (u : List ℕ) (w : X) (x y : List ℕ) → C w x → Cuts (between i p s) (get_or s p 0 ∷ u) x y → ⊥
      past lt u w x y cx (inl ([], a, b)) = h.short (w, subst (C w) (a ∙ append-nil (between i p s)) cx)
      past lt u w x y cx (inl (c ∷ cs, a, b)) =
          let f : get_or s p 0 ≡ c = cc in
          dies (λ x. (v : X) × C v x) s i p h lt cs (w, subst (C w) (a ∙ ap (λ k. between i p s ++ (k ∷ cs)) (sym f)) cx)
      past lt u w x y cx (inr (c, a, b)) = early w x c cx a

pub told_after : {X : Type 0} (C M : X → List ℕ → Type 0) → Told C → ((v : X) → Alone (M v)) → Alone (After C M)
told_after {X} C M one many = alone (After C M) go
  where
    go : (x y a b : List ℕ) → After C M x → After C M a → x ++ y ≡ a ++ b → (x ≡ a) × (y ≡ b)
    go x y a b (v, (c, (d, cv, md, e))) (w, (k, (l, cw, ml, f))) g =
        let (p, q, r) = one v w c (d ++ y) k (l ++ b) cv cw (sym (append_assoc c d y) ∙ (ap (λ u. u ++ y) (sym e) ∙ (g ∙ (ap (λ u. u ++ b) f ∙ append_assoc k l b)))) in
        let (_, m, n) = many v tt tt d y l b md (subst (λ u. M u l) (sym p) ml) r in
        (cc, n)

-- Some texts can always follow, where there is one.
pub some_times : (L : List ℕ → Type 0) (x : List ℕ) → L x → (n : ℕ) → (rest : List ℕ) × Times L n rest
some_times L x lx zero = ([], refl)
some_times L x lx (suc n) = let (r, h) = some_times L x lx n in (x ++ r, (tt, (x, (r, lx, h, refl))))

module _ (K L : List ℕ → Type 0) (one : Alone L) (s : List ℕ) (i j m k : ℕ) (e : m ≡ suc k) (r : Rest K (Times L m) s i j) where
  -- One text more was read; or it fails.
  pub rest_more : (end : ℕ) → Got L s j end → Rest K (Times L k) s i end
  rest_more end g p h =
      r p (subst (λ u. Lost (Times L u) s j p) (sym e) (got_lost {X = Unit {0}} (λ _. L) (λ _. Times L k) one s tt j end p g h))

  pub rest_lost : (x : List ℕ) → L x → (p : ℕ) → Lost L s j p → Lost K s i p
  rest_lost x lx p h =
      r p (subst (λ u. Lost (Times L u) s j p) (sym e) (lost_first {X = Unit {0}} (λ _. L) (λ _. Times L k) one s (λ _. some_times L x lx k) j p
      (lost_like L (λ x. (v : Unit {0}) × L x) s j p (λ _ l. (tt, l)) (λ _ l. l.1) h)))
