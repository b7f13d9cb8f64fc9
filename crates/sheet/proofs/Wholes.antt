-- The whole sheet: four sections, and nothing after them.
use Rattle.std.proofs.Common.{◌≡◌, ℕ, ◌+◌, ◌<◌, ◌≤◌, ◌⊎◌, List, [], ◌∷◌, ◌++◌, length, get_or, take, sym, refl, ap, ◌∙◌, subst, inl, inr, append_assoc, append-nil, arith, lit≤}
use Rattle.std.proofs.lemmas.List.{take_all}
use Rattle.std.proofs.lemmas.Slice.{between_from_start}
use Rattle.std.specs.List.{between}
use Rattle.expression.specs.Grammar.{IsModulusLine}
use Rattle.expression.specs.Texts.{Got, Lost}
use Rattle.expression.specs.Values.{Expression}
use Rattle.expression.specs.declared.names.FieldName.{FieldName}
use Rattle.rack.specs.Ledger.{Request}
use Rattle.sheet.specs.Grammar.{IsCallLine, IsFieldLine, IsSection, IsSheet}
use Rattle.sheet.specs.Limits.{most_calls, most_moduli}
use Rattle.sheet.specs.Refusals.{StopsAt}
use Rattle.sheet.specs.Sections.{AnyCalls, AnyField, AnyModuli}
use Rattle.sheet.specs.Sequences.{Any, Then}
use Rattle.sheet.proofs.Between.{part_first, part_join}
use Rattle.sheet.proofs.Chains.{Alone, dies, got_lost, lost_first, lost_like, told_after}
use Rattle.sheet.proofs.FieldSections.{alone_fields, some_field}
use Rattle.sheet.proofs.LineKinds.{call_kind, modulus_kind}
use Rattle.sheet.proofs.Rows.{alone_section, some_section}

alone_moduli : Alone AnyModuli
alone_moduli = alone_section modulus_kind

alone_calls : Alone AnyCalls
alone_calls = alone_section call_kind

-- The sections from each on.
abbrev FromSpare : List ℕ → Type 0
FromSpare text = Then AnyModuli AnyCalls text

abbrev FromCarrying : List ℕ → Type 0
FromCarrying text = Then AnyModuli FromSpare text

abbrev Sections : List ℕ → Type 0
Sections text = Then AnyField FromCarrying text

to_sections : (x : List ℕ) → Any IsSheet x → Sections x
to_sections x (c, h) = (
  tt,
  (
    h.field_text,
    (
      h.carrying_text ++ (h.spare_text ++ h.calls_text),
      (c.field, h.field_section),
      (
        tt,
        (
          h.carrying_text,
          (
            h.spare_text ++ h.calls_text,
            (c.carrying, h.carrying_section),
            (tt, (h.spare_text, (h.calls_text, (c.spare, h.spare_section), (c.calls, h.calls_section), refl))),
            refl,
          ),
        ),
      ),
      h.is,
    ),
  ),
)

from_sections : (x : List ℕ) → Sections x → Any IsSheet x
from_sections x (_, (a, (_, (name, f), (_, (b, (_, (cs, g), (_, (d, (e, (ss, h), (qs, k), p))), q))), r))) = (
  record { field = name; carrying = cs; spare = ss; calls = qs },
  record {
    field_text = a;
    carrying_text = b;
    spare_text = d;
    calls_text = e;
    field_section = f;
    carrying_section = g;
    spare_section = h;
    calls_section = k;
    is = r ∙ ap (λ u. a ++ u) (q ∙ ap (λ u. b ++ u) p);
  },
)

alone_then : (L M : List ℕ → Type 0) → Alone L → Alone M → Alone (Then L M)
alone_then L M one two = told_after {X = Unit {0}} (λ _. L) (λ _. M) one (λ _. two)

pub alone_sheet : Alone (Any IsSheet)
alone_sheet _ _ x y a b p q e =
    alone_then AnyField FromCarrying alone_fields (alone_then AnyModuli FromSpare alone_moduli (alone_then AnyModuli AnyCalls alone_moduli alone_calls)) tt tt x y a b
    (to_sections x p) (to_sections a q) e

-- Sections that could follow.
some_moduli : (text : List ℕ) × AnyModuli text
some_moduli = some_section modulus_kind (lit≤ tt) (lit≤ tt)

some_calls : (text : List ℕ) × AnyCalls text
some_calls = some_section call_kind (lit≤ tt) (lit≤ tt)

some_spare : (text : List ℕ) × FromSpare text
some_spare = (some_moduli.0 ++ some_calls.0, (tt, (some_moduli.0, (some_calls.0, some_moduli.1, some_calls.1, refl))))

some_carrying : (text : List ℕ) × FromCarrying text
some_carrying = (some_moduli.0 ++ some_spare.0, (tt, (some_moduli.0, (some_spare.0, some_moduli.1, some_spare.1, refl))))

pub some_sheet : (text : List ℕ) × Any IsSheet text
some_sheet =
    let text = some_field.0 ++ some_carrying.0 in
    (text, from_sections text (tt, (some_field.0, (some_carrying.0, some_field.1, some_carrying.1, refl))))

module _ (L M : List ℕ → Type 0) (one : Alone L) (s : List ℕ) where
  first : ((rest : List ℕ) × M rest) → (i p : ℕ) → Lost L s i p → Lost (Then L M) s i p
  first follow i p h =
      lost_first {X = Unit {0}} (λ _. L) (λ _. M) one s (λ _. follow) i p (lost_like L (λ x. (v : Unit {0}) × L x) s i p (λ _ l. (tt, l)) (λ _ l. l.1) h)

  later : (i j p : ℕ) → Got L s i j → Lost M s j p → Lost (Then L M) s i p
  later i j p g h = got_lost {X = Unit {0}} (λ _. L) (λ _. M) one s tt i j p g h

module _ (s : List ℕ) (p : ℕ) where
  lost_sheet : Lost Sections s 0 p → Lost (Any IsSheet) s 0 p
  lost_sheet h = lost_like Sections (Any IsSheet) s 0 p from_sections to_sections h

  pub field_lost : Lost AnyField s 0 p → Lost (Any IsSheet) s 0 p
  field_lost h = lost_sheet (first AnyField FromCarrying alone_fields s some_carrying 0 p h)

  pub carrying_lost : (i : ℕ) → Got AnyField s 0 i → Lost AnyModuli s i p → Lost (Any IsSheet) s 0 p
  carrying_lost i f h = lost_sheet (later AnyField FromCarrying alone_fields s 0 i p f (first AnyModuli FromSpare alone_moduli s some_spare i p h))

  pub spare_lost : (i j : ℕ) → Got AnyField s 0 i → Got AnyModuli s i j → Lost AnyModuli s j p → Lost (Any IsSheet) s 0 p
  spare_lost i j f g h =
      lost_sheet (later AnyField FromCarrying alone_fields s 0 i p f (later AnyModuli FromSpare alone_moduli s i j p g
      (first AnyModuli AnyCalls alone_moduli s some_calls j p h)))

  pub calls_lost : (i j k : ℕ) → Got AnyField s 0 i → Got AnyModuli s i j → Got AnyModuli s j k → Lost AnyCalls s k p → Lost (Any IsSheet) s 0 p
  calls_lost i j k f g h l =
      lost_sheet (later AnyField FromCarrying alone_fields s 0 i p f (later AnyModuli FromSpare alone_moduli s i j p g (later AnyModuli AnyCalls alone_moduli s j k p h l)))

pub sheet_got : (s : List ℕ) (i j k l : ℕ) (name : FieldName) (cs ss : List Expression) (qs : List Request)
    → Got (λ x. IsSection 1 1 IsFieldLine x (name ∷ [])) s 0 i → Got (λ x. IsSection 1 most_moduli IsModulusLine x cs) s i j
    → Got (λ x. IsSection 1 most_moduli IsModulusLine x ss) s j k → Got (λ x. IsSection 0 most_calls IsCallLine x qs) s k l
    → Got (λ x. IsSheet x (record { field = name; carrying = cs; spare = ss; calls = qs })) s 0 l
sheet_got s i j k l name cs ss qs f g h m = record {
  more = omega arith;
  within = m.within;
  is = record {
    field_text = between 0 i s;
    carrying_text = between i j s;
    spare_text = between j k s;
    calls_text = between k l s;
    field_section = f.is;
    carrying_section = g.is;
    spare_section = h.is;
    calls_section = m.is;
    is = part_join s 0 i l f.more (omega (arith, g.more, h.more, m.more))
        ∙ ap (λ u. between 0 i s ++ u) (part_join s i j l g.more (omega (arith, h.more, m.more)) ∙ ap (λ u. between i j s ++ u) (part_join s j k l h.more m.more));
  };
}

all : (s : List ℕ) → take (length s) s ≡ s
all s = take_all (length s) s (omega arith)

longer : (s : List ℕ) (p k : ℕ) (t : List ℕ) → p < k → k ≤ length s → take k s ++ t ≡ between 0 p s ++ (get_or s p 0 ∷ (between (p + 1) k s ++ t))
longer s p k t h w =
    ap (λ x. x ++ t) (sym (between_from_start s k) ∙ part_join s 0 p k (omega arith) (omega arith))
    ∙ (append_assoc (between 0 p s) (between p k s) t ∙ ap (λ x. between 0 p s ++ (x ++ t)) (part_first s p k h w))

pub got_whole : (L : List ℕ → Type 0) (s : List ℕ) (j : ℕ) → Got L s 0 j → j ≡ length s → L s
got_whole L s j g e = subst L (between_from_start s j ∙ (ap (λ k. take k s) e ∙ all s)) g.is

pub stops : (s : List ℕ) (p : ℕ) → Lost (Any IsSheet) s 0 p → StopsAt s p
stops s p h = record {
  no_sheet = λ c l. none (c, l) split;
  within = h.within;
  viable = (h.begins.0, subst (λ x. Any IsSheet (x ++ h.begins.0)) (between_from_start s p) h.begins.1);
  longest = λ k lt w (t, l). past k lt w t l;
}
  where
    split : (p ≡ length s) ⊎ (p < length s)
    split = let w = h.within in grind arith

    past : (k : ℕ) → p < k → k ≤ length s → (t : List ℕ) → Any IsSheet (take k s ++ t) → ⊥
    past k lt w t l = dies (Any IsSheet) s 0 p h (omega arith) (between (p + 1) k s ++ t) (subst (Any IsSheet) (longer s p k t lt w) l)

    none : Any IsSheet s → (p ≡ length s) ⊎ (p < length s) → ⊥
    none l (inl e) = h.short (subst (Any IsSheet) (sym (between_from_start s p ∙ (ap (λ k. take k s) e ∙ all s))) l)
    none l (inr lt) = past (length s) lt (omega arith) [] (subst (Any IsSheet) (sym (append-nil (take (length s) s) ∙ all s)) l)

-- Bytes after the last section.
pub stops_after : (s : List ℕ) (j : ℕ) → Got (Any IsSheet) s 0 j → ¬ (j ≡ length s) → StopsAt s j
stops_after s j g ne = record {
  no_sheet = λ c l. past (length s) (omega (arith, g.within)) (omega arith) [] (subst (Any IsSheet) (sym (append-nil (take (length s) s) ∙ all s)) (c, l));
  within = g.within;
  viable = ([], subst (Any IsSheet) (between_from_start s j ∙ sym (append-nil (take j s))) g.is);
  longest = λ k lt w (t, l). past k lt w t l;
}
  where
    past : (k : ℕ) → j < k → k ≤ length s → (t : List ℕ) → Any IsSheet (take k s ++ t) → ⊥
    past k lt w t l =
        let e = longer s j k t lt w in
        let (_, _, z) = alone_sheet tt tt (between 0 j s) (get_or s j 0 ∷ (between (j + 1) k s ++ t)) (take k s ++ t) [] g.is l (sym e ∙ sym (append-nil (take k s ++ t))) in
        let o : ◌≡◌ {A = ℕ} 0 1 = cc in
        omega arith
