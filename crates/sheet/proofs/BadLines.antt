-- The first line without a value, found by going through the moduli, is the first that there is.
use Rattle.std.proofs.Common.{◌≡◌, ℕ, suc, ◌+◌, ◌<◌, List, [], ◌∷◌, ◌++◌, length, Some, None, Option, sym, refl, ap, ◌∙◌, arith, subst}
use Rattle.std.proofs.lemmas.List.{length-append}
use Rattle.algebra.specs.Field.{Arithmetic}
use Rattle.expression.specs.Fields.{arithmetic_of}
use Rattle.expression.specs.Values.{Expression, Value, value}
use Rattle.sheet.specs.BadLines.{bad_line, first_without, line_unless}
use Rattle.sheet.specs.Grammar.{Content}
use Rattle.sheet.specs.Limits.{first_modulus_line}
use Rattle.sheet.specs.Refusals.{AllValued, FirstBadLine, OnLine, among_carrying, among_spare, first_spare_line}

-- What stands before a place of a list stands there in any longer list that begins alike.
pub within : {E : Type 0} (bs cs before after : List E) (e d : E) → bs ++ (e ∷ cs) ≡ before ++ (d ∷ after) → length bs < length before
    → (rest : List E) × (before ≡ bs ++ (e ∷ rest))
within bs cs [] after e d eq h = absurd (omega arith)
within [] cs (b ∷ before) after e d eq h = (before, cc)
within (x ∷ bs) cs (b ∷ before) after e d eq h =
    let shorter : length bs < length before = omega arith in
    let tails : bs ++ (e ∷ cs) ≡ before ++ (d ∷ after) = cc in
    let (rest, is) = within bs cs before after e d tails shorter in
    (rest, cc)

module _ (f : Arithmetic) where
  abbrev Valued : List Expression → Type 0
  Valued es = (before after : List Expression) (e : Expression) → es ≡ before ++ (e ∷ after) → ¬ (value f e ≡ None)

  valued_none : Valued []
  valued_none [] after e eq = cc
  valued_none (b ∷ before) after e eq = cc

  valued_more : (d : Expression) (es : List Expression) (codes : List ℕ) → value f d ≡ Some codes → Valued es → Valued (d ∷ es)
  valued_more d es codes is v [] after e eq none = cc
  valued_more d es codes is v (b ∷ before) after e eq none =
      let tails : es ≡ before ++ (e ∷ after) = cc in
      v before after e tails none

  -- The first of some expressions without a value, the first of which stands on line n.
  record Found (n : ℕ) (es : List Expression) (line : ℕ) : Type 0 where
    before : List Expression
    after : List Expression
    modulus : Expression
    split : es ≡ before ++ (modulus ∷ after)
    place : line ≡ n + length before
    bad : value f modulus ≡ None
    valued : Valued before

  data Searched (n : ℕ) (es : List Expression) (later : Option ℕ) (line : ℕ) : Type 0 where
    here : Found n es line → Searched n es later line
    further : Valued es → later ≡ Some line → Searched n es later line

  searched : (n : ℕ) (es : List Expression) (later : Option ℕ) (line : ℕ) → first_without f n es later ≡ Some line → Searched n es later line
  searched n [] later line h = further valued_none h
  searched n (d ∷ es) later line h = go (value f d) refl (searched (suc n) es later line) h
    where
      more : (codes : List ℕ) → value f d ≡ Some codes → Searched (suc n) es later line → Searched n (d ∷ es) later line
      more codes is (here found) =
          here record {
            before = d ∷ found.before;
            after = found.after;
            modulus = found.modulus;
            split = ap (λ xs. d ∷ xs) found.split;
            place = omega (arith, found.place);
            bad = found.bad;
            valued = valued_more d found.before codes is found.valued;
          }
      more codes is (further valued later_is) = further (valued_more d es codes is valued) later_is

      go : (v : Value) → value f d ≡ v → (first_without f (suc n) es later ≡ Some line → Searched (suc n) es later line)
          → line_unless v n (first_without f (suc n) es later) ≡ Some line → Searched n (d ∷ es) later line
      go None is rest e =
          let first : line ≡ n = cc in
          here record { before = []; after = es; modulus = d; split = refl; place = omega (arith, first); bad = is; valued = valued_none }
      go (Some codes) is rest e = more codes is (rest e)

  all_valued : (n : ℕ) (es : List Expression) (later : Option ℕ) → first_without f n es later ≡ None → Valued es × (later ≡ None)
  all_valued n [] later h = (valued_none, h)
  all_valued n (d ∷ es) later h = go (value f d) refl (all_valued (suc n) es later) h
    where
      go : (v : Value) → value f d ≡ v → (first_without f (suc n) es later ≡ None → Valued es × (later ≡ None))
          → line_unless v n (first_without f (suc n) es later) ≡ None → Valued (d ∷ es) × (later ≡ None)
      go None is rest e = cc
      go (Some codes) is rest e = let (valued, none) = rest e in (valued_more d es codes is valued, none)

module _ (content : Content) where
  abbrev field : Arithmetic
  field = arithmetic_of content.field

  before_carrying : {line : ℕ} (found : Found field first_modulus_line content.carrying line) {l : ℕ} {e : Expression} → OnLine content l e → l < line
      → ¬ (value field e ≡ None)
  before_carrying found (among_carrying before after {e} eq) h =
      let (rest, is) = within before after found.before found.after e found.modulus (sym eq ∙ found.split) (omega (arith, found.place)) in
      found.valued before rest e is
  before_carrying found (among_spare before after {e} eq) h =
      let long : length content.carrying ≡ length found.before + suc (length found.after) =
      ap length found.split ∙ length-append found.before (found.modulus ∷ found.after) in
      absurd (omega (arith, found.place, long))

  before_spare : {line : ℕ} → Valued field content.carrying → (found : Found field (first_spare_line content) content.spare line) {l : ℕ} {e : Expression}
      → OnLine content l e → l < line → ¬ (value field e ≡ None)
  before_spare valued found (among_carrying before after {e} eq) h = valued before after e eq
  before_spare valued found (among_spare before after {e} eq) h =
      let (rest, is) = within before after found.before found.after e found.modulus (sym eq ∙ found.split) (omega (arith, found.place)) in
      found.valued before rest e is

  in_carrying : {line : ℕ} → Found field first_modulus_line content.carrying line → FirstBadLine content line
  in_carrying found = record {
    modulus = found.modulus;
    there = subst (λ (l : ℕ). OnLine content l found.modulus) (sym found.place) (among_carrying found.before found.after found.split);
    bad = found.bad;
    before = λ l e h on. before_carrying found on h;
  }

  in_spare : {line : ℕ} → Valued field content.carrying → Found field (first_spare_line content) content.spare line → FirstBadLine content line
  in_spare valued found = record {
    modulus = found.modulus;
    there = subst (λ (l : ℕ). OnLine content l found.modulus) (sym found.place) (among_spare found.before found.after found.split);
    bad = found.bad;
    before = λ l e h on. before_spare valued found on h;
  }

  later : {line : ℕ} → Valued field content.carrying → Searched field (first_spare_line content) content.spare None line → FirstBadLine content line
  later valued (here found) = in_spare valued found
  later valued (further others is) = cc

  of_search : {line : ℕ} → Searched field first_modulus_line content.carrying (first_without field (first_spare_line content) content.spare None) line → FirstBadLine content line
  of_search (here found) = in_carrying found
  of_search {line} (further valued is) = later valued (searched field (first_spare_line content) content.spare None line is)

  pub first_bad : (line : ℕ) → bad_line content ≡ Some line → FirstBadLine content line
  first_bad line h = of_search (searched field first_modulus_line content.carrying (first_without field (first_spare_line content) content.spare None) line h)

  valued_lines : Valued field content.carrying → Valued field content.spare → {l : ℕ} {e : Expression} → OnLine content l e → ¬ (value field e ≡ None)
  valued_lines carrying spare (among_carrying before after {e} eq) = carrying before after e eq
  valued_lines carrying spare (among_spare before after {e} eq) = spare before after e eq

  pub none_bad : bad_line content ≡ None → AllValued content
  none_bad h =
      let (carrying, rest) = all_valued field first_modulus_line content.carrying (first_without field (first_spare_line content) content.spare None) h in
      let (spare, _) = all_valued field (first_spare_line content) content.spare None rest in
      λ l e on. valued_lines carrying spare on
