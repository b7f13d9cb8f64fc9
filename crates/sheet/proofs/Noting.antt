-- The values of moduli, noted one line after the other.
use Rattle.std.proofs.Common.{◌≡◌, ℕ, suc, ◌+◌, List, [], ◌∷◌, ◌++◌, length, Some, None, vec_items, Option, sym, refl, ap, ◌∙◌, append_assoc, append-nil, arith}
use Rattle.std.proofs.lemmas.List.{flat_map_more, length_push}
use Rattle.std.specs.Option.{option_or}
use Rattle.std.specs.List.{flat_map}
use Rattle.algebra.specs.Field.{Arithmetic}
use Rattle.expression.specs.Values.{Expression, Value, value}
use Rattle.sheet.specs.BadLines.{first_without, line_unless}
use Rattle.sheet.specs.Refusals.{codes_after, moduli_codes}
use Rattle.sheet.specs.Sections.{Keeps, Noted, codes_in}
use Rattle.sheet.specs.declared.moduli.Moduli.{Moduli}

or_assoc : (a b c : Option ℕ) → option_or (option_or a b) c ≡ option_or a (option_or b c)
or_assoc None b c = refl
or_assoc (Some n) b c = refl

or_none : (a : Option ℕ) → option_or a None ≡ a
or_none None = refl
or_none (Some n) = refl

both_none : (a b : Option ℕ) → option_or a b ≡ None → (a ≡ None) × (b ≡ None)
both_none None b e = (refl, e)
both_none (Some n) b e = cc

unless_or : (v : Value) (n : ℕ) (a b : Option ℕ) → line_unless v n (option_or a b) ≡ option_or (line_unless v n a) b
unless_or None n a b = refl
unless_or (Some codes) n a b = refl

module _ (f : Arithmetic) where
  abbrev pub all_codes : List Expression → List ℕ
  all_codes es = flat_map (λ e. codes_in (value f e)) es

  pub first_later : (n : ℕ) (es : List Expression) (later : Option ℕ) → first_without f n es later ≡ option_or (first_without f n es None) later
  first_later n [] later = refl
  first_later n (e ∷ es) later =
      ap (line_unless (value f e) n) (first_later (suc n) es later) ∙ unless_or (value f e) n (first_without f (suc n) es None) later

  first_push : (n : ℕ) (es : List Expression) (e : Expression)
      → first_without f n (es ++ e ∷ []) None ≡ option_or (first_without f n es None) (line_unless (value f e) (n + length es) None)
  first_push n [] e = let k : n ≡ n + 0 = omega arith in ap (λ m. line_unless (value f e) m None) k
  first_push n (d ∷ es) e =
      let k : suc n + length es ≡ n + suc (length es) = omega arith in
      ap (line_unless (value f d) n) (first_push (suc n) es e ∙ ap (λ m. option_or (first_without f (suc n) es None) (line_unless (value f e) m None)) k)
      ∙ unless_or (value f d) n (first_without f (suc n) es None) (line_unless (value f e) (n + suc (length es)) None)

  pub noted_none : (line : ℕ) (m : Moduli) → Noted f line [] m m
  noted_none line m = record {
    codes_are = sym (append-nil (vec_items m.codes));
    bad_is = sym (or_none m.bad);
    few = omega arith;
    wide = omega arith;
  }

  pub noted_more : (line at : ℕ) (es : List Expression) (e : Expression) (v : Value) (a b c : Moduli) → at ≡ line + length es → v ≡ value f e
      → Noted f line es a b → Keeps at v b c → Noted f line (es ++ e ∷ []) a c
  noted_more line at es e v a b c is_at is_v n k = record {
    codes_are = k.codes_are ∙ (ap (λ x. x ++ codes_in v) n.codes_are
        ∙ (ap (λ w. (vec_items a.codes ++ all_codes es) ++ codes_in w) is_v ∙ flat_map_more (λ e. codes_in (value f e)) (vec_items a.codes) es e));
    bad_is = k.bad_is ∙ (ap (λ x. option_or x (line_unless v at None)) n.bad_is
        ∙ (ap (λ w. option_or (option_or a.bad (first_without f line es None)) (line_unless w at None)) is_v
        ∙ (ap (λ m. option_or (option_or a.bad (first_without f line es None)) (line_unless (value f e) m None)) is_at
        ∙ (or_assoc a.bad (first_without f line es None) (line_unless (value f e) (line + length es) None) ∙ ap (option_or a.bad) (sym (first_push line es e))))));
    few =
        let longer = length_push es e in
        omega (arith, k.few, n.few, longer);
    wide = omega (arith, k.wide, n.wide);
  }

  -- Where every expression has a value, the codes are those of all of them.
  pub codes_all : (n : ℕ) (es rest : List Expression) (codes : List ℕ) → first_without f n es None ≡ None → moduli_codes f rest ≡ Some codes
      → moduli_codes f (es ++ rest) ≡ Some (all_codes es ++ codes)
  codes_all n [] rest codes none e = e
  codes_all n (d ∷ es) rest codes none e = go (value f d) none (λ h. codes_all (suc n) es rest codes h e)
    where
      go : (v : Value) → line_unless v n (first_without f (suc n) es None) ≡ None
          → (first_without f (suc n) es None ≡ None → moduli_codes f (es ++ rest) ≡ Some (all_codes es ++ codes)) → codes_after v (moduli_codes f (es ++ rest)) ≡ Some ((codes_in v ++ all_codes es) ++ codes)
      go None h k = cc
      go (Some p) h k =
          ap (codes_after (Some p)) (k h) ∙ ap (λ x. Some x) (sym (append_assoc p (all_codes es) codes))

  -- The carrying and the spare moduli of a sheet, whose first lines are n and m.
  pub codes_whole : (n m : ℕ) (carrying spare : List Expression) → first_without f n carrying (first_without f m spare None) ≡ None
      → moduli_codes f (carrying ++ spare) ≡ Some (all_codes carrying ++ all_codes spare)
  codes_whole n m carrying spare none =
      let later = first_without f m spare None in
      let (p, q) = both_none (first_without f n carrying None) later (sym (first_later n carrying later) ∙ none) in
      let last = ap (moduli_codes f) (sym (append-nil spare)) ∙ codes_all m spare [] [] q refl in
      codes_all n carrying spare _ p last ∙ ap (λ x. Some (all_codes carrying ++ x)) (append-nil (all_codes spare))

  -- Where one expression has no value, there are none.
  pub codes_none : (before after : List Expression) (e : Expression) → value f e ≡ None → moduli_codes f (before ++ (e ∷ after)) ≡ None
  codes_none [] after e none = ap (λ v. codes_after v (moduli_codes f after)) none
  codes_none (d ∷ before) after e none = ap (codes_after (value f d)) (codes_none before after e none) ∙ none_after (value f d)
    where
      none_after : (v : Value) → codes_after v None ≡ None
      none_after None = refl
      none_after (Some p) = refl
