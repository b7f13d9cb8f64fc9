-- Lawful sheets meet no ground, and what meets none is lawful.
use Rattle.std.proofs.Common.{◌≡◌, ℕ, zero, suc, ◌<◌, ◌≤◌, ◌⊎◌, List, ◌∷◌, ◌++◌, length, take, Some, None, Option, sym, refl, ap, ◌∙◌, subst, inl, inr, append_assoc, arith}
use Rattle.expression.specs.Fields.{arithmetic_of}
use Rattle.expression.specs.Values.{Expression}
use Rattle.sheet.specs.BadLines.{bad_line}
use Rattle.sheet.specs.Grammar.{Content, IsSheet}
use Rattle.sheet.specs.Limits.{first_modulus_line, longest_sheet}
use Rattle.sheet.specs.Laws.{HasCodes, LawfulOrGround, MeetsNone}
use Rattle.sheet.specs.Refusals.{AllValued, FirstBadLine, Lawful, NoValue, OnLine, Viable, among_carrying, among_spare, codes_of, first_spare_line, moduli_codes}
use Rattle.sheet.proofs.BadLines.{first_bad, none_bad}
use Rattle.sheet.proofs.Contents.{one_content}
use Rattle.sheet.proofs.Noting.{codes_none, codes_whole}
use Rattle.sheet.proofs.Wholes.{some_sheet}

-- Where every modulus has a value, no line is bad.
valued_not_bad : (content : Content) (line : ℕ) → AllValued content → ¬ (FirstBadLine content line)
valued_not_bad content line valued first = valued line first.modulus first.there first.bad

pub meets_none : (bytes : List ℕ) → Lawful bytes → MeetsNone bytes
meets_none bytes (content, lawful) = record {
  first = λ long. omega (arith, long, lawful.short);
  second = λ place stops. stops.no_sheet content lawful.written;
  third = λ line lacks.
      let same = one_content bytes content lacks.content lawful.written lacks.written in
      valued_not_bad lacks.content line (subst AllValued same lawful.valued) lacks.first;
}

module _ (bytes : List ℕ) (none : MeetsNone bytes) (unlawful : ¬ (Lawful bytes)) where
  short : length bytes ≤ longest_sheet
  short = let first = none.first in omega arith

  no_sheet : (content : Content) → ¬ (IsSheet bytes content)
  no_sheet content written = go (bad_line content) refl
    where
      go : (bad : Option ℕ) → bad_line content ≡ bad → ⊥
      go None is = unlawful (content, record { short = short; written = written; valued = none_bad content is })
      go (Some line) is = none.third line (record { content = content; written = written; first = first_bad content line is })

  -- No beginning from k on is viable.
  abbrev DeadFrom : ℕ → Type 0
  DeadFrom k = (j : ℕ) → k < j → j ≤ length bytes → ¬ (Viable (take j bytes))

  dead : (k : ℕ) → k ≤ length bytes → DeadFrom k → ¬ (Viable (take k bytes))
  dead k within longer viable =
      none.second k (record { no_sheet = no_sheet; within = within; viable = viable; longest = longer })

  all_dead : (k : ℕ) → k ≤ length bytes → DeadFrom k → ⊥
  all_dead zero within longer = dead zero within longer (some_sheet.0, some_sheet.1)
  all_dead (suc k) within longer = all_dead k (omega arith) (λ j lt w. here j w (split j lt))
    where
      split : (j : ℕ) → k < j → (j ≡ suc k) ⊎ (suc k < j)
      split j lt = grind arith

      here : (j : ℕ) → j ≤ length bytes → (j ≡ suc k) ⊎ (suc k < j) → ¬ (Viable (take j bytes))
      here j w (inl is) viable = dead (suc k) within longer (subst (λ n. Viable (take n bytes)) is viable)
      here j w (inr lt) viable = longer j lt w viable

  no_third : ⊥
  no_third = all_dead (length bytes) (omega arith) (λ j lt w. absurd (omega arith))

pub lawful_or_ground : (bytes : List ℕ) → LawfulOrGround bytes
lawful_or_ground bytes = record { lawful = meets_none bytes; no_third = no_third bytes }

-- The two ways to say that every modulus has a value.
pub codes_of_valued : (content : Content) → AllValued content → HasCodes content
codes_of_valued content valued = go (bad_line content) refl
  where
    go : (bad : Option ℕ) → bad_line content ≡ bad → HasCodes content
    go None is = (_, codes_whole (arithmetic_of content.field) first_modulus_line (first_spare_line content) content.carrying content.spare is)
    go (Some line) is = absurd (valued_not_bad content line valued (first_bad content line is))

module _ (content : Content) where
  none_on : {line : ℕ} {e : Expression} → OnLine content line e → NoValue content e → codes_of content ≡ None
  none_on (among_carrying before after {e} is) bad =
      ap (moduli_codes (arithmetic_of content.field)) (ap (λ es. es ++ content.spare) is ∙ append_assoc before (e ∷ after) content.spare)
      ∙ codes_none (arithmetic_of content.field) before (after ++ content.spare) e bad
  none_on (among_spare before after {e} is) bad =
      ap (moduli_codes (arithmetic_of content.field)) (ap (λ es. content.carrying ++ es) is ∙ sym (append_assoc content.carrying before (e ∷ after)))
      ∙ codes_none (arithmetic_of content.field) (content.carrying ++ before) after e bad

  pub valued_of_codes : HasCodes content → AllValued content
  valued_of_codes (codes, are) line e there bad = let none = none_on there bad in cc
