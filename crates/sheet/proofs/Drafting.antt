-- From the answers of the sections to that of the sheet.
use Rattle.std.proofs.Common.{◌≡◌, ℕ, ◌+◌, List, [], ◌∷◌, ◌++◌, map, Some, None, vec_items, Option, sym, refl, ap, ◌∙◌}
use Rattle.std.specs.Global.{Vec}
use Rattle.std.specs.Option.{option_or}
use Rattle.algebra.specs.Field.{Arithmetic}
use Rattle.expression.specs.Fields.{arithmetic_of}
use Rattle.expression.specs.Grammar.{IsModulusLine}
use Rattle.expression.specs.Texts.{Got}
use Rattle.expression.specs.declared.names.FieldName.{FieldName}
use Rattle.expression.specs.declared.parsed.Parsed.{Parsed}
use Rattle.rack.specs.Racks.{given_by}
use Rattle.rack.specs.declared.call.Call.{Call}
use Rattle.sheet.specs.Drafts.{Drafted}
use Rattle.sheet.specs.Grammar.{Content, IsFieldLine, IsSection, IsSheet}
use Rattle.sheet.specs.Limits.{first_modulus_line, most_moduli}
use Rattle.sheet.specs.BadLines.{bad_line, first_without}
use Rattle.sheet.specs.Refusals.{codes_of, first_spare_line}
use Rattle.sheet.specs.Sections.{AnyField, AnyModuli, CallsRead, ModuliRead}
use Rattle.sheet.specs.Sequences.{Any}
use Rattle.sheet.specs.declared.moduli.Moduli.{Moduli}
use Rattle.sheet.proofs.Chains.{got_like}
use Rattle.sheet.proofs.Noting.{all_codes, codes_whole, first_later}
use Rattle.sheet.proofs.Wholes.{sheet_got}

pub any_field : (s : List ℕ) (i j : ℕ) (name : FieldName) → Got (λ x. IsSection 1 1 IsFieldLine x (name ∷ [])) s i j → Got AnyField s i j
any_field s i j name g = got_like (λ x. IsSection 1 1 IsFieldLine x (name ∷ [])) AnyField s i j (λ x h. (name, h)) g

pub any_moduli : (f : Arithmetic) (s : List ℕ) (i line : ℕ) (a b : Moduli) (c : Parsed ℕ) → ModuliRead f s i line a b c → Got AnyModuli s i c.end
any_moduli f s i line a b c r =
    got_like (λ x. IsSection 1 most_moduli IsModulusLine x r.expressions) AnyModuli s i c.end (λ x h. (r.expressions, h)) r.section

module _ (s : List ℕ) (name : FieldName) (i : ℕ) (m₀ m₁ m₂ : Moduli) (many more : Parsed ℕ) (called : Parsed (Vec Call))
    (none : m₀.bad ≡ None) (empty : vec_items m₀.codes ≡ []) (fields : Got (λ x. IsSection 1 1 IsFieldLine x (name ∷ [])) s 0 i)
    (carrying : ModuliRead (arithmetic_of name) s i first_modulus_line m₀ m₁ many) (spare : ModuliRead (arithmetic_of name) s many.end (first_modulus_line + many.value + 1) m₁ m₂ more)
    (calls : CallsRead s more.end called) where
  abbrev f : Arithmetic
  f = arithmetic_of name

  abbrev content : Content
  content =
      record { field = name; carrying = carrying.expressions; spare = spare.expressions; calls = map given_by (vec_items called.value) }

  abbrev bad_carrying : Option ℕ
  bad_carrying = first_without f first_modulus_line carrying.expressions None

  bads : m₂.bad ≡ bad_line content
  bads =
      spare.noted.bad_is
      ∙ (ap (λ b. option_or b (first_without f (first_modulus_line + many.value + 1) spare.expressions None))
      (carrying.noted.bad_is ∙ ap (λ b. option_or b bad_carrying) none)
      ∙ (ap (λ n. option_or bad_carrying (first_without f (first_modulus_line + n + 1) spare.expressions None)) carrying.count_is
      ∙ sym (first_later f first_modulus_line carrying.expressions (first_without f (first_spare_line content) spare.expressions None))))

  moduli : bad_line content ≡ None → codes_of content ≡ Some (vec_items m₂.codes)
  moduli h =
      codes_whole f first_modulus_line (first_spare_line content) carrying.expressions spare.expressions h
      ∙ ap (λ x. Some x) (sym (spare.noted.codes_are
      ∙ ap (λ x. x ++ all_codes f spare.expressions) (carrying.noted.codes_are ∙ ap (λ x. x ++ all_codes f carrying.expressions) empty)))

  pub drafted : Drafted s (record { field = name; carriers = many.value; moduli = m₂; calls = called.value }) called.end
  drafted = record {
    content = content;
    sheet = sheet_got s i many.end more.end called.end name carrying.expressions spare.expressions content.calls
        fields carrying.section spare.section calls.section;
    field_is = refl;
    carriers_are = carrying.count_is;
    bad_is = bads;
    moduli_are = moduli;
    calls_are = refl;
    has_room = calls.has_room;
  }

pub any_sheet : (s : List ℕ) (j : ℕ) (content : Content) → Got (λ x. IsSheet x content) s 0 j → Got (Any IsSheet) s 0 j
any_sheet s j content g = got_like (λ x. IsSheet x content) (Any IsSheet) s 0 j (λ x h. (content, h)) g
