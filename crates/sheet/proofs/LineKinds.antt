-- The kinds of lines: each line holds byte 10 at its end only, and there is one of each kind.
use Rattle.std.proofs.Common.{◌≡◌, ℕ, List, [], ◌∷◌, get_or, ◌++◌, codes, sym, refl, ap, ◌∙◌, append_assoc, arith, lit≤, rules}
use Rattle.std.proofs.ByRecursion.{All-weaker}
use Rattle.std.specs.List.{AllByRecursion}
use Rattle.expression.specs.Bytes.{Digit, line_end}
use Rattle.expression.proofs.Unambiguous.{one_expression}
use Rattle.expression.specs.Fields.{field_word}
use Rattle.expression.specs.Grammar.{IsModulusLine, Kind, Phrase, a_number, a_power, a_z, in_brackets, one_factor, one_term, plus, times}
use Rattle.expression.specs.Lines.{AnyLine}
use Rattle.expression.specs.Values.{Expression, power}
use Rattle.expression.specs.declared.names.FieldName.{FieldName}
use Rattle.expression.specs.declared.names.FieldName.TheVariants.{Bits, Bytes, Clock}
use Rattle.rack.specs.Ledger.{Request, opens}
use Rattle.sheet.specs.CallNames.{word}
use Rattle.sheet.specs.Grammar.{IsCallLine, IsCallNumber, IsFieldLine, Numbers, no_numbers, number_more, open_line}
use Rattle.sheet.specs.Limits.{most_calls, most_moduli}
use Rattle.sheet.specs.Parts.{AnyFieldLine}
use Rattle.sheet.specs.declared.call_names.CallName.{CallName}
use Rattle.sheet.specs.declared.call_names.CallName.TheVariants.{Close, Measure, Open, Put, Read, Strike}
use Rattle.sheet.proofs.CallParts.{call_parts}
use Rattle.sheet.proofs.Ended.{Ended, Plain, plain_append, told_lines}
use Rattle.sheet.proofs.FieldNames.{named_by, names}
use Rattle.sheet.proofs.OneCall.{one_call}
use Rattle.sheet.proofs.Rows.{SectionKind}

plain_digits : (x : List ℕ) → AllByRecursion Digit x → Plain x
plain_digits x h = All-weaker Digit (λ b. ¬ (b ≡ line_end)) (λ b d e. omega (arith, d.0)) x h

plain_phrase : {k : Kind} {n : ℕ} {x : List ℕ} {e : Expression} → Phrase k n x e → Plain x
plain_phrase (a_number {x = x} h) = plain_digits x h.digits
plain_phrase a_z = ((λ e. omega arith), tt)
plain_phrase (a_power {x = x} h) = ((λ e. omega arith), ((λ e. omega arith), plain_digits x h.digits))
plain_phrase (in_brackets {x = x} h) = ((λ e. omega arith), plain_append x _ (plain_phrase h) ((λ e. omega arith), tt))
plain_phrase (one_factor h) = plain_phrase h
plain_phrase (times {x = x} h k) = plain_append x _ (plain_phrase h) ((λ e. omega arith), plain_phrase k)
plain_phrase (one_term h) = plain_phrase h
plain_phrase (plus {x = x} h k) = plain_append x _ (plain_phrase h) ((λ e. omega arith), plain_phrase k)

modulus_ended : (x : List ℕ) → AnyLine x → Ended x
modulus_ended x (e, h) = record { text = h.text; plain = plain_phrase h.phrase; is = h.is }

plain_field : (name : FieldName) → Plain (field_word name)
plain_field Bits = search rules
plain_field Bytes = search rules
plain_field Clock = search rules

field_ended : (x : List ℕ) → AnyFieldLine x → Ended x
field_ended x (name, e) = record { text = field_word name; plain = plain_field name; is = e }

pub plain_numbers : {x ns : List ℕ} → Numbers x ns → Plain x
plain_numbers no_numbers = tt
plain_numbers (number_more {x} {rest} h more) = ((λ e. omega arith), plain_append x rest (plain_digits x h.digits) (plain_numbers more))

plain_name : (name : CallName) → Plain (word name)
plain_name Open = search rules
plain_name Put = search rules
plain_name Strike = search rules
plain_name Read = search rules
plain_name Measure = search rules
plain_name Close = search rules

call_ended : {x : List ℕ} {r : Request} → IsCallLine x r → Ended x
call_ended line =
    let p = call_parts line in
    let t = p.tail in
    record {
      text = word p.name ++ t.text;
      plain = plain_append (word p.name) t.text (plain_name p.name) (plain_numbers t.numbers);
      is = p.is ∙ (ap (λ u. word p.name ++ u) t.is ∙ sym (append_assoc (word p.name) t.text (line_end ∷ [])));
    }

one_field : (a b : FieldName) (x : List ℕ) → IsFieldLine x a → IsFieldLine x b → a ≡ b
one_field a b x e f = sym (names a (line_end ∷ [])) ∙ (ap (λ l. named_by (get_or l 1 0)) (sym e ∙ f) ∙ names b (line_end ∷ []))

pub field_kind : SectionKind IsFieldLine 1 1
field_kind = record {
  few = lit≤ tt;
  told = told_lines (λ name x. IsFieldLine x name) (λ name x h. field_ended x (name, h)) one_field;
  line = codes "bits\n";
  some = (Bits, refl);
}

pub modulus_kind : SectionKind IsModulusLine 1 most_moduli
modulus_kind = record {
  few = lit≤ tt;
  told = told_lines (λ e x. IsModulusLine x e) (λ e x h. modulus_ended x (e, h)) (λ a b x. one_expression x a b);
  line = codes "z\n";
  some = (power 1, record { text = codes "z"; phrase = one_term (one_factor a_z); is = refl });
}

a_zero : IsCallNumber (48 ∷ [])
a_zero = record { some = lit≤ tt; few = lit≤ tt; digits = ((lit≤ tt, lit≤ tt), tt) }

pub call_kind : SectionKind IsCallLine 0 most_calls
call_kind = record {
  few = lit≤ tt;
  told = told_lines (λ r x. IsCallLine x r) (λ r x h. call_ended h) (λ a b x. one_call x a b);
  line = codes "open 0 0\n";
  some = (opens 0 0, open_line (number_more a_zero (number_more a_zero no_numbers)));
}
