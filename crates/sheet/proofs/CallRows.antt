-- Numbers one after the other, as the readers tell them.
use Rattle.std.proofs.Common.{◌≡◌, ℕ, ◌+◌, ◌<◌, ◌≤◌, List, [], ◌∷◌, ◌++◌, length, sym, ap, ◌∙◌, subst, inl, inr, append_assoc, append-nil, arith, length-append}
use Rattle.std.proofs.lemmas.List.Edits.{between_none, length-between}
use Rattle.std.specs.List.{between}
use Rattle.expression.specs.Bytes.{blank_byte}
use Rattle.expression.specs.Grammar.{numeral}
use Rattle.expression.specs.Readings.{DigitsTo}
use Rattle.expression.specs.Texts.{Stands}
use Rattle.sheet.specs.CallNumbers.{NoNumber, NumberAt, NumberText, NumbersAt, NumbersLost, none_at, one_more_at}
use Rattle.sheet.specs.Grammar.{IsCallNumber, Numbers, no_numbers, number_more}
use Rattle.sheet.specs.Limits.{most_call_digits}
use Rattle.sheet.proofs.Between.{part_first, part_join}

-- The digits that were found after a blank are a number.
pub number_text : {s : List ℕ} {i j end : ℕ} {x : List ℕ} → Stands blank_byte s i → DigitsTo most_call_digits s (i + 1) j → (j ≡ i + 1 → ⊥)
    → x ≡ between (i + 1) j s → end ≡ j → NumberText s i end x
number_text {s} {i} {j} {end} {x} (h, e) d some text ends =
    let len = length-between s (i + 1) j d.within in
    let more = d.more in
    let few = d.few in
    rw (text, ends) (record {
      more = omega arith;
      within = d.within;
      is = part_first s i j (omega arith) d.within ∙ ap (λ b. b ∷ between (i + 1) j s) e;
      number = record { some = omega arith; few = omega arith; digits = d.digits };
      stops = λ k. d.stops (omega arith);
    })

pub row_length : {s : List ℕ} {i j : ℕ} {ns : List ℕ} → NumbersAt s i j ns → (i ≤ j) × (j ≤ length s)
row_length (none_at h) = (omega arith, h)
row_length (one_more_at row number) =
    let (a, b) = row_length row in
    let m = number.text.more in
    (omega arith, number.text.within)

-- One row after another.
pub rows : {s : List ℕ} {i j k : ℕ} {ns ms : List ℕ} → NumbersAt s i j ns → NumbersAt s j k ms → NumbersAt s i k (ns ++ ms)
rows {s = s} {i = i} {ns = ns} first (none_at h) = subst (NumbersAt s i _) (sym (append-nil ns)) first
rows {s = s} {i = i} {ns = ns} first (one_more_at {n = n} {ns = ms} row number) =
    subst (NumbersAt s i _) (append_assoc ns ms (n ∷ [])) (one_more_at (rows first row) number)

pub one_at : {s : List ℕ} {i j n : ℕ} → NumberAt s i j n → i ≤ length s → NumbersAt s i j (n ∷ [])
one_at number h = one_more_at (none_at h) number

pub one_code_more : {s : List ℕ} {i j k n : ℕ} {ns ms : List ℕ} → NumbersAt s i j ns → NumberAt s j k n → ms ≡ ns ++ n ∷ [] → NumbersAt s i k ms
one_code_more {s = s} {i = i} {k = k} row number is = subst (NumbersAt s i k) (sym is) (one_more_at row number)

-- A row that is lost after another that was read.
pub lost_after : {least most n : ℕ} {s : List ℕ} {i j p : ℕ} {ns : List ℕ} → NumbersAt s i j ns → length ns ≡ n → NumbersLost least most s j p
    → NumbersLost (n + least) (n + most) s i p
lost_after {least} {most} {n} {s} {i} {j} {p} {ns} row e lost =
    let len = length-append ns lost.ns in
    record {
      j = lost.j;
      ns = ns ++ lost.ns;
      before = rows row lost.before;
      wants = elim lost.wants [
        | inl (few, is, no_blank) ↦ inl (omega arith, is, no_blank)
        | inr (few, is, no_digit) ↦ inr (omega arith, is, no_digit)
      ];
    }

-- A number that is wanting after fewer than `least` others.
pub wanting : {least most : ℕ} {s : List ℕ} {i j p : ℕ} {ns : List ℕ} → NumbersAt s i j ns → length ns < least → length ns < most → NoNumber s j p
    → NumbersLost least most s i p
wanting {j = j} {ns = ns} row few fewer lost = record {
  j = j;
  ns = ns;
  before = row;
  wants = elim lost [ inl (is, no_blank) ↦ inl (few, is, no_blank) | inr (is, no_digit) ↦ inr (fewer, is, no_digit) ];
}

pub numbers_join : {x y : List ℕ} {ns ms : List ℕ} → Numbers x ns → Numbers y ms → Numbers (x ++ y) (ns ++ ms)
numbers_join no_numbers b = b
numbers_join {y = y} {ms = ms} (number_more {x = x} {rest = rest} {ns = ns} h a) b =
    subst (λ z. Numbers (blank_byte ∷ z) (numeral 0 x ∷ (ns ++ ms))) (sym (append_assoc x rest y)) (number_more h (numbers_join a b))

one_number : {x : List ℕ} → IsCallNumber x → Numbers (blank_byte ∷ x) (numeral 0 x ∷ [])
one_number {x = x} h = subst (λ z. Numbers (blank_byte ∷ z) (numeral 0 x ∷ [])) (append-nil x) (number_more h no_numbers)

-- What was read is of the grammar.
pub row_numbers : {s : List ℕ} {i j : ℕ} {ns : List ℕ} → NumbersAt s i j ns → Numbers (between i j s) ns
row_numbers {s = s} {i = i} (none_at h) = subst (λ x. Numbers x []) (sym (between_none s i)) no_numbers
row_numbers {s = s} {i = i} (one_more_at {j = j} {k = k} {n = n} {ns = ns} row number) =
    let (a, b) = row_length row in
    let more = number.text.more in
    let last : Numbers (between j k s) (n ∷ []) =
    subst (λ x. Numbers x (n ∷ [])) (sym number.text.is) (subst (λ m. Numbers (blank_byte ∷ number.digits) (m ∷ [])) (sym number.value) (one_number number.text.number)) in
    subst (λ x. Numbers x (ns ++ n ∷ [])) (sym (part_join s i j k a (omega arith))) (numbers_join (row_numbers row) last)
