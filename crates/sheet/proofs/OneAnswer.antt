-- To the same bytes there is one answer.
use Rattle.std.proofs.Common.{◌≡◌, ℕ, ◌<◌, List, length, Some, Ok, Err, sym, refl, ap, ◌∙◌, subst, arith}
use Rattle.sheet.specs.Grammar.{Content}
use Rattle.sheet.specs.Laws.{OneAnswer, SameSheet}
use Rattle.sheet.specs.Refusals.{FirstBadLine, Gives, LacksValue, StopsAt, codes_of}
use Rattle.sheet.specs.declared.faults.SheetFault.TheVariants.{NoModulus, NotASheet, TooLong}
use Rattle.sheet.specs.declared.sheets.Sheet.{Sheet}
use Rattle.sheet.proofs.Contents.{one_content}
use Rattle.sheet.proofs.Lawful.{meets_none}

neither_before : (a b : ℕ) → ¬ (a < b) → ¬ (b < a) → a ≡ b
neither_before a b h k = omega arith

one_place : (bytes : List ℕ) (p q : ℕ) → StopsAt bytes p → StopsAt bytes q → p ≡ q
one_place bytes p q a b = neither_before p q (λ lt. a.longest q lt b.within b.viable) (λ lt. b.longest p lt a.within a.viable)

first_one : (content : Content) (l m : ℕ) → FirstBadLine content l → FirstBadLine content m → l ≡ m
first_one content l m a b =
    neither_before l m (λ lt. b.before l a.modulus lt a.there a.bad) (λ lt. a.before m b.modulus lt b.there b.bad)

one_line : (bytes : List ℕ) (l m : ℕ) → LacksValue bytes l → LacksValue bytes m → l ≡ m
one_line bytes l m a b =
    let same = one_content bytes a.content b.content a.written b.written in
    first_one b.content l m (subst (λ c. FirstBadLine c l) same a.first) b.first

some_same : {X : Type 0} (x y : X) → Some x ≡ Some y → x ≡ y
some_same x y e = cc

same_sheet : (a b : Sheet) (c d : Content) → c ≡ d → Gives a c → Gives b d → SameSheet a b
same_sheet a b c d same g h = record {
  field = g.field_is ∙ (ap (λ c. c.field) same ∙ sym h.field_is);
  carriers = g.carriers_are ∙ (ap (λ c. length c.carrying) same ∙ sym h.carriers_are);
  moduli = some_same _ _ (sym g.moduli_are ∙ (ap codes_of same ∙ h.moduli_are));
  calls = g.calls_are ∙ (ap (λ c. c.calls) same ∙ sym h.calls_are);
}

pub one_answer : OneAnswer
one_answer bytes (Ok a) (Ok b) (c, k, g) (d, l, h) = same_sheet a b c d (one_content bytes c d k.written l.written) g h
one_answer bytes (Ok a) (Err TooLong) (c, k, _) long = (meets_none bytes (c, k)).first long
one_answer bytes (Ok a) (Err (NotASheet p)) (c, k, _) (_, stops) = (meets_none bytes (c, k)).second p stops
one_answer bytes (Ok a) (Err (NoModulus l)) (c, k, _) (_, lacks) = (meets_none bytes (c, k)).third l lacks
one_answer bytes (Err TooLong) (Ok b) long (c, k, _) = (meets_none bytes (c, k)).first long
one_answer bytes (Err (NotASheet p)) (Ok b) (_, stops) (c, k, _) = (meets_none bytes (c, k)).second p stops
one_answer bytes (Err (NoModulus l)) (Ok b) (_, lacks) (c, k, _) = (meets_none bytes (c, k)).third l lacks
one_answer bytes (Err TooLong) (Err TooLong) _ _ = refl
one_answer bytes (Err TooLong) (Err (NotASheet _)) long (not, _) = absurd (not long)
one_answer bytes (Err TooLong) (Err (NoModulus _)) long (not, _) = absurd (not long)
one_answer bytes (Err (NotASheet _)) (Err TooLong) (not, _) long = absurd (not long)
one_answer bytes (Err (NoModulus _)) (Err TooLong) (not, _) long = absurd (not long)
one_answer bytes (Err (NotASheet p)) (Err (NotASheet q)) (_, a) (_, b) = ap NotASheet (one_place bytes p q a b)
one_answer bytes (Err (NotASheet _)) (Err (NoModulus _)) (_, a) (_, b) = absurd (a.no_sheet b.content b.written)
one_answer bytes (Err (NoModulus _)) (Err (NotASheet _)) (_, a) (_, b) = absurd (b.no_sheet a.content a.written)
one_answer bytes (Err (NoModulus l)) (Err (NoModulus m)) (_, a) (_, b) = ap NoModulus (one_line bytes l m a b)
