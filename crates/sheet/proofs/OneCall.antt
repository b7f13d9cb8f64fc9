-- A line has one call: its first letter tells the word, and its numbers can be read in one way only.
use Rattle.std.proofs.Common.{◌≡◌, ℕ, List, [], ◌∷◌, ◌++◌, sym, refl, ap, ◌∙◌, subst, arith}
use Rattle.std.proofs.lemmas.List.{append_cancel_right}
use Rattle.std.specs.List.{AllByRecursion}
use Rattle.expression.specs.Bytes.{Digit, blank_byte, line_end}
use Rattle.expression.specs.Grammar.{numeral}
use Rattle.rack.specs.Ledger.{Request}
use Rattle.sheet.specs.CallTexts.{Says}
use Rattle.sheet.specs.Grammar.{IsCallLine, Numbers, no_numbers, number_more}
use Rattle.sheet.specs.declared.call_names.CallName.{CallName}
use Rattle.sheet.proofs.CallParts.{Tail, call_parts, says_one, told_name}

-- The byte after a number is a blank, if there is one.
Blank : List ℕ → Type 0
Blank r = (c : ℕ) (t : List ℕ) → r ≡ c ∷ t → c ≡ blank_byte

blank : {r ns : List ℕ} → Numbers r ns → Blank r
unfolding Blank
blank no_numbers c t e = cc
blank (number_more h more) c t e = cc

digits_cut : (a b r q : List ℕ) → AllByRecursion Digit a → AllByRecursion Digit b → Blank r → Blank q → a ++ r ≡ b ++ q → (a ≡ b) × (r ≡ q)
unfolding Blank
digits_cut [] [] r q h k u v e = (refl, e)
digits_cut [] (c ∷ b) r q h k u v e = let f = u c (b ++ q) e in absurd (omega (arith, f, k.0.0))
digits_cut (c ∷ a) [] r q h k u v e = let f = v c (a ++ r) (sym e) in absurd (omega (arith, f, h.0.0))
digits_cut (c ∷ a) (d ∷ b) r q h k u v e =
    let f : c ≡ d = cc in
    let g : a ++ r ≡ b ++ q = cc in
    let (m, n) = digits_cut a b r q h.1 k.1 u v g in
    (cc, n)

numbers_same : {x y ns ms : List ℕ} → Numbers x ns → Numbers y ms → x ≡ y → ns ≡ ms
numbers_same no_numbers no_numbers e = refl
numbers_same no_numbers (number_more h more) e = cc
numbers_same (number_more h more) no_numbers e = cc
numbers_same (number_more {x = a} {rest = r} {ns = ns} h more) (number_more {x = b} {rest = q} {ns = ms} k rest) e =
    let f : a ++ r ≡ b ++ q = cc in
    let (g, l) = digits_cut a b r q h.digits k.digits (blank more) (blank rest) f in
    let m : ns ≡ ms = numbers_same more rest l in
    let n : numeral 0 a ≡ numeral 0 b = ap (numeral 0) g in
    cc

tail_one : {name other : CallName} {x y : List ℕ} {a b : Request} → Tail name a x → Tail other b y → name ≡ other → x ≡ y → a ≡ b
tail_one {name} {other} {x} {y} {a} {b} p q same e =
    let text : p.text ≡ q.text = append_cancel_right p.text q.text (line_end ∷ []) (sym p.is ∙ (e ∙ q.is)) in
    says_one (subst (λ n. Says n q.ns a) same (subst (λ ns. Says name ns a) (numbers_same p.numbers q.numbers text) p.says)) q.says

pub one_call : (x : List ℕ) (a b : Request) → IsCallLine x a → IsCallLine x b → a ≡ b
one_call x a b h k =
    let p = call_parts h in
    let q = call_parts k in
    let (same, _, rest) = told_name p.name q.name _ p.after _ q.after refl refl (sym p.is ∙ q.is) in
    tail_one p.tail q.tail same rest
