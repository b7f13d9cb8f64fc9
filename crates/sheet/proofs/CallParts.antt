-- What a line with a call is made of: a name, and after it the numbers of the call and the end of the line.
use Rattle.std.proofs.Common.{◌≡◌, ℕ, ◌≤◌, cond, eqb, List, [], ◌∷◌, ◌++◌, length, get_or, sym, refl, ap, ◌∙◌, subst, arith, lit≤}
use Rattle.std.proofs.lemmas.List.{append_cancel_left}
use Rattle.expression.specs.Bytes.{line_end}
use Rattle.rack.specs.Ledger.{Request}
use Rattle.sheet.specs.CallLines.{AnyCallLine}
use Rattle.sheet.specs.CallNames.{least_numbers, most_numbers, word}
use Rattle.sheet.specs.CallTexts.{Says, says_close, says_measure, says_open, says_put, says_read, says_strike}
use Rattle.sheet.specs.Grammar.{IsCallLine, Numbers, close_line, measure_line, open_line, put_line, read_line, strike_line}
use Rattle.sheet.specs.Sequences.{After}
use Rattle.sheet.specs.declared.call_names.CallName.{CallName}
use Rattle.sheet.specs.declared.call_names.CallName.TheVariants.{Close, Measure, Open, Put, Read, Strike}
use Rattle.sheet.proofs.Chains.{Told}

-- What stands after the name.
pub record Tail (name : CallName) (r : Request) (tail : List ℕ) : Type 0 where
  pub text : List ℕ
  pub ns : List ℕ
  pub numbers : Numbers text ns
  pub says : Says name ns r
  pub is : tail ≡ text ++ line_end ∷ []

abbrev pub AnyTail : CallName → List ℕ → Type 0
AnyTail name tail = (r : Request) × Tail name r tail

pub record CallParts (line : List ℕ) (r : Request) : Type 0 where
  pub name : CallName
  pub after : List ℕ
  pub tail : Tail name r after
  pub is : line ≡ word name ++ after

parts : (name : CallName) {x ns : List ℕ} {r : Request} → Numbers x ns → Says name ns r → CallParts (word name ++ (x ++ line_end ∷ [])) r
parts name h says = record { name = name; after = _; tail = record { text = _; ns = _; numbers = h; says = says; is = refl }; is = refl }

pub call_parts : {line : List ℕ} {r : Request} → IsCallLine line r → CallParts line r
call_parts (open_line h) = parts Open h says_open
call_parts (put_line h few) = parts Put h (says_put few)
call_parts (strike_line h) = parts Strike h says_strike
call_parts (read_line h) = parts Read h says_read
call_parts (measure_line h few) = parts Measure h (says_measure few)
call_parts (close_line h) = parts Close h says_close

says_line : {name : CallName} {x : List ℕ} {ns : List ℕ} {r : Request} → Says name ns r → Numbers x ns → IsCallLine (word name ++ (x ++ line_end ∷ [])) r
says_line says_open numbers = open_line numbers
says_line (says_put few) numbers = put_line numbers few
says_line says_strike numbers = strike_line numbers
says_line says_read numbers = read_line numbers
says_line (says_measure few) numbers = measure_line numbers few
says_line says_close numbers = close_line numbers

pub whole_line : {name : CallName} {tail : List ℕ} {r : Request} → Tail name r tail → IsCallLine (word name ++ tail) r
whole_line {name} {tail} {r} t = subst (λ x. IsCallLine (word name ++ x) r) (sym t.is) (says_line t.says t.numbers)

pub says_counts : {name : CallName} {ns : List ℕ} {r : Request} → Says name ns r → (least_numbers name ≤ length ns) × (length ns ≤ most_numbers name)
says_counts says_open = (lit≤ tt, lit≤ tt)
says_counts (says_put few) = (omega arith, omega arith)
says_counts says_strike = (lit≤ tt, lit≤ tt)
says_counts says_read = (lit≤ tt, lit≤ tt)
says_counts (says_measure few) = (omega arith, omega arith)
says_counts says_close = (lit≤ tt, lit≤ tt)

-- A name and its numbers ask one thing.
pub says_one : {name : CallName} {ns : List ℕ} {a b : Request} → Says name ns a → Says name ns b → a ≡ b
says_one says_open says_open = refl
says_one (says_put _) (says_put _) = refl
says_one says_strike says_strike = refl
says_one says_read says_read = refl
says_one (says_measure _) (says_measure _) = refl
says_one says_close says_close = refl

-- The name that begins with a letter.
abbrev named_by : ℕ → CallName
named_by b = cond (eqb b 111) Open (cond (eqb b 112) Put (cond (eqb b 115) Strike (cond (eqb b 114) Read (cond (eqb b 109) Measure Close))))

names : (name : CallName) (t : List ℕ) → named_by (get_or (word name ++ t) 0 0) ≡ name
names Open t = refl
names Put t = refl
names Strike t = refl
names Read t = refl
names Measure t = refl
names Close t = refl

-- A line begins with one name at most.
abbrev pub IsName : CallName → List ℕ → Type 0
IsName name x = x ≡ word name

pub told_name : Told IsName
told_name v w x y a b p q e =
    let whole : word v ++ y ≡ word w ++ b = ap (λ u. u ++ y) (sym p) ∙ (e ∙ ap (λ u. u ++ b) q) in
    let same : v ≡ w = sym (names v y) ∙ (ap (λ l. named_by (get_or l 0 0)) whole ∙ names w b) in
    (same, p ∙ (ap word same ∙ sym q), append_cancel_left (word w) y b (ap (λ u. word u ++ y) (sym same) ∙ whole))

pub to_named : (x : List ℕ) → AnyCallLine x → After IsName AnyTail x
to_named x (r, line) = let p = call_parts line in (p.name, (word p.name, (p.after, refl, (r, p.tail), p.is)))

pub from_named : (x : List ℕ) → After IsName AnyTail x → AnyCallLine x
from_named x (name, (a, (b, is, (r, tail), e))) = (r, subst (λ y. IsCallLine y r) (sym (e ∙ ap (λ u. u ++ b) is)) (whole_line tail))
