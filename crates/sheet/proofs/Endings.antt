-- How a line with a call can go on, and where it cannot.
use Rattle.std.proofs.Common.{◌≡◌, ℕ, zero, suc, ◌+◌, ◌-◌, ◌<◌, ◌≤◌, cond, ◌⊎◌, List, [], ◌∷◌, ◌++◌, length, get_or, replicate, sym, ap, ◌∙◌, subst, inl, inr, append_assoc, arith, lit≤, length-append}
use lib.ListN.{length-replicate}
use Rattle.std.proofs.lemmas.List.Edits.{between_more}
use Rattle.std.proofs.lemmas.Bool.Decides.{nat_tests}
use Rattle.std.specs.List.{between}
use Rattle.expression.specs.Bytes.{Digit, blank_byte, first_digit, line_end}
use Rattle.expression.specs.Texts.{Got, Lost}
use Rattle.rack.specs.Ledger.{Request, closes, measures, opens, puts, reads, strikes}
use Rattle.sheet.specs.CallLines.{AnyCallLine}
use Rattle.sheet.specs.CallNames.{least_numbers, most_numbers}
use Rattle.sheet.specs.CallNumbers.{NoBlank, NoDigit, NumbersAt, NumbersLost}
use Rattle.sheet.specs.CallTexts.{Says, TextAt, says_close, says_measure, says_open, says_put, says_read, says_strike}
use Rattle.sheet.specs.Grammar.{IsCallLine, IsCallNumber, Numbers, no_numbers, number_more}
use Rattle.sheet.specs.Sequences.{After}
use Rattle.sheet.specs.declared.call_names.CallName.{CallName}
use Rattle.sheet.specs.declared.call_names.CallName.TheVariants.{Close, Measure, Open, Put, Read, Strike}
use Rattle.sheet.proofs.Between.{part_join}
use Rattle.sheet.proofs.CallParts.{AnyTail, IsName, from_named, says_counts, to_named, told_name, whole_line}
use Rattle.sheet.proofs.Chains.{got_lost, lost_first, lost_like}
use Rattle.sheet.proofs.Machine.{after, dead, run, sign, step, wants}
use Rattle.sheet.proofs.CallRows.{numbers_join, row_length, row_numbers}
use Rattle.sheet.proofs.Walk.{lost_by_run, no_digit, run_++, run_blank, walked}

-- With a lawful count of numbers a name asks something.
says_any : (name : CallName) (ns : List ℕ) → least_numbers name ≤ length ns → length ns ≤ most_numbers name → (r : Request) × Says name ns r
says_any Open (c ∷ t ∷ []) low high = (opens c t, says_open)
says_any Open [] low high = absurd (omega arith)
says_any Open (c ∷ []) low high = absurd (omega arith)
says_any Open (c ∷ t ∷ p ∷ ns) low high = absurd (omega arith)
says_any Put (c ∷ t ∷ p ∷ residue) low high = (puts c t p residue, says_put (omega arith))
says_any Put [] low high = absurd (omega arith)
says_any Put (c ∷ []) low high = absurd (omega arith)
says_any Put (c ∷ t ∷ []) low high = absurd (omega arith)
says_any Strike (c ∷ t ∷ p ∷ []) low high = (strikes c t p, says_strike)
says_any Strike [] low high = absurd (omega arith)
says_any Strike (c ∷ []) low high = absurd (omega arith)
says_any Strike (c ∷ t ∷ []) low high = absurd (omega arith)
says_any Strike (c ∷ t ∷ p ∷ n ∷ ns) low high = absurd (omega arith)
says_any Read (c ∷ t ∷ []) low high = (reads c t [], says_read)
says_any Read [] low high = absurd (omega arith)
says_any Read (c ∷ []) low high = absurd (omega arith)
says_any Read (c ∷ t ∷ p ∷ ns) low high = absurd (omega arith)
says_any Measure (c ∷ t ∷ message) low high = (measures c t message, says_measure (omega arith))
says_any Measure [] low high = absurd (omega arith)
says_any Measure (c ∷ []) low high = absurd (omega arith)
says_any Close (c ∷ t ∷ []) low high = (closes c t, says_close)
says_any Close [] low high = absurd (omega arith)
says_any Close (c ∷ []) low high = absurd (omega arith)
says_any Close (c ∷ t ∷ p ∷ ns) low high = absurd (omega arith)

least_most : (name : CallName) → least_numbers name ≤ most_numbers name
least_most Open = lit≤ tt
least_most Put = lit≤ tt
least_most Strike = lit≤ tt
least_most Read = lit≤ tt
least_most Measure = lit≤ tt
least_most Close = lit≤ tt

-- So many zeros, each after its blank.
zeros : (k : ℕ) → (t : List ℕ) × Numbers t (replicate k 0)
zeros zero = ([], no_numbers)
zeros (suc k) =
    let (t, numbers) = zeros k in
    let zero_digit : IsCallNumber (first_digit ∷ []) = record { some = lit≤ tt; few = lit≤ tt; digits = ((lit≤ tt, lit≤ tt), tt) } in
    (blank_byte ∷ first_digit ∷ t, number_more zero_digit numbers)

-- Not too many numbers can be completed to a line.
completes : (name : CallName) {x : List ℕ} {ns : List ℕ} → Numbers x ns → length ns ≤ most_numbers name → (t : List ℕ) × AnyTail name (x ++ t)
completes name {x} {ns} numbers few =
    let k = least_numbers name - length ns in
    let (t, more) = zeros k in
    let len = length-append ns (replicate k 0) in
    let rep : length (replicate {A = ℕ} k 0) ≡ k = length-replicate k 0 in
    let lm = least_most name in
    let (r, says) = says_any name (ns ++ replicate k 0) (omega arith) (omega arith) in
    (t ++ line_end ∷ [], (r, record { text = x ++ t; ns = ns ++ replicate k 0; numbers = numbers_join numbers more; says = says; is = sym (append_assoc x t (line_end ∷ [])) }))

no_sign : (name : CallName) (k b : ℕ) → (b ≡ blank_byte → k < most_numbers name → ⊥) → (b ≡ line_end → least_numbers name ≤ k → ⊥) → sign name k b ≡ dead
no_sign name k b blank end = grind (arith, nat_tests)

-- After some numbers no digit, blank or end can come.
stuck : (name : CallName) (k room b : ℕ) → (0 < room → Digit b → ⊥) → (b ≡ blank_byte → k < most_numbers name → ⊥)
    → (b ≡ line_end → least_numbers name ≤ k → ⊥) → step (after name k room) b ≡ dead
stuck name k zero b more blank end = no_sign name k b blank end
stuck name k (suc room) b more blank end = rw (no_digit b (more (omega arith))) (no_sign name k b blank end)

-- The numbers after a name, as they stand on the sheet.
module _ (name : CallName) (s : List ℕ) (i j : ℕ) (ns : List ℕ) (row : NumbersAt s i j ns) where
  -- The line stops after its numbers.
  stops_after : length ns ≤ most_numbers name → (j < length s → get_or s j 0 ≡ blank_byte → length ns < most_numbers name → ⊥)
      → (j < length s → get_or s j 0 ≡ line_end → least_numbers name ≤ length ns → ⊥) → Lost (AnyTail name) s i j
  stops_after few no_blank no_end =
      let (a, b) = row_length row in
      let (room, ran, more) = walked name row few in
      let (t, tail) = completes name (row_numbers row) few in
      lost_by_run name s i j (after name (length ns) room) a b ran (λ x. x)
      (λ h. stuck name (length ns) room (get_or s j 0) (λ lt. more lt h) (no_blank h) (no_end h)) t tail

  -- The line stops after the blank that follows its numbers.
  stops_at_blank : length ns < most_numbers name → j < length s → get_or s j 0 ≡ blank_byte → (j + 1 < length s → Digit (get_or s (j + 1) 0) → ⊥)
      → Lost (AnyTail name) s i (j + 1)
  unfolding zeros
  stops_at_blank few h blank none =
      let (a, b) = row_length row in
      let (room, ran, more) = walked name row (omega arith) in
      let is : between i (j + 1) s ≡ between i j s ++ blank_byte ∷ [] =
      between_more s i j 0 a h ∙ ap (λ c. between i j s ++ c ∷ []) blank in
      let (z, one) = zeros 1 in
      let len = length-append ns (0 ∷ []) in
      let (t, tail) = completes name (numbers_join (row_numbers row) one) (omega arith) in
      lost_by_run name s i (j + 1) (wants name (length ns)) (omega arith) (omega arith)
      (ap (run (after name 0 0)) is ∙ (run_++ (after name 0 0) (between i j s) (blank_byte ∷ [])
      ∙ (ap (λ q. step q blank_byte) ran ∙ run_blank name (length ns) room few)))
      (λ x. x)
      (λ k. ap (λ d. cond d (after name (suc (length ns)) 3) dead) (no_digit (get_or s (j + 1) 0) (none k)))
      (first_digit ∷ t)
      (subst (AnyTail name)
      (append_assoc (between i j s) (blank_byte ∷ first_digit ∷ []) t
      ∙ (sym (append_assoc (between i j s) (blank_byte ∷ []) (first_digit ∷ t)) ∙ ap (λ y. y ++ first_digit ∷ t) (sym is)))
      tail)

-- A number is wanting.
tail_cut : (name : CallName) {s : List ℕ} {i p : ℕ} → NumbersLost (least_numbers name) (most_numbers name) s i p → Lost (AnyTail name) s i p
tail_cut name {s} {i} {p} lost = go lost.wants
  where
    go : ((length lost.ns < least_numbers name) × (p ≡ lost.j) × NoBlank s lost.j) ⊎ ((length lost.ns < most_numbers name) × (p ≡ lost.j + 1) × NoDigit s lost.j)
        → Lost (AnyTail name) s i p
    go (inl (few, is, (within, no_blank))) =
        let lm = least_most name in
        subst (Lost (AnyTail name) s i) (sym is)
        (stops_after name s i lost.j lost.ns lost.before (omega arith) (λ h b _. no_blank h b) (λ h b low. omega arith))
    go (inr (few, is, (h, blank, none))) =
        subst (Lost (AnyTail name) s i) (sym is) (stops_at_blank name s i lost.j lost.ns lost.before few h blank none)

-- The line does not end after its numbers.
tail_stuck : {name : CallName} {s : List ℕ} {i j : ℕ} {r : Request} → TextAt name s i j r → (j < length s → get_or s j 0 ≡ line_end → ⊥)
    → Lost (AnyTail name) s i j
tail_stuck {name} {s} {i} {j} text none =
    stops_after name s i j text.ns text.numbers (says_counts text.says).1 (λ h b few. (text.shut few).1 h b) (λ h b _. none h b)

-- What fails after a name fails on the line.
after_name : {name : CallName} {s : List ℕ} {i j p : ℕ} → Got (IsName name) s i j → Lost (AnyTail name) s j p → Lost AnyCallLine s i p
after_name {name} {s} {i} {j} {p} named h =
    lost_like (After IsName AnyTail) AnyCallLine s i p from_named to_named (got_lost IsName AnyTail told_name s name i j p named h)

-- Where no name goes on, no line does.
pub name_lost : (s : List ℕ) (i p : ℕ) → Lost (λ x. (name : CallName) × IsName name x) s i p → Lost AnyCallLine s i p
name_lost s i p h =
    lost_like (After IsName AnyTail) AnyCallLine s i p from_named to_named
    (lost_first IsName AnyTail told_name s (λ name. completes name no_numbers (omega arith)) i p h)

-- The line ends after its numbers.
pub line_got : {name : CallName} {s : List ℕ} {i w j : ℕ} {r : Request} → Got (IsName name) s i w → TextAt name s w j r
    → j < length s → get_or s j 0 ≡ line_end → Got (λ x. IsCallLine x r) s i (j + 1)
line_got {name} {s} {i} {w} {j} {r} named text h e =
    let (a, b) = row_length text.numbers in
    let more = named.more in
    record {
      more = omega arith;
      within = omega arith;
      is = subst (λ x. IsCallLine x r)
          (sym (part_join s i w (j + 1) more (omega arith) ∙ ap (λ x. x ++ between w (j + 1) s) named.is))
          (whole_line (record {
            text = between w j s;
            ns = text.ns;
            numbers = row_numbers text.numbers;
            says = text.says;
            is = between_more s w j 0 a h ∙ ap (λ c. between w j s ++ c ∷ []) e;
          }));
    }

-- The line is lost in the numbers after its name; or it does not end after them.
pub text_lost : (name : CallName) {s : List ℕ} {i w p : ℕ} → Got (IsName name) s i w → NumbersLost (least_numbers name) (most_numbers name) s w p → Lost AnyCallLine s i p
text_lost name named lost = after_name named (tail_cut name lost)

pub end_lost : {name : CallName} {s : List ℕ} {i w j p : ℕ} {r : Request} → Got (IsName name) s i w → TextAt name s w j r
    → (j < length s → get_or s j 0 ≡ line_end → ⊥) → p ≡ j → Lost AnyCallLine s i p
end_lost {s = s} {i = i} named text none is = subst (Lost AnyCallLine s i) (sym is) (after_name named (tail_stuck text none))
