-- The machine goes over every line with a call to the end.
use Rattle.std.proofs.Common.{◌≡◌, ℕ, zero, suc, ◌+◌, ◌-◌, ◌<◌, ◌≤◌, true, false, ltb, leb, List, [], ◌∷◌, ◌++◌, length, get_or, sym, refl, ap, ◌∙◌, subst, arith, length-append}
use Rattle.std.proofs.lemmas.List.Edits.{between_more, between_none}
use Rattle.std.proofs.lemmas.Bool.Decides.{nat_tests}
use Rattle.std.specs.List.{between, AllByRecursion}
use Rattle.expression.specs.Bytes.{Digit, blank_byte, line_end}
use Rattle.expression.specs.Texts.{Lost}
use Rattle.sheet.specs.CallNames.{least_numbers, most_numbers}
use Rattle.sheet.specs.CallNumbers.{NumbersAt, none_at, one_more_at}
use Rattle.sheet.specs.Grammar.{IsCallNumber, Numbers, no_numbers, number_more}
use Rattle.sheet.specs.declared.call_names.CallName.{CallName}
use Rattle.sheet.proofs.Between.{part_join}
use Rattle.sheet.proofs.CallParts.{AnyTail, says_counts}
use Rattle.sheet.proofs.Machine.{State, after, dead, digit, over, run, step, wants}
use Rattle.sheet.proofs.CallRows.{row_length}

pub run_++ : (q : State) (x y : List ℕ) → run q (x ++ y) ≡ run (run q x) y
run_++ q [] y = refl
run_++ q (b ∷ x) y = run_++ (step q b) x y

pub run_dead : (x : List ℕ) → run dead x ≡ dead
run_dead [] = refl
run_dead (b ∷ x) = run_dead x

is_digit : (b : ℕ) → Digit b → digit b ≡ true
is_digit b d = grind (arith, nat_tests)

pub no_digit : (b : ℕ) → (Digit b → ⊥) → digit b ≡ false
no_digit b d = grind (arith, nat_tests)

run_digits : (name : CallName) (k room : ℕ) (x : List ℕ) → length x ≤ room → AllByRecursion Digit x → run (after name k room) x ≡ after name k (room - length x)
run_digits name k room [] h a = ap (after name k) (omega arith)
run_digits name k zero (b ∷ x) h a = absurd (omega arith)
run_digits name k (suc room) (b ∷ x) h a =
    rw (is_digit b a.0) (run_digits name k room x (omega arith) a.1 ∙ ap (after name k) (omega arith))

run_number : (name : CallName) (k : ℕ) (x : List ℕ) → IsCallNumber x → run (wants name k) x ≡ after name (suc k) (4 - length x)
run_number name k [] h = absurd (omega arith)
run_number name k (b ∷ x) h =
    let d = h.digits in
    rw (is_digit b d.0) (run_digits name (suc k) 3 x (omega arith) d.1 ∙ ap (after name (suc k)) (omega arith))

pub run_blank : (name : CallName) (k room : ℕ) → k < most_numbers name → step (after name k room) blank_byte ≡ wants name k
run_blank name k zero h = let lt : ltb k (most_numbers name) ≡ true = grind (arith, nat_tests) in rw lt
run_blank name k (suc room) h = let lt : ltb k (most_numbers name) ≡ true = grind (arith, nat_tests) in rw lt

pub run_end : (name : CallName) (k room : ℕ) → least_numbers name ≤ k → step (after name k room) line_end ≡ over
run_end name k zero h = let le : leb (least_numbers name) k ≡ true = grind (arith, nat_tests) in rw le
run_end name k (suc room) h = let le : leb (least_numbers name) k ≡ true = grind (arith, nat_tests) in rw le

run_one : (name : CallName) (k room : ℕ) (x : List ℕ) → IsCallNumber x → k < most_numbers name
    → run (after name k room) (blank_byte ∷ x) ≡ after name (suc k) (4 - length x)
run_one name k room x h lt = ap (λ q. run q x) (run_blank name k room lt) ∙ run_number name k x h

-- Through the numbers of a line.
through : (name : CallName) (k room : ℕ) {x : List ℕ} {ns : List ℕ} → Numbers x ns → k + length ns ≤ most_numbers name
    → (left : ℕ) × (run (after name k room) x ≡ after name (k + length ns) left)
through name k room no_numbers h = (room, ap (λ m. after name m room) (omega arith))
through name k room (number_more {x = x} {rest = rest} {ns = ns} number more) h =
    let (left, e) = through name (suc k) (4 - length x) more (omega arith) in (
      left,
      run_++ (after name k room) (blank_byte ∷ x) rest
          ∙ (ap (λ q. run q rest) (run_one name k room x number (omega arith)) ∙ (e ∙ ap (λ m. after name m left) (omega arith))),
    )

line_through : (name : CallName) {x : List ℕ} {ns : List ℕ} → Numbers x ns → least_numbers name ≤ length ns → length ns ≤ most_numbers name
    → run (after name 0 0) (x ++ line_end ∷ []) ≡ over
line_through name {x} {ns} numbers low high =
    let (left, e) = through name 0 0 numbers (omega arith) in
    run_++ (after name 0 0) x (line_end ∷ []) ∙ (ap (λ q. step q line_end) e ∙ run_end name (0 + length ns) left (omega arith))

pub tail_run : (name : CallName) (x : List ℕ) → AnyTail name x → run (after name 0 0) x ≡ over
tail_run name x (r, t) =
    let (low, high) = says_counts t.says in
    ap (run (after name 0 0)) t.is ∙ line_through name t.numbers low high

-- Through the numbers that were read: the last of them does not go on.
pub walked : (name : CallName) {s : List ℕ} {i j : ℕ} {ns : List ℕ} → NumbersAt s i j ns → length ns ≤ most_numbers name
    → (room : ℕ) × (run (after name 0 0) (between i j s) ≡ after name (length ns) room) × (0 < room → j < length s → Digit (get_or s j 0) → ⊥)
walked name {s} {i} (none_at h) few = (0, ap (run (after name 0 0)) (between_none s i), λ lt. absurd (omega arith))
walked name {s} {i} (one_more_at {j = j} {k = k} {n = n} {ns = ns} row number) few =
    let len = length-append ns (n ∷ []) in
    let (a, b) = row_length row in
    let more = number.text.more in
    let (room, e, _) = walked name row (omega arith) in (
      4 - length number.digits,
      ap (run (after name 0 0)) (part_join s i j k a (omega arith))
          ∙ (run_++ (after name 0 0) (between i j s) (between j k s)
          ∙ (ap (λ q. run q (between j k s)) e
          ∙ (ap (run (after name (length ns) room)) number.text.is
          ∙ (run_one name (length ns) room number.digits number.text.number (omega arith)
          ∙ ap (λ m. after name m (4 - length number.digits)) (omega arith))))),
      λ lt. number.text.stops (omega arith),
    )

abbrev pub IsOver : State → Type 0
IsOver (after name k room) = ⊥
IsOver (wants name k) = ⊥
IsOver over = Unit {0}
IsOver dead = ⊥

-- A line is lost where it can go on, is not over, and the next byte stops the machine.
pub lost_by_run : (name : CallName) (s : List ℕ) (i p : ℕ) (q : State) → i ≤ p → p ≤ length s → run (after name 0 0) (between i p s) ≡ q → (IsOver q → ⊥)
    → (p < length s → step q (get_or s p 0) ≡ dead) → (t : List ℕ) → AnyTail name (between i p s ++ t) → Lost (AnyTail name) s i p
lost_by_run name s i p q more within ran live stops t tail = record {
  more = more;
  within = within;
  begins = (t, tail);
  short = λ l. live (subst IsOver (sym (tail_run name (between i p s) l) ∙ ran) tt);
  ends = λ h u l. subst IsOver (sym (tail_run name (between i (p + 1) s ++ u) l) ∙ killed h u) tt;
}
  where
    killed : p < length s → (u : List ℕ) → run (after name 0 0) (between i (p + 1) s ++ u) ≡ dead
    killed h u =
        run_++ (after name 0 0) (between i (p + 1) s) u
        ∙ (ap (λ x. run (run (after name 0 0) x) u) (between_more s i p 0 more h)
        ∙ (ap (λ r. run r u) (run_++ (after name 0 0) (between i p s) (get_or s p 0 ∷ []) ∙ (ap (λ r. step r (get_or s p 0)) ran ∙ stops h)) ∙ run_dead u))
