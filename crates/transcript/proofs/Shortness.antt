-- Once a list was run, each of its calls has an outcome, and no buffer holds more codes than a word.
use Rattle.std.proofs.Common.{◌≡◌, ℕ, ◌<◌, ◌≤◌, List, length, map, get_or, Some, None, Ok, Err, Option, IsSome, All, subst, ap, sym, ◌∙◌, arith, lit≤, refl}
use Rattle.std.proofs.lemmas.List.{get_or-map, get_or_default, length-map, length-replicate}
use Rattle.plan.specs.Limits.{most_total}
use Rattle.plan.specs.Schemes.{IsScheme, Scheme, message_length}
use Rattle.plan.proofs.Sizes.{start_most}
use Rattle.batch.specs.Lists.{Ran, entry_at, ledger_before, request_at, requests}
use Rattle.batch.specs.declared.entry.Entry.{Entry}
use Rattle.rack.specs.Ledger.{Ledger, Request, account_in, closes, judge, measures, opens, puts, reads, strikes}
use Rattle.rack.specs.Racks.{given_by}
use Rattle.rack.specs.Told.{Outcome, Passed, ReadAs, Told}
use Rattle.rack.specs.declared.call.Answer.TheVariants.{Done, Margin, Message}
use Rattle.rack.specs.declared.call.Call.{Call}
use Rattle.rack.specs.declared.call.Call.TheVariants.{Close}
use Rattle.rack.specs.declared.faults.RackFault.{RackFault}
use Rattle.transcript.specs.Buffers.{buffer_in}
use Rattle.transcript.specs.Endings.{IsOver}
use Rattle.transcript.specs.Runs.{buffered}

is_some_of : {X : Type 0} {o : Option X} {x : X} → o ≡ Some x → IsSome o
is_some_of is = subst IsSome (sym is) refl

abbrev pub Short : Request → Type 0
Short given = length (buffer_in given) ≤ most_total

module _ (s : Scheme) (lawful : IsScheme s) where
  pub message_short : message_length s ≤ most_total
  message_short = omega (arith, start_most s s.carriers, lawful.short)

  as_read : (l : Ledger) (slot : ℕ) (before buffer : List ℕ) (outcome : Outcome)
      → length before ≤ most_total → ReadAs s (account_in (l slot)) slot before buffer outcome → length buffer ≤ most_total
  as_read l slot before buffer (Ok (Message found)) short ran = omega (arith, message_short, ran.0.is_message.long)
  as_read l slot before buffer (Ok Done) short ran = absurd ran
  as_read l slot before buffer (Ok (Margin m)) short ran = absurd ran
  as_read l slot before buffer (Err fault) short ran = omega (arith, short, ap length ran.0)

  passed_short : (l : Ledger) (request : Request) (outcome : Outcome) (given : Request) → Short request → Passed s l request outcome given → Short given
  passed_short l (opens channel slot) outcome given short ran = subst Short (sym ran.1) short
  passed_short l (puts channel slot position residue) outcome given short ran = subst Short (sym ran.1) short
  passed_short l (strikes channel slot position) outcome given short ran = subst Short (sym ran.1) short
  passed_short l (reads channel slot before) outcome given short ran =
      let (buffer, is, read) = ran in
      subst Short (sym is) (as_read l slot before buffer outcome short read)
  passed_short l (measures channel slot message) outcome given short ran = subst Short (sym ran.1) short
  passed_short l (closes channel slot) outcome given short ran = subst Short (sym ran.1) short

  told_short : (S : ℕ) (l : Ledger) (request : Request) (outcome : Outcome) (given : Request)
      → Short request → Told s S l request outcome given → (verdict : Option RackFault) → judge s S l request ≡ verdict → Short given
  told_short S l request outcome given short told None is = passed_short l request outcome given short (told.passed is)
  told_short S l request outcome given short told (Some fault) is = subst Short (sym (told.refused fault is).1) short

buffered_short : (K : ℕ) → K ≤ most_total → (request : Request) → Short (buffered K request)
buffered_short K small (opens channel slot) = lit≤ tt
buffered_short K small (puts channel slot position residue) = lit≤ tt
buffered_short K small (strikes channel slot position) = lit≤ tt
buffered_short K small (reads channel slot buffer) = omega (arith, small, length-replicate {A = ℕ} K 0)
buffered_short K small (measures channel slot message) = lit≤ tt
buffered_short K small (closes channel slot) = lit≤ tt

-- Each call of a list that is to be run has a short buffer.
asked_short : (K : ℕ) → K ≤ most_total → (before : List Entry) (calls : List Request) → requests before ≡ map (buffered K) calls
    → (i : ℕ) → i < length before → Short (request_at before i)
asked_short K small before calls asked i below =
    let given : Entry → Request = λ e. given_by e.call in
    let long : i < length calls = omega (arith, below, ap length asked, length-map before given, length-map calls (buffered K)) in
    let here = get_or-map given before i (record { call = Close 0 0; outcome = None }) (closes 0 0) below in
    let there = get_or-map (buffered K) calls i (closes 0 0) (closes 0 0) long in
    let same : request_at before i ≡ buffered K (get_or calls i (closes 0 0)) =
    sym here ∙ ap (λ (rs : List Request). get_or rs i (closes 0 0)) asked ∙ there in
    subst Short (sym same) (buffered_short K small (get_or calls i (closes 0 0)))

pub all_over : (s : Scheme) → IsScheme s → {S : ℕ} {l : Ledger} {before done : List Entry} (calls : List Request) {K : ℕ} → K ≤ most_total
    → requests before ≡ map (buffered K) calls → Ran s S l before done → All IsOver done
all_over s lawful {S} {l} {before} {done} calls {K} small asked ran = λ i d below.
    let here : i < length before = omega (arith, below, ran.long) in
    let (outcome, is, told) = ran.told i here in
    let short = told_short s lawful S _ (request_at before i) outcome (request_at done i)
    (asked_short K small before calls asked i here) told (judge s S (ledger_before s S l before i) (request_at before i)) refl in
    let over : IsOver (entry_at done i) = record { told = is_some_of is; short = short } in
    subst IsOver (get_or_default done i (record { call = Close 0 0; outcome = None }) d below) over

-- There are as many entries as calls.
pub as_many : (K : ℕ) (entries : List Entry) (calls : List Call) → requests entries ≡ map (buffered K) (map given_by calls)
    → length entries ≡ length calls
as_many K entries calls asked =
    omega (arith, ap length asked, length-map entries (λ e. given_by e.call), length-map (map given_by calls) (buffered K), length-map calls given_by)
