-- A list of calls that is run has one text.
use Rattle.std.proofs.Common.{◌≡◌, ℕ, ◌<◌, List, [], ◌∷◌, ◌++◌, map, length, take, get_or, None, refl, sym, ap, ◌∙◌, subst, arith}
use Rattle.std.proofs.lemmas.List.{get_or-map, length-map, take-map}
use Rattle.algebra.specs.Field.{FieldLaws}
use Rattle.batch.specs.Laws.{OneEnd, outcomes}
use Rattle.batch.specs.Lists.{Ran, ledger_before, request_at, requests}
use Rattle.batch.specs.declared.entry.Entry.{Entry}
use Rattle.expression.specs.Bytes.{line_end}
use Rattle.plan.specs.Schemes.{IsScheme, Scheme}
use Rattle.rack.specs.Ledger.{Ledger, Request, after, closes}
use Rattle.rack.specs.Racks.{given_by}
use Rattle.rack.specs.Told.{Outcome, Told}
use Rattle.rack.specs.declared.call.Call.TheVariants.{Close}
use Rattle.transcript.specs.Endings.{entry_of}
use Rattle.transcript.specs.Lines.{call_line, lines_text, outcome_text}
use Rattle.transcript.specs.Runs.{RanOn}
use Rattle.transcript.specs.declared.ended.Ended.{Ended}

-- A call's line is told by how it ended and by what it was given, as that is afterwards.
same_line : (x y : Ended) → x.outcome ≡ y.outcome → given_by x.call ≡ given_by y.call → call_line x ≡ call_line y
same_line x y ended given =
    ap (λ (outcome : Outcome). outcome_text outcome (given_by x.call) ++ line_end ∷ []) ended
    ∙ ap (λ (request : Request). outcome_text y.outcome request ++ line_end ∷ []) given

-- So is the text of all.
same_lines : (xs ys : List Ended) → outcomes (map entry_of xs) ≡ outcomes (map entry_of ys) → requests (map entry_of xs) ≡ requests (map entry_of ys)
    → lines_text xs ≡ lines_text ys
same_lines [] [] ended given = refl
same_lines [] (y ∷ ys) ended given = cc
same_lines (x ∷ xs) [] ended given = cc
same_lines (x ∷ xs) (y ∷ ys) ended given =
    let first_ended : x.outcome ≡ y.outcome = cc in
    let first_given : given_by x.call ≡ given_by y.call = cc in
    let rest_ended : outcomes (map entry_of xs) ≡ outcomes (map entry_of ys) = cc in
    let rest_given : requests (map entry_of xs) ≡ requests (map entry_of ys) = cc in
    ap (λ (text : List ℕ). text ++ lines_text xs) (same_line x y first_ended first_given)
    ∙ ap (λ (text : List ℕ). call_line y ++ text) (same_lines xs ys rest_ended rest_given)

-- Two lists whose calls are given the same.
module _ (before before' : List Entry) (same : requests before ≡ requests before') where
  abbrev given : Entry → Request
  given entry = given_by entry.call

  as_long : length before ≡ length before'
  as_long = sym (length-map before given) ∙ ap length same ∙ length-map before' given

  -- Each call is asked the same.
  same_request : (i : ℕ) → i < length before → request_at before' i ≡ request_at before i
  same_request i below =
      let none : Entry = record { call = Close 0 0; outcome = None } in
      sym (get_or-map given before' i none (closes 0 0) (omega (arith, below, as_long)))
      ∙ ap (λ (rs : List Request). get_or rs i (closes 0 0)) (sym same)
      ∙ get_or-map given before i none (closes 0 0) below

  -- The ledger beside them is the same.
  same_ledger : (s : Scheme) (S : ℕ) (l : Ledger) (i : ℕ) → ledger_before s S l before' i ≡ ledger_before s S l before i
  same_ledger s S l i =
      let first : requests (take i before') ≡ requests (take i before) =
      sym (take-map given i before') ∙ ap (take i) (sym same) ∙ take-map given i before in
      ap (after s S l) first

  -- An end of one is an end of the other.
  ran_alike : (s : Scheme) (S : ℕ) (l : Ledger) (done : List Entry) → Ran s S l before' done → Ran s S l before done
  ran_alike s S l done ran = record {
    long = ran.long ∙ sym as_long;
    told = λ i below.
        let (outcome, is, told) = ran.told i (omega (arith, below, as_long)) in
        let asked = subst (λ (r : Request). Told s S (ledger_before s S l before' i) r outcome (request_at done i)) (same_request i below) told in
        (outcome, is, subst (λ (ledger : Ledger). Told s S ledger (request_at before i) outcome (request_at done i)) (same_ledger s S l i) asked);
  }

-- The calls of a sheet that is run have one text.
pub one_list : OneEnd → (s : Scheme) → FieldLaws s.arithmetic → IsScheme s → (calls : List Request) (xs ys : List Ended)
    → RanOn s calls (map entry_of xs) → RanOn s calls (map entry_of ys) → lines_text xs ≡ lines_text ys
one_list one_end s L lawful calls xs ys here there =
    let same = here.asked ∙ sym there.asked in
    let alike = ran_alike here.before there.before same s _ _ (map entry_of ys) there.ran.kept.ran in
    let ends = one_end s L lawful _ _ here.before (map entry_of xs) (map entry_of ys) here.ran.kept.ran alike in
    same_lines xs ys ends.0 ends.1
