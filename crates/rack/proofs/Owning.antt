-- The residues of a ledger's account were put there by the channel that has the slot.
use Rattle.std.proofs.Common.{◌≡◌, ℕ, Bool, true, false, cond, eqb, ◌⊎◌, List, [], ◌∷◌, ◌++◌, length, take, is_some, Some, None, Option, sym, refl, ap, ◌∙◌, subst, inl, inr, arith}
use native.Mathlib.Decide.{dec_le}
use Rattle.std.proofs.lemmas.Bool.{eqb-true}
use Rattle.std.proofs.lemmas.List.{append-nil, append_assoc, length-append, take-append-le, take_all}
use Rattle.std.proofs.lemmas.List.Sums.{fold_push}
use Rattle.plan.specs.Schemes.{Scheme}
use Rattle.rack.specs.Channels.{channel_number, channel_numbered}
use Rattle.rack.specs.Laws.{OwnResidues, PutBy, ReadsItsOwn, Stands}
use Rattle.rack.specs.Ledger.{Ledger, Request, SlotState, account_in, after, blank, closed, closes, judge, ledger_changed, measures, open_for, opens, puts, reads, step, strikes, with_position}
use Rattle.rack.specs.declared.channel.Channel.{Channel}
use Rattle.rack.specs.declared.faults.RackFault.{RackFault}
use Rattle.rack.proofs.Passing.{holder, put_user, read_user}

module _ (channel : Channel) (i : ℕ) (residue : List ℕ) where
  -- Where a residue stands once a position has become another, it stood there before, or is that position's.
  position_from : (entry : SlotState) (position : ℕ) (y : Option (List ℕ)) → Stands (with_position entry position y) channel i residue
      → Stands entry channel i residue ⊎ ((position ≡ i) × (y ≡ Some residue))
  position_from closed position y stands = absurd stands
  position_from (open_for owner account) position y stands = go (eqb i position) refl stands.1
    where
      go : (same : Bool) → eqb i position ≡ same → cond same y (account i) ≡ Some residue
          → Stands (open_for owner account) channel i residue ⊎ ((position ≡ i) × (y ≡ Some residue))
      go true e is = inr (sym (eqb-true i position e), is)
      go false e is = inl (stands.0, is)

  -- The channel has that slot.
  position_holder : (entry : SlotState) (position : ℕ) (y : Option (List ℕ)) → Stands (with_position entry position y) channel i residue
      → holder entry ≡ Some channel
  position_holder closed position y stands = absurd stands
  position_holder (open_for owner account) position y stands = ap Some stands.0

  module _ (s : Scheme) (S : ℕ) (l : Ledger) (slot : ℕ) where
    -- What a residue that stands in the slot after a passed call comes from.
    abbrev From : Request → Type 0
    From call = Stands (l slot) channel i residue ⊎ (call ≡ puts (channel_number channel) slot i residue)

    changed_from : (call : Request) → judge s S l call ≡ None → Stands (ledger_changed l call slot) channel i residue → From call
    changed_from (opens c t) e stands = go (eqb slot t) stands
      where
        go : (same : Bool) → Stands (cond same (open_for (channel_numbered c) (λ _. None)) (l slot)) channel i residue → From (opens c t)
        go true stands = let none = stands.1 in cc
        go false stands = inl stands
    changed_from (puts c t position y) e stands = go (eqb slot t) refl stands
      where
        here : slot ≡ t → Stands (with_position (l t) position (Some y)) channel i residue → From (puts c t position y)
        here same stands =
            elim (position_from (l t) position (Some y) stands) [
              | inl before ↦ inl (rw same before)
              | inr is ↦
                  let owner = put_user s S l c t position y e in
                  let holds = position_holder (l t) position (Some y) stands in
                  let own : owner.0 ≡ channel = cc in
                  let number : c ≡ channel_number channel = sym owner.2 ∙ ap channel_number own in
                  let put : y ≡ residue = cc in
                  let there = is.0 in
                  inr cc
            ]

        go : (same : Bool) → eqb slot t ≡ same → Stands (cond same (with_position (l t) position (Some y)) (l slot)) channel i residue
            → From (puts c t position y)
        go true e stands = here (eqb-true slot t e) stands
        go false e stands = inl stands
    changed_from (strikes c t position) e stands = go (eqb slot t) refl stands
      where
        go : (same : Bool) → eqb slot t ≡ same → Stands (cond same (with_position (l t) position None) (l slot)) channel i residue
            → From (strikes c t position)
        go true e stands =
            let same = eqb-true slot t e in
            elim (position_from (l t) position None stands) [ inl before ↦ inl (rw same before) | inr is ↦ let none = is.1 in cc ]
        go false e stands = inl stands
    changed_from (reads c t buffer) e stands = inl stands
    changed_from (measures c t message) e stands = inl stands
    changed_from (closes c t) e stands = go (eqb slot t) stands
      where
        go : (same : Bool) → Stands (cond same closed (l slot)) channel i residue → From (closes c t)
        go true stands = absurd stands
        go false stands = inl stands

module _ (s : Scheme) (S : ℕ) where
  -- A residue that stands in a slot after these calls.
  abbrev StandsAfter : List Request → ℕ → Channel → ℕ → List ℕ → Type 0
  StandsAfter calls slot channel i residue = Stands (after s S blank calls slot) channel i residue

  abbrev Owned : List Request → Type 0
  Owned calls =
      (slot : ℕ) (channel : Channel) (i : ℕ) (residue : List ℕ) → StandsAfter calls slot channel i residue → PutBy s S calls slot channel i residue

  module _ (calls : List Request) (call : Request) (slot : ℕ) (channel : Channel) (i : ℕ) (residue : List ℕ)
      (stands : StandsAfter (calls ++ (call ∷ [])) slot channel i residue) where
    -- One more call, after which the residue still stands.
    one_more : PutBy s S calls slot channel i residue → PutBy s S (calls ++ (call ∷ [])) slot channel i residue
    one_more by =
        let put = puts (channel_number channel) slot i residue in
        let last = call ∷ [] in
        let whole : calls ++ last ≡ by.earlier ++ (put ∷ (by.later ++ last)) =
        ap (λ (x : List Request). x ++ last) by.among ∙ append_assoc by.earlier (put ∷ by.later) last in
        record {
          earlier = by.earlier;
          later = by.later ++ last;
          among = whole;
          passes = by.passes;
          since = λ n.
              elim (dec_le n (length by.later)) [
                | yes l ↦ rw (take-append-le n by.later last l) (by.since n)
                | no l ↦
                    let all : take n (by.later ++ last) ≡ by.later ++ last = take_all n (by.later ++ last) (omega (arith, length-append by.later last)) in
                    subst (λ (x : List Request). StandsAfter x slot channel i residue)
                    (whole ∙ ap (λ (x : List Request). by.earlier ++ (put ∷ x)) (sym all)) stands
              ];
        }

    -- The call that put it.
    just_put : call ≡ puts (channel_number channel) slot i residue → judge s S (after s S blank calls) call ≡ None
        → PutBy s S (calls ++ (call ∷ [])) slot channel i residue
    just_put is passes =
        record {
          earlier = calls;
          later = [];
          among = ap (λ (x : Request). calls ++ (x ∷ [])) is;
          passes = ap (judge s S (after s S blank calls)) (sym is) ∙ passes;
          since = λ n.
              let none : take n [] ≡ [] = take_all {A = Request} n [] (omega arith) in
              subst (λ (x : List Request). StandsAfter x slot channel i residue)
              (ap (λ (x : Request). calls ++ (x ∷ [])) is ∙ ap (λ (x : List Request). calls ++ (puts (channel_number channel) slot i residue ∷ x)) (sym none))
              stands;
        }

  owned_next : (calls : List Request) (call : Request) → Owned calls → Owned (calls ++ (call ∷ []))
  owned_next calls call owned slot channel i residue stands =
      go (judge s S (after s S blank calls) call) refl (subst (λ (l : Ledger). Stands (l slot) channel i residue) (fold_push (step s S) blank calls call) stands)
    where
      still : StandsAfter calls slot channel i residue → PutBy s S (calls ++ (call ∷ [])) slot channel i residue
      still before = one_more calls call slot channel i residue stands (owned slot channel i residue before)

      go : (found : Option RackFault) → judge s S (after s S blank calls) call ≡ found
          → Stands (cond (is_some found) (after s S blank calls) (ledger_changed (after s S blank calls) call) slot) channel i residue
          → PutBy s S (calls ++ (call ∷ [])) slot channel i residue
      go (Some fault) e before = still before
      go None e changed =
          elim (changed_from channel i residue s S (after s S blank calls) slot call e changed) [
            | inl before ↦ still before
            | inr is ↦ just_put calls call slot channel i residue stands is e
          ]

  -- So it is after any calls, one more at a time.
  owned_more : (calls more : List Request) → Owned calls → Owned (calls ++ more)
  owned_more calls [] owned = subst Owned (sym (append-nil calls)) owned
  owned_more calls (call ∷ more) owned =
      subst Owned (append_assoc calls (call ∷ []) more) (owned_more (calls ++ (call ∷ [])) more (owned_next calls call owned))

pub own_residues : OwnResidues
own_residues s S calls = owned_more s S [] calls (λ slot channel i residue stands. absurd stands)

-- What a slot's account has stands there for the channel that holds the slot.
pub account_stands : (entry : SlotState) (channel : Channel) (i : ℕ) (residue : List ℕ) → holder entry ≡ Some channel
    → account_in entry i ≡ Some residue → Stands entry channel i residue
account_stands closed channel i residue held is = cc
account_stands (open_for owner account) channel i residue held is = let same : owner ≡ channel = cc in (same, is)

pub reads_own : ReadsItsOwn
reads_own s S calls channel slot buffer passes i residue is =
    let l = after s S blank calls in
    let reader = read_user s S l channel slot buffer passes in
    (reader.0, reader.2, own_residues s S calls slot reader.0 i residue (account_stands (l slot) reader.0 i residue reader.1 is))
