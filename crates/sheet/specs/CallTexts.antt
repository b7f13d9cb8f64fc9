-- Inner: no public contract cites this.
-- What reading the numbers of a call answers, by the call's name.
use Rattle.std.specs.Prelude.{ℕ, ◌≤◌, List, [], ◌∷◌, length, MatchResult, Result}
use Rattle.expression.specs.declared.parsed.Parsed.{Parsed}
use Rattle.expression.specs.declared.parsed.Stop.{Stop}
use Rattle.rack.specs.Ledger.{Request, closes, measures, opens, puts, reads, strikes}
use Rattle.rack.specs.Racks.{given_by}
use Rattle.rack.specs.declared.call.Call.{Call}
use Rattle.sheet.specs.CallNames.{least_numbers, most_numbers}
use Rattle.sheet.specs.CallNumbers.{NumbersAt, NumbersLost, Over}
use Rattle.sheet.specs.Limits.{most_measure_codes, most_put_codes}
use Rattle.sheet.specs.Rooms.{HasRoom}
use Rattle.sheet.specs.declared.call_names.CallName.{CallName}
use Rattle.sheet.specs.declared.call_names.CallName.TheVariants.{Close, Measure, Open, Put, Read, Strike}

-- What a call of this name asks with these numbers.
pub data Says : CallName → List ℕ → Request → Type 0 where
  says_open : {c t : ℕ} → Says Open (c ∷ t ∷ []) (opens c t)
  says_put : {c t p : ℕ} {residue : List ℕ} → length residue ≤ most_put_codes → Says Put (c ∷ t ∷ p ∷ residue) (puts c t p residue)
  says_strike : {c t p : ℕ} → Says Strike (c ∷ t ∷ p ∷ []) (strikes c t p)
  says_read : {c t : ℕ} → Says Read (c ∷ t ∷ []) (reads c t [])
  says_measure : {c t : ℕ} {message : List ℕ} → length message ≤ most_measure_codes → Says Measure (c ∷ t ∷ message) (measures c t message)
  says_close : {c t : ℕ} → Says Close (c ∷ t ∷ []) (closes c t)

-- From i to j stand the numbers of a call that asks this, and no more of them can follow.
pub record TextAt (name : CallName) (s : List ℕ) (i j : ℕ) (request : Request) : Type 0 where
  pub ns : List ℕ
  pub numbers : NumbersAt s i j ns
  pub says : Says name ns request
  pub shut : Over (most_numbers name) (length ns) s j

abbrev pub TextTold : CallName → List ℕ → ℕ → Result (Parsed Call) Stop → Type 0
TextTold name s i r =
    MatchResult r (λ call. TextAt name s i call.end (given_by call.value) × HasRoom call.value)
    (λ stop. NumbersLost (least_numbers name) (most_numbers name) s i stop.place)
