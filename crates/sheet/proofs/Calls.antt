-- What the numbers after channel and slot come to, call by call.
use Rattle.std.proofs.Common.{◌≡◌, ℕ, List, [], ◌∷◌, arith}
use Rattle.rack.specs.Ledger.{Request, measures, puts, strikes}
use Rattle.sheet.specs.CallNumbers.{CodesAt, NumberAt, NumbersAt, one_more_at}
use Rattle.sheet.specs.CallNames.{most_numbers}
use Rattle.sheet.specs.CallTexts.{Says, TextAt, says_measure, says_put, says_strike}
use Rattle.sheet.specs.Limits.{most_measure_codes, most_put_codes}
use Rattle.sheet.specs.declared.call_names.CallName.{CallName}
use Rattle.sheet.specs.declared.call_names.CallName.TheVariants.{Measure, Put, Strike}
use Rattle.sheet.proofs.CallRows.{rows}

module _ {s : List ℕ} {i j c t : ℕ} (heading : NumbersAt s i j (c ∷ t ∷ [])) where
  pub bare_text : {name : CallName} {r : Request} → Says name (c ∷ t ∷ []) r → most_numbers name ≡ 2 → TextAt name s i j r
  bare_text says most = record { ns = c ∷ t ∷ []; numbers = heading; says = says; shut = λ few. absurd (omega arith) }

  pub strike_text : {k p : ℕ} → NumberAt s j k p → TextAt Strike s i k (strikes c t p)
  strike_text {k} {p} position = record {
    ns = c ∷ t ∷ p ∷ [];
    numbers = one_more_at heading position;
    says = says_strike;
    shut = λ few. absurd (omega arith);
  }

  pub put_text : {k l p : ℕ} {residue : List ℕ} → NumberAt s j k p → CodesAt s k most_put_codes l residue → TextAt Put s i l (puts c t p residue)
  put_text {k} {l} {p} {residue} position row = record {
    ns = c ∷ t ∷ p ∷ residue;
    numbers = rows (one_more_at heading position) row.numbers;
    says = says_put row.few;
    shut = λ few. row.over (omega arith);
  }

  pub measure_text : {k : ℕ} {message : List ℕ} → CodesAt s j most_measure_codes k message → TextAt Measure s i k (measures c t message)
  measure_text {k} {message} row = record {
    ns = c ∷ t ∷ message;
    numbers = rows heading row.numbers;
    says = says_measure row.few;
    shut = λ few. row.over (omega arith);
  }
