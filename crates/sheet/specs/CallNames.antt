-- Inner: no public contract cites this.
-- The names of the calls, how many numbers follow each, and what reading a name answers.
use Rattle.std.specs.Prelude.{◌≡◌, ℕ, ◌+◌, List, codes, MatchResult, Result}
use Rattle.expression.specs.Texts.{Lost}
use Rattle.expression.specs.declared.parsed.Stop.{Stop}
use Rattle.sheet.specs.CallLines.{AnyCallLine}
use Rattle.sheet.specs.Limits.{most_measure_codes, most_put_codes}
use Rattle.sheet.specs.Tables.{NamedAt}
use Rattle.sheet.specs.declared.call_names.CallName.{CallName}
use Rattle.sheet.specs.declared.call_names.CallName.TheVariants.{Close, Measure, Open, Put, Read, Strike}
use Rattle.sheet.specs.declared.words.Named.{Named}

abbrev pub word : CallName → List ℕ
word Open = codes "open"
word Put = codes "put"
word Strike = codes "strike"
word Read = codes "read"
word Measure = codes "measure"
word Close = codes "close"

-- How many numbers a call has at least, and at most.
abbrev pub least_numbers : CallName → ℕ
least_numbers Open = 2
least_numbers Put = 3
least_numbers Strike = 3
least_numbers Read = 2
least_numbers Measure = 2
least_numbers Close = 2

abbrev pub most_numbers : CallName → ℕ
most_numbers Open = 2
most_numbers Put = 3 + most_put_codes
most_numbers Strike = 3
most_numbers Read = 2
most_numbers Measure = 2 + most_measure_codes
most_numbers Close = 2

-- From i on stands a name; or the first place where no line with a call goes on.
abbrev pub NameTold : List ℕ → ℕ → Result (Named CallName) Stop → Type 0
NameTold s i r = MatchResult r (NamedAt (λ x name. x ≡ word name) s i) (λ stop. Lost AnyCallLine s i stop.place)
