-- Inner: no public contract cites this.
-- Words of a table, and how far a text goes along one of them.
use Rattle.std.specs.Prelude.{◌==◌, ℕ, List, map, Contains, MatchResult, Result}
use Rattle.std.specs.Borrow.{Bor}
use Rattle.std.specs.List.{prefix_len, zip}
use Rattle.expression.specs.Texts.{Lost}
use Rattle.expression.specs.Tokens.{PartAt}
use Rattle.expression.specs.declared.parsed.Stop.{Stop}
use Rattle.sheet.specs.declared.words.Named.{Named}

-- How many bytes two texts have in common from the front on.
abbrev pub common : List ℕ → List ℕ → ℕ
common x word = prefix_len (λ p. p.0 == p.1) (zip x word)

-- The words of a table, each with what it stands for.
abbrev pub words : {T : Type 0} → List (Bor (List ℕ) × T) → List (List ℕ × T)
words {T} table = map {B = List ℕ × T} (λ e. (e.0.now, e.1)) table

-- A word of the table, and what it stands for.
pub record IsWord {T : Type 0} (table : List (Bor (List ℕ) × T)) (x : List ℕ) (v : T) : Type 0 where
  pub listed : Contains (words table) (x, v)

-- A word that stands at i as its part tells, and what it stands for.
abbrev pub NamedAt : {T : Type 0} → (List ℕ → T → Type 0) → List ℕ → ℕ → Named T → Type 0
NamedAt Is s i named = PartAt s i named.word × Is named.word.text.now named.value

abbrev pub AnyWord : {T : Type 0} → List (Bor (List ℕ) × T) → List ℕ → Type 0
AnyWord {T} table x = (v : T) × IsWord table x v

-- At i stands a word of the table; or the first place where none of them goes on.
abbrev pub WordTold : {T : Type 0} → List (Bor (List ℕ) × T) → List ℕ → ℕ → Result (Named T) Stop → Type 0
WordTold table s i r = MatchResult r (NamedAt (IsWord table) s i) (λ stop. Lost (AnyWord table) s i stop.place)
