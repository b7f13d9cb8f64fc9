-- Inner: no public contract cites this.
-- Texts one after the other: a language is a property of lists of bytes.
use Rattle.std.specs.Prelude.{◌≡◌, ℕ, zero, suc, List, [], ◌++◌}
use Rattle.expression.specs.Texts.{Lost}

-- A text of C that tells v, and then one of what v asks for.
abbrev pub After : {X : Type 0} → (X → List ℕ → Type 0) → (X → List ℕ → Type 0) → List ℕ → Type 0
After {X} C M text = (v : X) × ((x : List ℕ) × ((y : List ℕ) × C v x × M v y × (text ≡ x ++ y)))

-- A text of L, and then one of M.
abbrev pub Then : (List ℕ → Type 0) → (List ℕ → Type 0) → List ℕ → Type 0
Then L M text = After {X = Unit {0}} (λ _. L) (λ _. M) text

-- That many texts of L.
abbrev pub Times : (List ℕ → Type 0) → ℕ → List ℕ → Type 0
Times L zero text = text ≡ []
Times L (suc n) text = Then L (Times L n) text

-- A text that tells something.
abbrev pub Any : {X : Type 0} → (List ℕ → X → Type 0) → List ℕ → Type 0
Any {X} L text = (v : X) × L text v

-- Where M fails from j on, L fails from i on.
abbrev pub Rest : (List ℕ → Type 0) → (List ℕ → Type 0) → List ℕ → ℕ → ℕ → Type 0
Rest L M s i j = (p : ℕ) → Lost M s j p → Lost L s i p
