-- How a sheet is written: lines that each end in byte 10, in four sections, each after its count on a line of
-- its own: the field, the carrying moduli, the spare moduli and the calls. Nothing follows the last section.
use Rattle.std.specs.Prelude.{◌≡◌, ℕ, ◌≤◌, List, [], ◌∷◌, ◌++◌, length, codes, decimal}
use Rattle.expression.specs.Bytes.{blank_byte, line_end}
use Rattle.expression.specs.Fields.{field_word}
use Rattle.expression.specs.Grammar.{IsModulusLine, IsNumeral, numeral}
use Rattle.expression.specs.Values.{Expression}
use Rattle.expression.specs.declared.names.FieldName.{FieldName}
use Rattle.rack.specs.Ledger.{Request, closes, measures, opens, puts, reads, strikes}
use Rattle.sheet.specs.Limits.{least_moduli, most_call_digits, most_calls, most_measure_codes, most_moduli, most_put_codes}

-- What a sheet says. A read's buffer is not written, and stands here with no codes.
pub record Content : Type 0 where
  pub field : FieldName
  pub carrying : List Expression
  pub spare : List Expression
  pub calls : List Request

-- A count on a line of its own, from `least` to `most`; `decimal` writes a number with no leading zero, and
-- zero as `0`.
pub record IsCount (least most : ℕ) (line : List ℕ) (n : ℕ) : Type 0 where
  pub low : least ≤ n
  pub high : n ≤ most
  pub is : line ≡ decimal n ++ line_end ∷ []

-- Lines one after the other, each of the kind L, with what they write.
pub data Lines {X : Type 0} (L : List ℕ → X → Type 0) : List ℕ → List X → Type 0 where
  no_lines : Lines L [] []
  one_more : {line rest : List ℕ} {x : X} {xs : List X} → L line x → Lines L rest xs → Lines L (line ++ rest) (x ∷ xs)

-- A section: a count, and that many lines.
pub record IsSection {X : Type 0} (least most : ℕ) (L : List ℕ → X → Type 0) (text : List ℕ) (items : List X) : Type 0 where
  pub count_line : List ℕ
  pub lines : List ℕ
  pub counted : IsCount least most count_line (length items)
  pub written : Lines L lines items
  pub is : text ≡ count_line ++ lines

-- A line that names a field.
abbrev pub IsFieldLine : List ℕ → FieldName → Type 0
IsFieldLine line name = line ≡ field_word name ++ line_end ∷ []

-- A number of a call: one to four digits.
abbrev pub IsCallNumber : List ℕ → Type 0
IsCallNumber x = IsNumeral most_call_digits x

-- The numbers of a call, each after exactly one blank.
pub data Numbers : List ℕ → List ℕ → Type 0 where
  no_numbers : Numbers [] []
  number_more : {x rest : List ℕ} {ns : List ℕ} → IsCallNumber x → Numbers rest ns → Numbers (blank_byte ∷ (x ++ rest)) (numeral 0 x ∷ ns)

-- A line that holds a call: its name, its numbers and the end of the line. Channel and slot come first, for
-- put and strike then the position; put may carry codes, and so may measure.
pub data IsCallLine : List ℕ → Request → Type 0 where
  open_line : {x : List ℕ} {c t : ℕ} → Numbers x (c ∷ t ∷ []) → IsCallLine (codes "open" ++ (x ++ line_end ∷ [])) (opens c t)
  put_line : {x : List ℕ} {c t p : ℕ} {residue : List ℕ} → Numbers x (c ∷ t ∷ p ∷ residue) → length residue ≤ most_put_codes
      → IsCallLine (codes "put" ++ (x ++ line_end ∷ [])) (puts c t p residue)
  strike_line : {x : List ℕ} {c t p : ℕ} → Numbers x (c ∷ t ∷ p ∷ []) → IsCallLine (codes "strike" ++ (x ++ line_end ∷ [])) (strikes c t p)
  read_line : {x : List ℕ} {c t : ℕ} → Numbers x (c ∷ t ∷ []) → IsCallLine (codes "read" ++ (x ++ line_end ∷ [])) (reads c t [])
  measure_line : {x : List ℕ} {c t : ℕ} {message : List ℕ} → Numbers x (c ∷ t ∷ message) → length message ≤ most_measure_codes
      → IsCallLine (codes "measure" ++ (x ++ line_end ∷ [])) (measures c t message)
  close_line : {x : List ℕ} {c t : ℕ} → Numbers x (c ∷ t ∷ []) → IsCallLine (codes "close" ++ (x ++ line_end ∷ [])) (closes c t)

-- A sheet: the four sections in their order, and nothing else.
pub record IsSheet (text : List ℕ) (content : Content) : Type 0 where
  pub field_text : List ℕ
  pub carrying_text : List ℕ
  pub spare_text : List ℕ
  pub calls_text : List ℕ
  pub field_section : IsSection 1 1 IsFieldLine field_text (content.field ∷ [])
  pub carrying_section : IsSection least_moduli most_moduli IsModulusLine carrying_text content.carrying
  pub spare_section : IsSection least_moduli most_moduli IsModulusLine spare_text content.spare
  pub calls_section : IsSection 0 most_calls IsCallLine calls_text content.calls
  pub is : text ≡ field_text ++ (carrying_text ++ (spare_text ++ calls_text))

-- A sheet has one content.
abbrev pub OneContent : Type 0
OneContent = (text : List ℕ) (a b : Content) → IsSheet text a → IsSheet text b → a ≡ b
