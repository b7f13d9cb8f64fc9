-- What holds of every sheet and of every answer to one.
use Rattle.std.specs.Prelude.{◌≡◌, ℕ, List, map, Some, Ok, Err, vec_items, Result}
use Rattle.rack.specs.Racks.{given_by}
use Rattle.sheet.specs.Grammar.{Content}
use Rattle.sheet.specs.Refusals.{IsTooLong, LacksValue, Lawful, SheetTold, StopsAt, codes_of}
use Rattle.sheet.specs.declared.faults.SheetFault.{SheetFault}
use Rattle.sheet.specs.declared.sheets.Sheet.{Sheet}

-- The bytes meet none of the grounds 1 to 3.
pub record MeetsNone (bytes : List ℕ) : Type 0 where
  pub first : ¬ (IsTooLong bytes)
  pub second : (place : ℕ) → ¬ (StopsAt bytes place)
  pub third : (line : ℕ) → ¬ (LacksValue bytes line)

-- A lawful sheet meets none of the grounds, and no bytes are neither lawful nor meet one.
pub record LawfulOrGround (bytes : List ℕ) : Type 0 where
  pub lawful : Lawful bytes → MeetsNone bytes
  pub no_third : MeetsNone bytes → ¬ (¬ (Lawful bytes))

-- Two sheets tell the same: the field, k, the codes of all moduli and the calls.
pub record SameSheet (a b : Sheet) : Type 0 where
  pub field : a.field ≡ b.field
  pub carriers : a.carriers ≡ b.carriers
  pub moduli : vec_items a.moduli ≡ vec_items b.moduli
  pub calls : map given_by (vec_items a.calls) ≡ map given_by (vec_items b.calls)

-- Two answers tell the same: sheets that do, or one fault with one place.
abbrev pub SameAnswer : Result Sheet SheetFault → Result Sheet SheetFault → Type 0
SameAnswer (Ok a) (Ok b) = SameSheet a b
SameAnswer (Ok a) (Err fault) = ⊥
SameAnswer (Err fault) (Ok b) = ⊥
SameAnswer (Err fault) (Err other) = fault ≡ other

-- To the same bytes there is one answer.
abbrev pub OneAnswer : Type 0
OneAnswer = (bytes : List ℕ) (a b : Result Sheet SheetFault) → SheetTold bytes a → SheetTold bytes b → SameAnswer a b

-- The codes of all moduli.
abbrev pub HasCodes : Content → Type 0
HasCodes content = (codes : List ℕ) × (codes_of content ≡ Some codes)
