-- When a sheet is refused, and where; and what an accepted one gives.
use Rattle.std.specs.Prelude.{◌≡◌, ℕ, ◌+◌, ◌<◌, ◌≤◌, List, [], ◌∷◌, ◌++◌, map, length, take, Some, None, Ok, Err, vec_items, All, Option, Result}
use Rattle.fault.specs.declared.Ground.{Ground}
use Rattle.fault.specs.declared.Layer.TheVariants as layer
use Rattle.algebra.specs.Field.{Arithmetic}
use Rattle.expression.specs.Fields.{arithmetic_of}
use Rattle.expression.specs.Values.{Expression, Value, value}
use Rattle.rack.specs.Racks.{given_by}
use Rattle.sheet.specs.Grammar.{Content, IsSheet}
use Rattle.sheet.specs.Limits.{first_modulus_line, longest_sheet}
use Rattle.sheet.specs.Rooms.{HasRoom}
use Rattle.sheet.specs.declared.faults.SheetFault.{SheetFault}
use Rattle.sheet.specs.declared.faults.SheetFault.TheVariants.{NoModulus, NotASheet, TooLong}
use Rattle.sheet.specs.declared.sheets.Sheet.{Sheet}

-- Ground 1: there are more bytes than a sheet may have, whatever they are.
abbrev pub IsTooLong : List ℕ → Type 0
IsTooLong bytes = longest_sheet < length bytes

-- Some sheet begins with these bytes.
abbrev pub Viable : List ℕ → Type 0
Viable beginning = (rest : List ℕ) × ((content : Content) × IsSheet (beginning ++ rest) content)

-- Ground 2: the bytes are no sheet, and p is the length of their longest beginning that also begins some
-- sheet, of any length.
pub record StopsAt (bytes : List ℕ) (p : ℕ) : Type 0 where
  pub no_sheet : (content : Content) → ¬ (IsSheet bytes content)
  pub within : p ≤ length bytes
  pub viable : Viable (take p bytes)
  pub longest : (k : ℕ) → p < k → k ≤ length bytes → ¬ (Viable (take k bytes))

-- The line of the first spare modulus: before it stand the lines to the last carrying modulus, and a count.
abbrev pub first_spare_line : Content → ℕ
first_spare_line content = first_modulus_line + length content.carrying + 1

-- The modulus that stands on a line of a sheet.
pub data OnLine (content : Content) : ℕ → Expression → Type 0 where
  among_carrying : (before after : List Expression) {e : Expression} → content.carrying ≡ before ++ (e ∷ after)
      → OnLine content (first_modulus_line + length before) e
  among_spare : (before after : List Expression) {e : Expression} → content.spare ≡ before ++ (e ∷ after)
      → OnLine content (first_spare_line content + length before) e

-- A modulus has no value over the sheet's field.
abbrev pub NoValue : Content → Expression → Type 0
NoValue content e = value (arithmetic_of content.field) e ≡ None

-- Every modulus has a value.
abbrev pub AllValued : Content → Type 0
AllValued content = (line : ℕ) (e : Expression) → OnLine content line e → ¬ (NoValue content e)

-- The first line whose modulus has no value.
pub record FirstBadLine (content : Content) (line : ℕ) : Type 0 where
  pub modulus : Expression
  pub there : OnLine content line modulus
  pub bad : NoValue content modulus
  pub before : (l : ℕ) (e : Expression) → l < line → OnLine content l e → ¬ (NoValue content e)

-- Ground 3: the bytes are of the grammar, and this is the first line whose modulus has no value.
pub record LacksValue (bytes : List ℕ) (line : ℕ) : Type 0 where
  pub content : Content
  pub written : IsSheet bytes content
  pub first : FirstBadLine content line

-- A sheet is lawful when it meets none of the grounds 1 to 3: it is no longer than a sheet may be, it is of
-- the grammar, and every modulus has a value. `content` is what it says.
pub record IsLawful (bytes : List ℕ) (content : Content) : Type 0 where
  pub short : length bytes ≤ longest_sheet
  pub written : IsSheet bytes content
  pub valued : AllValued content

abbrev pub Lawful : List ℕ → Type 0
Lawful bytes = (content : Content) × IsLawful bytes content

-- The codes of moduli, nine to each, one after the other; none where one of them has no value.
abbrev pub codes_after : Value → Option (List ℕ) → Option (List ℕ)
codes_after None later = None
codes_after (Some p) None = None
codes_after (Some p) (Some codes) = Some (p ++ codes)

abbrev pub moduli_codes : Arithmetic → List Expression → Option (List ℕ)
moduli_codes f [] = Some []
moduli_codes f (e ∷ es) = codes_after (value f e) (moduli_codes f es)

-- The codes of all moduli that a sheet writes.
abbrev pub codes_of : Content → Option (List ℕ)
codes_of content = moduli_codes (arithmetic_of content.field) (content.carrying ++ content.spare)

-- What an accepted sheet gives: the field by its name, k, the codes of all moduli, and the calls. Each read comes with
-- room for its message.
pub record Gives (sheet : Sheet) (content : Content) : Type 0 where
  pub field_is : sheet.field ≡ content.field
  pub carriers_are : sheet.carriers ≡ length content.carrying
  pub moduli_are : codes_of content ≡ Some (vec_items sheet.moduli)
  pub calls_are : map given_by (vec_items sheet.calls) ≡ content.calls
  pub has_room : All HasRoom (vec_items sheet.calls)

-- A sheet is accepted exactly when it is lawful; else it is refused by the first of the grounds 1 to 3 that holds, with
-- its place.
abbrev pub SheetTold : List ℕ → Result Sheet SheetFault → Type 0
SheetTold bytes (Ok sheet) = (content : Content) × IsLawful bytes content × Gives sheet content
SheetTold bytes (Err TooLong) = IsTooLong bytes
SheetTold bytes (Err (NotASheet place)) = ¬ (IsTooLong bytes) × StopsAt bytes place
SheetTold bytes (Err (NoModulus line)) = ¬ (IsTooLong bytes) × LacksValue bytes line

-- Number, layer and places.
abbrev pub sheet_ground : SheetFault → Ground
sheet_ground TooLong = record { number = 1; layer = layer.Sheet; first = 0; second = 0 }
sheet_ground (NotASheet place) = record { number = 2; layer = layer.Sheet; first = place; second = 0 }
sheet_ground (NoModulus line) = record { number = 3; layer = layer.Sheet; first = line; second = 0 }
