-- What is said of a refused sheet, in a sentence without its full stop; places are counted from 0.
use Rattle.std.specs.Prelude.{ℕ, List, ◌++◌, codes, decimal}
use Rattle.sheet.specs.Limits.{longest_sheet}
use Rattle.sheet.specs.declared.faults.SheetFault.{SheetFault}
use Rattle.sheet.specs.declared.faults.SheetFault.TheVariants.{NoModulus, NotASheet, TooLong}

abbrev pub sheet_sentence : SheetFault → List ℕ
sheet_sentence TooLong = codes "the sheet is longer than " ++ decimal longest_sheet ++ codes " bytes"
sheet_sentence (NotASheet place) = codes "the text is no sheet: no more than its first " ++ decimal place ++ codes " bytes begin one"
sheet_sentence (NoModulus line) = codes "the modulus on line " ++ decimal line ++ codes ", counted from 0, has no value"
