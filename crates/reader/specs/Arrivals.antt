-- The account that what has arrived gives.
use Rattle.std.specs.Prelude.{ℕ, Bool, false, cond, List, take, drop, Some, None, Option, slice_index_or}
use Rattle.std.specs.Borrow.{Bor}
use Rattle.std.specs.Option.{option_copied}
use Rattle.field.specs.declared.Field as field
use Rattle.plan.specs.Accounts.{Account}
use Rattle.plan.specs.Held.{scheme}
use Rattle.plan.specs.Schemes.{Scheme, degree, start}
use Rattle.reader.specs.declared.arrived_word.ArrivedWord.{ArrivedWord}

-- Residues by position, none where a position is missing. A position past the last of them is missing too.
abbrev pub account_of : List (Option (Bor (List ℕ))) → Account
account_of residues i = option_copied (slice_index_or residues i None)

-- What a word holds for position i.
abbrev pub part : Scheme → List ℕ → ℕ → List ℕ
part s word i = take (degree s i) (drop (start s i) word)

-- A word of which only some positions have arrived.
abbrev pub received : Scheme → List ℕ → List Bool → Account
received s word present i = cond (slice_index_or present i false) (Some (part s word i)) None

-- What has arrived of the word that is lent, by its flags.
abbrev pub account_of_word : {F : Type 0} {fields : field.Ghosts F} → ArrivedWord F fields → Account
account_of_word arrived = received (scheme arrived.plan.now) arrived.word.now arrived.present.now
