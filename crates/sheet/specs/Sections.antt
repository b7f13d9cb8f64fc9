-- Inner: no public contract cites this.
-- What the readers of sections answer.
use Rattle.std.specs.Prelude.{◌≡◌, ℕ, ◌+◌, ◌*◌, ◌≤◌, List, [], ◌∷◌, ◌++◌, map, length, Some, None, All, MatchResult, vec_capacity, vec_items, vec_len, Result}
use Rattle.std.specs.Option.{option_or}
use Rattle.std.specs.Global.{Vec}
use Rattle.std.specs.List.{flat_map}
use Rattle.algebra.specs.Field.{Arithmetic}
use Rattle.expression.specs.Grammar.{IsModulusLine}
use Rattle.expression.specs.Texts.{Got, Lost}
use Rattle.expression.specs.Values.{Expression, Value, value}
use Rattle.expression.specs.declared.parsed.Parsed.{Parsed}
use Rattle.expression.specs.declared.parsed.Stop.{Stop}
use Rattle.rack.specs.declared.call.Call.{Call}
use Rattle.expression.specs.declared.names.FieldName.{FieldName}
use Rattle.plan.specs.Limits.{modulus_codes}
use Rattle.rack.specs.Racks.{given_by}
use Rattle.sheet.specs.Grammar.{IsCallLine, IsFieldLine, IsSection}
use Rattle.sheet.specs.Limits.{least_moduli, most_calls, most_moduli}
use Rattle.sheet.specs.BadLines.{first_without, line_unless}
use Rattle.sheet.specs.Rooms.{HasRoom}
use Rattle.sheet.specs.Sequences.{Any}
use Rattle.sheet.specs.declared.moduli.Moduli.{Moduli}

-- Some section of each kind.
abbrev pub AnyField : List ℕ → Type 0
AnyField text = (name : FieldName) × IsSection 1 1 IsFieldLine text (name ∷ [])

abbrev pub AnyModuli : List ℕ → Type 0
AnyModuli text = Any (IsSection least_moduli most_moduli IsModulusLine) text

abbrev pub AnyCalls : List ℕ → Type 0
AnyCalls text = Any (IsSection 0 most_calls IsCallLine) text

abbrev pub FieldTold : List ℕ → ℕ → Result (Parsed FieldName) Stop → Type 0
FieldTold s from r =
    MatchResult r (λ field. Got (λ x. IsSection 1 1 IsFieldLine x (field.value ∷ [])) s from field.end)
    (λ stop. Lost AnyField s from stop.place)

-- The codes of a value, and none where there is none.
abbrev pub codes_in : Value → List ℕ
codes_in None = []
codes_in (Some codes) = codes

-- The value on a line was noted after those before it, in the room that there was.
pub record Keeps (line : ℕ) (v : Value) (before after : Moduli) : Type 0 where
  pub codes_are : vec_items after.codes ≡ vec_items before.codes ++ codes_in v
  pub bad_is : after.bad ≡ option_or before.bad (line_unless v line None)
  pub few : vec_len after.codes ≤ vec_len before.codes + modulus_codes
  pub wide : vec_capacity before.codes ≤ vec_capacity after.codes

-- The values of expressions were noted, of which the first stands on a line.
pub record Noted (f : Arithmetic) (line : ℕ) (expressions : List Expression) (before after : Moduli) : Type 0 where
  pub codes_are : vec_items after.codes ≡ vec_items before.codes ++ flat_map (λ e. codes_in (value f e)) expressions
  pub bad_is : after.bad ≡ option_or before.bad (first_without f line expressions None)
  pub few : vec_len after.codes ≤ vec_len before.codes + modulus_codes * length expressions
  pub wide : vec_capacity before.codes ≤ vec_capacity after.codes

pub record ModuliRead (f : Arithmetic) (s : List ℕ) (from line : ℕ) (before after : Moduli) (counted : Parsed ℕ) : Type 0 where
  pub expressions : List Expression
  pub section : Got (λ x. IsSection least_moduli most_moduli IsModulusLine x expressions) s from counted.end
  pub count_is : counted.value ≡ length expressions
  pub noted : Noted f line expressions before after

abbrev pub ModuliTold : Arithmetic → List ℕ → ℕ → ℕ → Moduli → Moduli → Result (Parsed ℕ) Stop → Type 0
ModuliTold f s from line before after r =
    MatchResult r (ModuliRead f s from line before after) (λ stop. Lost AnyModuli s from stop.place)

pub record CallsRead (s : List ℕ) (from : ℕ) (calls : Parsed (Vec Call)) : Type 0 where
  pub section : Got (λ x. IsSection 0 most_calls IsCallLine x (map given_by (vec_items calls.value))) s from calls.end
  pub has_room : All HasRoom (vec_items calls.value)

abbrev pub CallsTold : List ℕ → ℕ → Result (Parsed (Vec Call)) Stop → Type 0
CallsTold s from r = MatchResult r (CallsRead s from) (λ stop. Lost AnyCalls s from stop.place)
