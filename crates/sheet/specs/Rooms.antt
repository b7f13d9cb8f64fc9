-- The room that reading a sheet takes.
use Rattle.std.specs.Prelude.{◌≡◌, ℕ, ◌*◌, ◌≤◌, vec_capacity, vec_len}
use Rattle.std.specs.Global.{Vec}
use Rattle.plan.specs.Limits.{modulus_codes}
use Rattle.rack.specs.declared.call.Call.{Call}
use Rattle.rack.specs.declared.call.Call.TheVariants.{Close, Measure, Open, Put, Read, Strike}
use Rattle.sheet.specs.Limits.{most_measure_codes, most_moduli}

-- The codes of all moduli, carrying and spare.
abbrev pub most_moduli_codes : ℕ
most_moduli_codes = 2 * most_moduli * modulus_codes

-- The codes of a call: a measure carries the most.
abbrev pub most_call_codes : ℕ
most_call_codes = most_measure_codes

-- Nothing is held yet, and there is room for so many.
abbrev pub Vacant : {X : Type 0} → ℕ → Vec X → Type 0
Vacant n held = (vec_len held ≡ 0) × (n ≤ vec_capacity held)

-- The buffer of a read, which a sheet does not write, has room for the codes of any message.
abbrev pub HasRoom : Call → Type 0
HasRoom (Open channel slot) = Unit {0}
HasRoom (Put channel slot position residue) = Unit {0}
HasRoom (Strike channel slot position) = Unit {0}
HasRoom (Read channel slot buffer) = most_measure_codes ≤ vec_capacity buffer
HasRoom (Measure channel slot message) = Unit {0}
HasRoom (Close channel slot) = Unit {0}
