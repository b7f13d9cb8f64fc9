-- The state of a rack over any field and memory, the request that a call is, and outcomes in one form.
use Rattle.std.specs.Prelude.{ℤ, Ok, Err, vec_items, Result}
use Rattle.field.specs.declared.Field as field
use Rattle.memory.specs.declared.meaning.Memory as memory
use Rattle.plan.specs.Held.{scheme}
use Rattle.rack.specs.Told.{Outcome}
use Rattle.rack.specs.Ledger.{Request, closes, measures, opens, puts, reads, strikes}
use Rattle.rack.specs.States.{Performs, State, held_by}
use Rattle.rack.specs.declared.call.Answer.{Answer}
use Rattle.rack.specs.declared.call.Answer.TheVariants.{Done, Margin, Message}
use Rattle.rack.specs.declared.call.Call.{Call}
use Rattle.rack.specs.declared.call.Call.TheVariants.{Open, Put, Strike, Read, Measure, Close}
use Rattle.rack.specs.declared.call.Found.{Found}
use Rattle.rack.specs.declared.faults.RackFault.{RackFault}
use Rattle.rack.specs.declared.table.Rack.{Rack}

abbrev pub state : {F M : Type 0} {fields : field.Ghosts F} {memories : memory.Ghosts M} → Rack F M fields memories → State
state {fields = fields} {memories = memories} rack =
    held_by (scheme rack.plan) rack.slots (memories.cells rack.memory) (memories.top rack.memory)

-- What each call promises, over any field and memory.
abbrev pub CallOn : {F M : Type 0} {fields : field.Ghosts F} {memories : memory.Ghosts M}
    → Rack F M fields memories → Request → Outcome → Rack F M fields memories → Request → Type 0
CallOn before request outcome after given = Performs (state before) request outcome (state after) given

-- What a call is given.
abbrev pub given_by : Call → Request
given_by (Open channel slot) = opens channel slot
given_by (Put channel slot position residue) = puts channel slot position (vec_items residue)
given_by (Strike channel slot position) = strikes channel slot position
given_by (Read channel slot buffer) = reads channel slot (vec_items buffer)
given_by (Measure channel slot message) = measures channel slot (vec_items message)
given_by (Close channel slot) = closes channel slot

-- The result of a call as an outcome, by what it answers where it is accepted.
abbrev pub outcome_of : {X : Type 0} → (X → Answer) → Result X RackFault → Outcome
outcome_of answer (Ok given) = Ok (answer given)
outcome_of answer (Err fault) = Err fault

abbrev pub done : Result (Unit {0}) RackFault → Outcome
done = outcome_of (λ _. Done)

abbrev pub found : Result Found RackFault → Outcome
found = outcome_of Message

abbrev pub margin_told : Result ℤ RackFault → Outcome
margin_told = outcome_of Margin
