-- What making racks and running lists of calls on them answers, over any field and memory. A `Loading` is a
-- memory, S and a list of calls; `done` is that list afterwards. Run: the promise. Not run: why, and all is
-- as it was.
use Rattle.std.specs.Prelude.{◌≡◌, ℕ, List, Ok, Err, Result}
use Rattle.field.specs.declared.Field as field
use Rattle.memory.specs.declared.meaning.Memory as memory
use Rattle.memory.specs.declared.returned.Returned.{Returned}
use Rattle.plan.specs.Refusals.{Accepted}
use Rattle.plan.specs.Schemes.{Scheme, handed_in}
use Rattle.rack.specs.States.{Fits}
use Rattle.rack.specs.declared.faults.FitFault.{FitFault}
use Rattle.rack.specs.declared.table.Rack.{Rack}
use Rattle.batch.specs.Promise.{Kept, Promise, load_of}
use Rattle.batch.specs.Refusals.{LoadRefused, PairRefused}
use Rattle.batch.specs.declared.entry.Entry.{Entry}
use Rattle.batch.specs.declared.faults.LoadFault.{LoadFault}
use Rattle.batch.specs.declared.loading.Loading.{Loading}
use Rattle.batch.specs.declared.loading.NotPaired.{NotPaired}

-- Under a plan of this scheme that is there already.
abbrev pub UnderTold : {F M : Type 0} {fields : field.Ghosts F} {memories : memory.Ghosts M}
    → Scheme → Loading M → (done : List Entry) → Result (Rack F M fields memories) (Returned M FitFault) → Type 0
UnderTold s loading done (Ok rack) = Kept s (load_of loading done rack)
UnderTold {memories = memories} s loading done (Err refusal) =
    ¬ (Fits s loading.slots (memories.cells loading.memory) (memories.top loading.memory))
    × (refusal.memory ≡ loading.memory) × (done ≡ loading.entries.now)

-- k and the moduli's codes as they are handed in.
module _ (k : ℕ) (codes : List ℕ) where
  abbrev pub LoadTold : {F M : Type 0} {fields : field.Ghosts F} {memories : memory.Ghosts M}
      → Loading M → (done : List Entry) → Result (Rack F M fields memories) (Returned M LoadFault) → Type 0
  LoadTold {fields = fields} loading done (Ok rack) =
      Accepted fields.arithmetic k codes × Kept (handed_in fields.arithmetic k codes) (load_of loading done rack)
  LoadTold {fields = fields} {memories = memories} loading done (Err refusal) =
      LoadRefused fields.arithmetic k codes loading.slots (memories.cells loading.memory) (memories.top loading.memory) refusal.fault
      × (refusal.memory ≡ loading.memory) × (done ≡ loading.entries.now)

  -- Two loadings, over memories of any two kinds.
  abbrev pub PairTold : {F M W : Type 0} {fields : field.Ghosts F} {memories : memory.Ghosts M} {others : memory.Ghosts W}
      → Loading M → (done : List Entry) → Loading W → (done' : List Entry)
      → Result (Rack F M fields memories × Rack F W fields others) (NotPaired M W) → Type 0
  PairTold {fields = fields} first done second done' (Ok racks) =
      Accepted fields.arithmetic k codes
      × Promise (handed_in fields.arithmetic k codes) (load_of first done racks.0) (load_of second done' racks.1)
  PairTold {fields = fields} {memories = memories} {others = others} first done second done' (Err refusal) =
      PairRefused fields.arithmetic k codes first.slots (memories.cells first.memory) (memories.top first.memory)
      second.slots (others.cells second.memory) (others.top second.memory) refusal.fault
      × (refusal.first ≡ first.memory) × (refusal.second ≡ second.memory)
      × (done ≡ first.entries.now) × (done' ≡ second.entries.now)
