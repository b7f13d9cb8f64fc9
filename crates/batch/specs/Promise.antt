-- The promise about arrangements: what every list of calls on a rack straight from its making keeps, and what
-- any two readings under one plan have to do with one another.
use Rattle.std.specs.Prelude.{◌≡◌, ℕ, ◌<◌, List, length, take, Some, None, Ok, fold}
use Rattle.field.specs.declared.Field as field
use Rattle.memory.specs.declared.meaning.Memory as memory
use Rattle.plan.specs.Accounts.{Account, Within}
use Rattle.plan.specs.Schemes.{Scheme}
use Rattle.rack.specs.CanRead.{CanRead}
use Rattle.rack.specs.Ledger.{Ledger, account_in, after, blank, judge, open_for, reads}
use Rattle.rack.specs.Making.{Made}
use Rattle.rack.specs.Racks.{state}
use Rattle.rack.specs.States.{Agrees, IsRack, State, state_after}
use Rattle.rack.specs.declared.call.Answer.TheVariants.{Message}
use Rattle.rack.specs.declared.call.Found.{Found}
use Rattle.rack.specs.declared.channel.Channel.{Channel}
use Rattle.rack.specs.declared.table.Rack.{Rack}
use Rattle.batch.specs.Lists.{Ran, entry_at, ledger_before, request_at, requests}
use Rattle.batch.specs.declared.entry.Entry.{Entry}
use Rattle.batch.specs.declared.loading.Loading.{Loading}

-- A list of calls on a rack straight from its making: S; the cells and the top of the memory as it was handed
-- in; the list as it was handed in, and once it is run; and the rack as it is given back.
pub record Load : Type 0 where
  pub slots : ℕ
  pub cells : List ℕ
  pub top : ℕ
  pub before : List Entry
  pub done : List Entry
  pub rack : State

-- The same by what is handed in, by the list once it is run, and by the rack that comes back.
abbrev pub load_of : {F M : Type 0} {fields : field.Ghosts F} {memories : memory.Ghosts M}
    → Loading M → List Entry → Rack F M fields memories → Load
load_of {memories = memories} loading done rack =
    record {
      slots = loading.slots;
      cells = memories.cells loading.memory;
      top = memories.top loading.memory;
      before = loading.entries.now;
      done = done;
      rack = state rack;
    }

-- The rack as the first n calls of the list leave it, where it was `start` when it was made.
abbrev pub rack_at : Load → State → ℕ → State
rack_at load start n = fold state_after start (requests (take n load.before))

module _ (s : Scheme) where
  -- The ledger beside the list, from the rack's making: just before call i, and after the list.
  abbrev pub ledger_at : Load → ℕ → Ledger
  ledger_at load i = ledger_before s load.slots blank load.before i

  abbrev pub ledger_left : Load → Ledger
  ledger_left load = after s load.slots blank (requests load.before)

  -- Call i is a reading of this account: a read that the ledger passes, the account being its slot's as it then stands.
  pub record IsReading (load : Load) (i : ℕ) (account : Account) : Type 0 where
    pub place : i < length load.before
    pub channel : ℕ
    pub slot : ℕ
    pub buffer : List ℕ
    pub asks : request_at load.before i ≡ reads channel slot buffer
    pub passes : judge s load.slots (ledger_at load i) (reads channel slot buffer) ≡ None
    pub account_is : account_in (ledger_at load i slot) ≡ account

  -- Call i, a read by this channel of this slot, was accepted, and its buffer then holds these codes.
  pub record Gave (load : Load) (i channel slot : ℕ) (codes : List ℕ) : Type 0 where
    pub found : Found
    pub accepted : (entry_at load.done i).outcome ≡ Some (Ok (Message found))
    pub filled : request_at load.done i ≡ reads channel slot codes

  -- Two readings are equal messages: both were accepted, and their buffers then hold the same codes.
  pub record EqualMessages (one other : Load) (i j : ℕ) (a b : Account) (here : IsReading one i a) (there : IsReading other j b) : Type 0 where
    pub codes : List ℕ
    pub one_gave : Gave one i here.channel here.slot codes
    pub other_gave : Gave other j there.channel there.slot codes

  -- The law of two readings, call i of one list and call j of the other. The two lists may be one, and so may
  -- the readings.
  pub record SameMessages (one other : Load) : Type 0 where
    -- They are equal messages exactly when some message lies within the allowance of both accounts.
    pub equal :
        (i j : ℕ) (a b : Account) (here : IsReading one i a) (there : IsReading other j b)
        → (EqualMessages one other i j a b here there → (message : List ℕ) × Within s a message × Within s b message)
        × (((message : List ℕ) × Within s a message × Within s b message) → EqualMessages one other i j a b here there)
    -- So it is of each message: both were accepted with it in their buffers exactly when it lies within both.
    pub each :
        (i j : ℕ) (a b : Account) (here : IsReading one i a) (there : IsReading other j b) (message : List ℕ)
        → (Gave one i here.channel here.slot message × Gave other j there.channel there.slot message
        → Within s a message × Within s b message)
        × (Within s a message × Within s b message
        → Gave one i here.channel here.slot message × Gave other j there.channel there.slot message)

  -- What one list of calls keeps.
  pub record Kept (load : Load) : Type 0 where
    -- The rack was made of the memory and S, every slot closed, and is what the calls made of it, cell by cell and
    -- record by record; it is a rack still; it agrees with the ledger, so that every further call on it is answered by
    -- that ledger.
    pub start : State
    pub made : Made s load.slots load.cells load.top start
    pub left : load.rack ≡ fold state_after start (requests load.before)
    pub is_rack : IsRack load.rack
    pub agrees : Agrees load.rack (ledger_left load)
    -- Each call is answered as the ledger just before it says: refused by the first of the grounds 10 to 17 that it
    -- meets, what it was given unaltered; else accepted, save a read that 18 or 19 refuses.
    pub ran : Ran s load.slots blank load.before load.done
    -- After the first n calls of the list, for every n: the channel that the ledger then has a slot open for can read
    -- there each message within the allowance of the slot's account.
    pub can_read :
        (n slot : ℕ) (channel : Channel) (account : Account) → ledger_at load n slot ≡ open_for channel account
        → (message : List ℕ) → Within s account message
        → CanRead (rack_at load start n) slot channel account message
    -- Any two readings of the list are equal messages exactly when one message lies within both allowances.
    pub same_within : SameMessages load load

  -- Two lists of calls on two racks under one plan: each keeps what one list keeps, and the law of two
  -- readings holds across them.
  pub record Promise (one other : Load) : Type 0 where
    pub first : Kept one
    pub second : Kept other
    pub across : SameMessages one other
