-- What comes of the bytes of a sheet: a refusal, or its calls as a list that was run, which keeps the promise
-- about arrangements.
use Rattle.std.specs.Prelude.{◌≡◌, ℕ, ◌*◌, true, List, map, length, replicate, Some, Ok, Err, vec_items, Result}
use Rattle.algebra.specs.Field.{Arithmetic}
use Rattle.batch.specs.Lists.{requests}
use Rattle.batch.specs.Promise.{Kept}
use Rattle.batch.specs.declared.entry.Entry.{Entry}
use Rattle.expression.specs.Fields.{arithmetic_of}
use Rattle.memory.specs.Meaning.{max_top}
use Rattle.plan.specs.Refusals.{Accepted, Refused}
use Rattle.plan.specs.Schemes.{Scheme, handed_in, message_length, word_length}
use Rattle.rack.specs.Ledger.{Request, closes, measures, opens, puts, reads, strikes}
use Rattle.rack.specs.States.{Fits, State}
use Rattle.sheet.specs.Grammar.{Content}
use Rattle.sheet.specs.Refusals.{IsLawful, SheetTold, codes_of}
use Rattle.spread.specs.Place.{divides, spread_row}
use Rattle.transcript.specs.Endings.{entry_of}
use Rattle.transcript.specs.declared.running.Unfit.{Unfit}
use Rattle.transcript.specs.declared.transcripts.Transcript.{Transcript}
use Rattle.transcript.specs.declared.transcripts.Transcript.TheVariants.{NoPlan, NoSheet, Ran}

-- S of the rack on which the calls of a sheet are run.
abbrev pub slots : ℕ
slots = 4

-- A call as it is run: a read, whose buffer a sheet does not write, gets one of so many zeros.
abbrev pub buffered : ℕ → Request → Request
buffered codes (opens channel slot) = opens channel slot
buffered codes (puts channel slot position residue) = puts channel slot position residue
buffered codes (strikes channel slot position) = strikes channel slot position
buffered codes (reads channel slot buffer) = reads channel slot (replicate codes 0)
buffered codes (measures channel slot message) = measures channel slot message
buffered codes (closes channel slot) = closes channel slot

module _ (s : Scheme) where
  -- The cells of all slots, each holding 0.
  abbrev pub zero_cells : List ℕ
  zero_cells = replicate (slots * word_length s) 0

  -- A list of calls, run on a rack straight from its making, of four slots over a spreading layer of depth N
  -- over these cells.
  pub record Layered (below : List ℕ) (top : ℕ) (before done : List Entry) : Type 0 where
    pub rack : State
    pub kept :
        Kept s (record {
          slots = slots;
          cells = spread_row (word_length s) below;
          top = top;
          before = before;
          done = done;
          rack = rack;
        })

  -- Calls, run so over 4 × N cells of sixteen bits that all hold 0; `done` is the list afterwards. Each read
  -- has a buffer of K codes.
  pub record RanOn (calls : List Request) (done : List Entry) : Type 0 where
    pub before : List Entry
    pub asked : requests before ≡ map (buffered (message_length s)) calls
    pub ran : Layered zero_cells max_top before done

  -- The depth divides the number of cells, and a rack of four slots fits over the layer.
  pub record LayerFits (below : List ℕ) (top : ℕ) : Type 0 where
    pub divided : divides (word_length s) (length below) ≡ true
    pub fits : Fits s slots (spread_row (word_length s) below) top

  abbrev pub LayeredTold : (below : List ℕ) → (top : ℕ) → (before done : List Entry) → Result (Unit {0}) Unfit → Type 0
  LayeredTold below top before done (Ok ran) = Layered below top before done
  LayeredTold below top before done (Err fault) = ¬ (LayerFits below top)

-- k and the moduli's codes over f: either they make no plan, by the first fault that they have; or the calls
-- were run under the plan. There is no third case: the rack always fits.
abbrev pub PlanTold : Arithmetic → ℕ → List ℕ → List Request → Transcript → Type 0
PlanTold f k codes calls (NoSheet fault) = ⊥
PlanTold f k codes calls (NoPlan fault) = Refused f k codes fault
PlanTold f k codes calls (Ran ran) =
    Accepted f k codes × RanOn (handed_in f k codes) calls (map entry_of (vec_items ran.ended))

-- The bytes are a lawful sheet, and this comes of its plan and its calls; `moduli` are the codes of all, one
-- after the other.
pub record Obeys (bytes : List ℕ) (t : Transcript) : Type 0 where
  pub content : Content
  pub moduli : List ℕ
  pub lawful : IsLawful bytes content
  pub valued : codes_of content ≡ Some moduli
  pub told : PlanTold (arithmetic_of content.field) (length content.carrying) moduli content.calls t

-- What comes of bytes: they are refused as no sheet, by the first of the grounds 1 to 3; or they are a lawful
-- sheet, and what comes of its plan and its calls is told.
abbrev pub TranscriptTold : List ℕ → Transcript → Type 0
TranscriptTold bytes (NoSheet fault) = SheetTold bytes (Err fault)
TranscriptTold bytes (NoPlan fault) = Obeys bytes (NoPlan fault)
TranscriptTold bytes (Ran ran) = Obeys bytes (Ran ran)
