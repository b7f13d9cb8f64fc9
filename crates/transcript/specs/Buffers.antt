-- What a call has in its buffer.
use Rattle.std.specs.Prelude.{ℕ, List, []}
use Rattle.rack.specs.Ledger.{Request, closes, measures, opens, puts, reads, strikes}

-- The codes in a read's buffer; another call has none.
abbrev pub buffer_in : Request → List ℕ
buffer_in (opens channel slot) = []
buffer_in (puts channel slot position residue) = []
buffer_in (strikes channel slot position) = []
buffer_in (reads channel slot buffer) = buffer
buffer_in (measures channel slot message) = []
buffer_in (closes channel slot) = []
