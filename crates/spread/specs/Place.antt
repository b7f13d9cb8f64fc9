-- Where the spreading layer finds each of its cells in the memory below it.
use Rattle.std.specs.Prelude.{◌≡◌, ℕ, ◌+◌, ◌*◌, ◌/◌, ◌%◌, ◌<◌, Bool, false, cond, ◌&&◌, List, map, length, Some, None, Option, ◌==◌, nat_lt, slice_index, codes}
use Rattle.std.proofs.Common.{arith}
use Rattle.std.specs.List.{range_with_len}
use Rattle.std.proofs.lemmas.List.FromFn.{length-map-range_with_len}
use Rattle.fault.specs.declared.Ground.{Ground}
use Rattle.fault.specs.declared.Layer.TheVariants.{Memory}
use Rattle.memory.specs.Meaning.{Bounded, Gets, Sets}

-- The ground on which a depth is refused.
abbrev pub depth_ground : Ground
depth_ground = record { number = 8; layer = Memory; first = 0; second = 0 }

-- The same in a sentence without its full stop.
abbrev pub depth_sentence : List ℕ
depth_sentence = codes "the depth is 0, or does not divide the number of cells"

-- Whether a depth divides a number of cells.
abbrev pub divides : ℕ → ℕ → Bool
divides depth len = nat_lt 0 depth && len % depth == 0

-- The cell below that is cell j of the layer. Of a depth that does not divide, which no layer has, it is said
-- to be cell j itself.
abbrev pub place : ℕ → ℕ → ℕ → ℕ
place depth len j = cond (divides depth len) (j % depth * (len / depth) + j / depth) j

-- The same of any number: nothing where the layer has no cell j.
abbrev pub placed : ℕ → ℕ → ℕ → Option ℕ
placed depth len j = cond (nat_lt j len) (Some (place depth len j)) None

-- The layer's cells, from those below.
unfoldable pub spread_row : ℕ → List ℕ → List ℕ
spread_row depth below = map (λ j. slice_index below (place depth (length below) j)) (range_with_len 0 (length below))

-- `at`, below, is where cell j of the layer lies: what is got or set there is got or set as cell j here.
pub record Stands (depth : ℕ) (below : List ℕ) (j at : ℕ) : Type 0 where
  pub gets : (top : ℕ) (answer : Option ℕ) → Gets below top at answer → Gets (spread_row depth below) top j answer
  pub sets :
      (top v : ℕ) (answer : Bool) (below' : List ℕ) (top' : ℕ)
      → Sets below top at v answer below' top'
      → Sets (spread_row depth below) top j v answer (spread_row depth below') top'

-- The layer has no cell j: nothing is got, and a set is refused and changes nothing.
pub record Missing (depth : ℕ) (below : List ℕ) (j : ℕ) : Type 0 where
  pub gets : (top : ℕ) → Gets (spread_row depth below) top j None
  pub sets : (top v : ℕ) → Sets (spread_row depth below) top j v false (spread_row depth below) top

-- p numbers 0 to n − 1 anew: each of these numbers is the new number of exactly one of them
pub record Permutes (n : ℕ) (p : ℕ → ℕ) : Type 0 where
  pub inside : (j : ℕ) → j < n → p j < n
  pub one_to_one : (j k : ℕ) → j < n → k < n → p j ≡ p k → j ≡ k
  pub onto : (k : ℕ) → k < n → (j : ℕ) × (j < n) × (p j ≡ k)

-- The layer has as many cells as the memory below, and so stays within a memory's limits.
pub spread_row_length : (depth : ℕ) (below : List ℕ) → length (spread_row depth below) ≡ length below
unfolding spread_row
spread_row_length depth below = length-map-range_with_len (λ j. slice_index below (place depth (length below) j)) 0 (length below)

pub spread_row_bounded : (depth : ℕ) (below : List ℕ) (top : ℕ) → Bounded below top → Bounded (spread_row depth below) top
spread_row_bounded depth below top b = record { few = omega (arith, spread_row_length depth below, b.few); top_low = b.top_low; top_high = b.top_high }
