-- A scheme is what a plan is about: a field's arithmetic, the number k of carrying positions, and the moduli in order.
-- Its word of a message holds, position after position, the remainder of the message by each modulus.
use Rattle.std.specs.Prelude.{◌≡◌, ℕ, suc, ◌+◌, ◌-◌, ◌*◌, ◌/◌, ◌%◌, ◌<◌, ◌≤◌, cond, ◌&&◌, List, [], ◌∷◌, ◌++◌, map, length, take, drop, ◌==◌, slice_index_or}
use Rattle.std.specs.List.{range_with_len}
use Rattle.algebra.specs.Field.{Arithmetic}
use Rattle.algebra.specs.Polynomial.{ShareFactor, coefficients}
use Rattle.algebra.specs.Remainder.{remainder}
use Rattle.plan.specs.Limits.{modulus_codes, least_degree, fewest_positions, most_positions, most_total}

pub record Scheme : Type 0 where
  pub arithmetic : Arithmetic
  pub carriers : ℕ
  -- each modulus by its codes, lowest power first; zeros may follow
  pub moduli : List (List ℕ)

-- How many codes there are up to the last that is not 0.
abbrev pub extent : List ℕ → ℕ
extent [] = 0
extent (c ∷ codes) = cond (extent codes == 0 && c == 0) 0 (suc (extent codes))

-- The degree of a polynomial other than 0. Of 0 it says 0, where the rules say -1: either is below 1, so no
-- lawful modulus has it.
abbrev pub degree_of : List ℕ → ℕ
degree_of codes = extent codes - 1

-- The sum of the degrees of some moduli.
abbrev pub total_degree : List (List ℕ) → ℕ
total_degree [] = 0
total_degree (m ∷ ms) = degree_of m + total_degree ms

-- Lists one after the other, as one.
abbrev pub joined : List (List ℕ) → List ℕ
joined [] = []
joined (r ∷ rs) = r ++ joined rs

module _ (s : Scheme) where
  abbrev pub positions : ℕ
  positions = length s.moduli

  abbrev pub modulus : ℕ → List ℕ
  modulus i = slice_index_or s.moduli i []

  abbrev pub degree : ℕ → ℕ
  degree i = degree_of (modulus i)

  -- Modulus i without the zeros after its leading code.
  abbrev pub divisor : ℕ → List ℕ
  divisor i = take (extent (modulus i)) (modulus i)

  -- Position i begins where the degrees before it end.
  abbrev pub start : ℕ → ℕ
  start i = total_degree (take i s.moduli)

  -- N, the codes of a word, and K, the codes of a message.
  abbrev pub word_length : ℕ
  word_length = total_degree s.moduli

  abbrev pub message_length : ℕ
  message_length = start s.carriers

  -- What position i of the message's word holds: the remainder of the message by modulus i.
  abbrev pub residue : List ℕ → ℕ → List ℕ
  residue message i = remainder s.arithmetic (degree i) (coefficients (modulus i)) message

  -- The first n positions of the message's word, and all of it.
  abbrev pub word_to : List ℕ → ℕ → List ℕ
  word_to message n = joined (map (residue message) (range_with_len 0 n))

  abbrev pub word : List ℕ → List ℕ
  word message = word_to message positions

  -- A message: K codes of the field.
  pub record IsMessage (message : List ℕ) : Type 0 where
    pub long : length message ≡ message_length
    pub codes : (i : ℕ) → coefficients message i < s.arithmetic.order

-- A lawful modulus: codes of the field, of degree 1 at least, the leading one being 1.
pub record IsModulus (f : Arithmetic) (m : List ℕ) : Type 0 where
  pub codes : (i : ℕ) → coefficients m i < f.order
  pub proper : least_degree ≤ degree_of m
  pub leading : coefficients m (degree_of m) ≡ 1

-- The n moduli that a list of codes holds, `modulus_codes` to each.
abbrev pub held_moduli : ℕ → List ℕ → List (List ℕ)
held_moduli n codes = map (λ i. take modulus_codes (drop (modulus_codes * i) codes)) (range_with_len 0 n)

-- k and the moduli in one list of codes, as they are handed in.
abbrev pub handed_in : Arithmetic → ℕ → List ℕ → Scheme
handed_in f k codes = record { arithmetic = f; carriers = k; moduli = held_moduli (length codes / modulus_codes) codes }

-- Whole groups of codes, and n and k in their ranges.
pub record IsShaped (k : ℕ) (codes : List ℕ) : Type 0 where
  pub whole : length codes % modulus_codes ≡ 0
  pub enough : fewest_positions ≤ length codes / modulus_codes
  pub few : length codes / modulus_codes ≤ most_positions
  pub carrying : 1 ≤ k
  pub spare : k < length codes / modulus_codes

-- Every modulus is lawful.
abbrev pub AreModuli : Scheme → Type 0
AreModuli s = (i : ℕ) → i < positions s → IsModulus s.arithmetic (modulus s i)

-- Positions i and j have moduli with a common factor.
abbrev pub Clash : Scheme → ℕ → ℕ → Type 0
Clash s i j = ShareFactor s.arithmetic (coefficients (modulus s i)) (coefficients (modulus s j))

-- What makes a scheme lawful, whoever made it.
pub record IsScheme (s : Scheme) : Type 0 where
  pub enough : fewest_positions ≤ positions s
  pub few : positions s ≤ most_positions
  pub carrying : 1 ≤ s.carriers
  pub spare : s.carriers < positions s
  pub moduli_lawful : AreModuli s
  pub short : word_length s ≤ most_total
  pub apart : (i j : ℕ) → i < j → j < positions s → ¬ (Clash s i j)
