-- When a plan is accepted, and by which fault it is refused otherwise; likewise for encoding.
use Rattle.std.specs.Prelude.{◌≡◌, ℕ, ◌<◌, ◌≤◌, List, length, take, drop, Ok, Err, Result}
use Rattle.fault.specs.declared.Ground.{Ground}
use Rattle.fault.specs.declared.Layer.TheVariants as layer
use Rattle.algebra.specs.Field.{Arithmetic}
use Rattle.algebra.specs.Polynomial.{coefficients}
use Rattle.algebra.specs.Remainder.{IsRemainder}
use Rattle.plan.specs.Limits.{most_total}
use Rattle.plan.specs.Schemes.{Scheme, IsMessage, IsShaped, IsModulus, IsScheme, AreModuli, Clash, degree, handed_in, positions, modulus, message_length, start, word, word_length}
use Rattle.plan.specs.declared.faults.EncodeFault.{EncodeFault}
use Rattle.plan.specs.declared.faults.EncodeFault.TheVariants.{MessageLength, WordLength, NoCode}
use Rattle.plan.specs.declared.faults.PlanFault.{PlanFault}
use Rattle.plan.specs.declared.faults.PlanFault.TheVariants.{Shape, Modulus, TotalDegree, SharedFactor}

-- What is handed in makes a lawful scheme.
pub record Accepted (f : Arithmetic) (k : ℕ) (codes : List ℕ) : Type 0 where
  pub shaped : IsShaped k codes
  pub lawful : IsScheme (handed_in f k codes)

-- i is the first position whose modulus is not lawful.
pub record FirstBadModulus (s : Scheme) (i : ℕ) : Type 0 where
  pub place : i < positions s
  pub bad : ¬ (IsModulus s.arithmetic (modulus s i))
  pub before : (j : ℕ) → j < i → IsModulus s.arithmetic (modulus s j)

-- i and j are the first pair whose moduli share a factor: i is the least there is, and j the least for it.
pub record FirstClash (s : Scheme) (i j : ℕ) : Type 0 where
  pub ordered : i < j
  pub place : j < positions s
  pub clash : Clash s i j
  pub rows_before : (a b : ℕ) → a < i → a < b → b < positions s → ¬ (Clash s a b)
  pub before_in_row : (b : ℕ) → i < b → b < j → ¬ (Clash s i b)

-- The fault is the first that what is handed in has.
abbrev pub Refused : Arithmetic → ℕ → List ℕ → PlanFault → Type 0
Refused f k codes Shape = ¬ (IsShaped k codes)
Refused f k codes (Modulus i) = IsShaped k codes × FirstBadModulus (handed_in f k codes) i
Refused f k codes TotalDegree = IsShaped k codes × AreModuli (handed_in f k codes) × (most_total < word_length (handed_in f k codes))
Refused f k codes (SharedFactor i j) =
    IsShaped k codes × AreModuli (handed_in f k codes) × (word_length (handed_in f k codes) ≤ most_total) × FirstClash (handed_in f k codes) i j

-- Every number of the list is a code.
abbrev pub AreCodes : Arithmetic → List ℕ → Type 0
AreCodes f numbers = (i : ℕ) → coefficients numbers i < f.order

-- i is the place of the first number that is no code.
pub record FirstNoCode (f : Arithmetic) (numbers : List ℕ) (i : ℕ) : Type 0 where
  pub place : i < length numbers
  pub no_code : f.order ≤ coefficients numbers i
  pub before : (j : ℕ) → j < i → coefficients numbers j < f.order

-- The fault is the first that a message and a buffer for its word have.
abbrev pub EncodeRefused : Scheme → List ℕ → List ℕ → EncodeFault → Type 0
EncodeRefused s message buffer (MessageLength right) = (right ≡ message_length s) × ¬ (length message ≡ right)
EncodeRefused s message buffer (WordLength right) = (length message ≡ message_length s) × (right ≡ word_length s) × ¬ (length buffer ≡ right)
EncodeRefused s message buffer (NoCode i) = (length message ≡ message_length s) × (length buffer ≡ word_length s) × FirstNoCode s.arithmetic message i

-- What encoding answers, and what the buffer holds afterwards.
abbrev pub Encoded : Scheme → List ℕ → List ℕ → List ℕ → Result (Unit {0}) EncodeFault → Type 0
Encoded s message before after (Ok done) = IsMessage s message × (length before ≡ word_length s) × (after ≡ word s message)
Encoded s message before after (Err fault) = EncodeRefused s message before fault × (after ≡ before)

-- Position by position, the word holds the remainder of the message by the modulus: message = quotient ·
-- modulus + remainder.
abbrev pub HoldsRemainders : Scheme → List ℕ → List ℕ → Type 0
HoldsRemainders s message codes =
    (i : ℕ) → i < positions s
    → IsRemainder s.arithmetic (degree s i) (coefficients (modulus s i)) (coefficients message)
    (coefficients (take (degree s i) (drop (start s i) codes)))

-- Number, layer and places of each fault.
abbrev pub plan_ground : PlanFault → Ground
plan_ground Shape = record { number = 4; layer = layer.Plan; first = 0; second = 0 }
plan_ground (Modulus i) = record { number = 5; layer = layer.Plan; first = i; second = 0 }
plan_ground TotalDegree = record { number = 6; layer = layer.Plan; first = 0; second = 0 }
plan_ground (SharedFactor i j) = record { number = 7; layer = layer.Plan; first = i; second = j }

abbrev pub encode_ground : EncodeFault → Ground
encode_ground (MessageLength right) = record { number = 16; layer = layer.Plan; first = 0; second = right }
encode_ground (WordLength right) = record { number = 16; layer = layer.Plan; first = 0; second = right }
encode_ground (NoCode i) = record { number = 17; layer = layer.Plan; first = 0; second = i }
