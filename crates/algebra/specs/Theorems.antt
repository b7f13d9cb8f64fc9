-- The theorems of this crate, on coefficient functions. Each is the contract of a function in src/lib.rt.
use Rattle.std.specs.Prelude.{◌≡◌, ℕ, ◌+◌, ◌*◌, ◌^◌, ◌<◌, ◌≤◌, Bool, true, false, ◌⊎◌}
use Rattle.algebra.specs.Abstract.{Field, Code}
use Rattle.algebra.specs.BitPolynomials.{IsBitRemainder, byte_product, carry_less, reduce}
use Rattle.algebra.specs.Field.{Arithmetic, FieldLaws}
use Rattle.algebra.specs.Polynomial.{Below, HasDegree, add, subtract, multiply, IsPolynomial, Divides, ShareFactor, IsDivision}
use Rattle.algebra.specs.Moduli.{Congruent, Coprime, total, chosen_degrees}

-- A field on the codes of f with f's own operations.
pub record FieldOfCodes (f : Arithmetic) : Type 0 where
  pub field : Field (Code f.order)
  pub zero_is : field.ring.𝟎.0 ≡ 0
  pub one_is : field.ring.𝟏.0 ≡ 1
  pub sum_is : (a b : Code f.order) → (field.ring.sum a b).0 ≡ f.sum a.0 b.0
  pub negative_is : (a : Code f.order) → (field.ring.negative a).0 ≡ f.negative a.0
  pub product_is : (a b : Code f.order) → (field.ring.product a b).0 ≡ f.product a.0 b.0
  pub inverse_is : (a : Code f.order) → (field.inverse a).0 ≡ f.inverse a.0

-- The laws on codes make the codes a field.
abbrev pub CodesFormAField : Type 0
CodesFormAField = (f : Arithmetic) → FieldLaws f → FieldOfCodes f

-- One division and no other.
pub record OneDivision (f : Arithmetic) (d : ℕ) (a m : ℕ → ℕ) : Type 0 where
  pub quotient : ℕ → ℕ
  pub remainder : ℕ → ℕ
  pub division : IsDivision f d a m quotient remainder
  pub only : (q r : ℕ → ℕ) → IsDivision f d a m q r → (q ≡ quotient) × (r ≡ remainder)

-- Every polynomial can be divided by every other but 0, with one quotient and one remainder.
abbrev pub DivisionIsUnique : Type 0
DivisionIsUnique =
    (f : Arithmetic) → FieldLaws f → (d : ℕ) (a m : ℕ → ℕ) → IsPolynomial f a → IsPolynomial f m → HasDegree d m → OneDivision f d a m

-- Two polynomials either share a factor or are coprime, and never both.
abbrev pub CoprimeOrShared : Type 0
CoprimeOrShared =
    (f : Arithmetic) → FieldLaws f → (m n : ℕ → ℕ) → IsPolynomial f m → IsPolynomial f n
    → (ShareFactor f m n ⊎ Coprime f m n) × (Coprime f m n → ¬ (ShareFactor f m n))

-- n moduli: polynomials of degrees d 0, d 1, .., no two of which share a factor. (Past the n-th stands any polynomial.)
pub record Moduli (f : Arithmetic) (n : ℕ) (m : ℕ → ℕ → ℕ) (d : ℕ → ℕ) : Type 0 where
  pub polynomial : (i : ℕ) → IsPolynomial f (m i)
  pub degree : (i : ℕ) → i < n → HasDegree (d i) (m i)
  pub apart : (i j : ℕ) → i < j → j < n → ¬ (ShareFactor f (m i) (m j))

-- The word with given residues: the polynomial below the moduli's total degree that is congruent to y i
-- modulo each m i.
pub record IsJoined (f : Arithmetic) (n : ℕ) (m : ℕ → ℕ → ℕ) (d : ℕ → ℕ) (y : ℕ → ℕ → ℕ) (word : ℕ → ℕ) : Type 0 where
  pub polynomial : IsPolynomial f word
  pub below : Below (total d n) word
  pub congruent : (i : ℕ) → i < n → Congruent f (m i) word (y i)

-- One such word and no other.
pub record OneJoined (f : Arithmetic) (n : ℕ) (m : ℕ → ℕ → ℕ) (d : ℕ → ℕ) (y : ℕ → ℕ → ℕ) : Type 0 where
  pub word : ℕ → ℕ
  pub joined : IsJoined f n m d y word
  pub only : (v : ℕ → ℕ) → IsJoined f n m d y v → v ≡ word

-- The Chinese remainder theorem: any residues are those of one word.
abbrev pub ResiduesJoin : Type 0
ResiduesJoin =
    (f : Arithmetic) → FieldLaws f → (n : ℕ) (m : ℕ → ℕ → ℕ) (d : ℕ → ℕ) (y : ℕ → ℕ → ℕ) → Moduli f n m d → ((i : ℕ) → IsPolynomial f (y i))
    → OneJoined f n m d y

-- The message a explains the residues y with the error factor Λ: a modulus that divides Λ may have any
-- residue, and where m i is coprime to Λ the residue is that of a.
abbrev pub Explains : Arithmetic → ℕ → (ℕ → ℕ → ℕ) → (ℕ → ℕ → ℕ) → (ℕ → ℕ) → (ℕ → ℕ) → Type 0
Explains f n m y a Λ = (i : ℕ) → i < n → Divides f (m i) (multiply f Λ (subtract f (y i) a))

-- Two messages below K that explain the same residues, with error factors of degrees e and e', are one
-- message, as long as e + e' + K is at most the moduli's total degree.
abbrev pub OneMessageAtMost : Type 0
OneMessageAtMost =
    (f : Arithmetic) → FieldLaws f → (n K e e' : ℕ) (m : ℕ → ℕ → ℕ) (d : ℕ → ℕ) (y : ℕ → ℕ → ℕ) (a b Λ Λ' : ℕ → ℕ)
    → Moduli f n m d → ((i : ℕ) → IsPolynomial f (y i)) → IsPolynomial f a → IsPolynomial f b → IsPolynomial f Λ → IsPolynomial f Λ'
    → HasDegree e Λ → HasDegree e' Λ' → e + e' + K ≤ total d n → Below K a → Below K b
    → Explains f n m y a Λ → Explains f n m y b Λ' → a ≡ b

-- The degree of p is less than n/2.
abbrev pub BelowHalf : ℕ → (ℕ → ℕ) → Type 0
BelowHalf n p = (i : ℕ) → n ≤ 2 * i → p i ≡ 0

-- Where Euclid's extended algorithm on M, of degree D, and Y is stopped: at the first remainder r of degree
-- less than (D + K)/2, which is s·M + t·Y. The remainder before it has the degree `before`, which is not
-- less, and deg t + before = D.
pub record Stopped (f : Arithmetic) (D K : ℕ) (M Y r t : ℕ → ℕ) : Type 0 where
  pub r_polynomial : IsPolynomial f r
  pub t_polynomial : IsPolynomial f t
  pub s : ℕ → ℕ
  pub s_polynomial : IsPolynomial f s
  pub r_is : r ≡ add f (multiply f s M) (multiply f t Y)
  pub r_below : BelowHalf (D + K) r
  pub t_degree : ℕ
  pub t_has : HasDegree t_degree t
  pub before : ℕ
  pub before_not_below : D + K ≤ 2 * before
  pub degrees : t_degree + before ≡ D

-- The algorithm gets there.
abbrev pub EuclidStops : Type 0
EuclidStops =
    (f : Arithmetic) → FieldLaws f → (D K : ℕ) (M Y : ℕ → ℕ) → IsPolynomial f M → IsPolynomial f Y → HasDegree D M → Below D Y → K ≤ D
    → (r : ℕ → ℕ) × (t : ℕ → ℕ) × Stopped f D K M Y r t

-- And where it stops, r = t·a for every message a below K that the word Y agrees with but for an error factor
-- Λ of degree e, as long as 2e + K is at most D.
abbrev pub ReconstructionStands : Type 0
ReconstructionStands =
    (f : Arithmetic) → FieldLaws f → (D K e : ℕ) (M Y Λ a r t : ℕ → ℕ) → IsPolynomial f M → IsPolynomial f Y → IsPolynomial f Λ → IsPolynomial f a
    → HasDegree D M → HasDegree e Λ → 2 * e + K ≤ D → Below K a → Stopped f D K M Y r t
    → Congruent f M (multiply f Λ Y) (multiply f Λ a) → r ≡ multiply f t a

-- What the residues that are present tell of the message: r and t, with t not 0, such that r = t·a for every
-- message a below K whose residues they are but for wrong ones, as long as the wrong moduli's total degree,
-- twice, and K are together at most the present moduli's.
pub record Found (f : Arithmetic) (n K : ℕ) (m : ℕ → ℕ → ℕ) (d : ℕ → ℕ) (y : ℕ → ℕ → ℕ) (present : ℕ → Bool) : Type 0 where
  pub r : ℕ → ℕ
  pub t : ℕ → ℕ
  pub r_polynomial : IsPolynomial f r
  pub t_polynomial : IsPolynomial f t
  pub t_degree : ℕ
  pub t_has : HasDegree t_degree t
  pub finds :
      (a : ℕ → ℕ) (wrong : ℕ → Bool) → IsPolynomial f a → Below K a → 2 * total (chosen_degrees wrong d) n + K ≤ total (chosen_degrees present d) n
      → ((i : ℕ) → i < n → present i ≡ true → wrong i ≡ false → Congruent f (m i) (y i) a) → r ≡ multiply f t a

-- Every message within reach can be read, from whichever residues are present.
abbrev pub EveryMessageIsFound : Type 0
EveryMessageIsFound =
    (f : Arithmetic) → FieldLaws f → (n K : ℕ) (m : ℕ → ℕ → ℕ) (d : ℕ → ℕ) (y : ℕ → ℕ → ℕ) (present : ℕ → Bool)
    → Moduli f n m d → ((i : ℕ) → IsPolynomial f (y i)) → K ≤ total (chosen_degrees present d) n → Found f n K m d y present

-- r is the remainder of p by the bit polynomial m of degree d, and no other is.
pub record OneBitRemainder (d m p r : ℕ) : Type 0 where
  pub is : IsBitRemainder d m p r
  pub only : (other : ℕ) → IsBitRemainder d m p other → other ≡ r

-- Reduction answers the remainder by any modulus of degree d: one with bit d and none above it.
abbrev pub ReductionIsRemainder : Type 0
ReductionIsRemainder =
    (d m n p : ℕ) → 2 ^ d ≤ m → m < 2 ^ (d + 1) → p < 2 ^ (d + n) → OneBitRemainder d m p (reduce d m n p)

-- So a product of bytes is the remainder of the product of their polynomials: a · b = quotient · 0x11D + the
-- answer, which is a byte.
abbrev pub ByteProductIsRemainder : Type 0
ByteProductIsRemainder = (a b : ℕ) → a < 256 → b < 256 → OneBitRemainder 8 0x11D (carry_less 8 a b) (byte_product a b)
