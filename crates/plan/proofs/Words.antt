-- The word of a message holds its remainders.
use Rattle.std.proofs.Common.{ℕ, List, ◌∙◌, sym, subst}
use Rattle.algebra.specs.Field.{FieldLaws}
use Rattle.algebra.specs.Polynomial.{coefficients}
use Rattle.algebra.specs.Theorems.{OneDivision}
use Rattle.algebra.proofs.Coefficients.{list_polynomial}
use Rattle.algebra.proofs.Main.{one_division}
use Rattle.algebra.proofs.Remainders.{remainder_is}
use Rattle.plan.specs.Refusals.{AreCodes, HoldsRemainders}
use Rattle.plan.specs.Schemes.{IsScheme, Scheme, degree, modulus, word}
use Rattle.plan.specs.Words.{HoldsRemainder, RemainderAt, WordHoldsRemainders}
use Rattle.plan.proofs.Sizes.{modulus_degree, modulus_polynomial, residue_length, word_part}

pub word_holds_remainders : WordHoldsRemainders
word_holds_remainders s L lawful message codes i h =
    let f = s.arithmetic in
    let m = modulus s i in
    let ok = lawful.moduli_lawful i h in
    let is = remainder_is f L (degree s i) (coefficients m) message (modulus_polynomial f L m ok) (modulus_degree f m ok) ok.leading codes in
    let one : OneDivision f (degree s i) (coefficients message) (coefficients m) =
    one_division f L (degree s i) (coefficients message) (coefficients m) (list_polynomial f L message codes) (modulus_polynomial f L m ok) (modulus_degree f m ok) in
    record {
      long = residue_length s message i;
      is = is;
      only = λ r other. (one.only other.quotient r other.division).1 ∙ sym (one.only is.quotient _ is.division).1;
      part = word_part s message i h;
    }

-- What encoding promises of the buffer.
pub encoded_remainders : (s : Scheme) → FieldLaws s.arithmetic → IsScheme s → (message : List ℕ) → AreCodes s.arithmetic message
    → HoldsRemainders s message (word s message)
encoded_remainders s L lawful message codes i h =
    let holds : HoldsRemainder s message i = word_holds_remainders s L lawful message codes i h in
    subst (λ (r : List ℕ). RemainderAt s message i (coefficients r)) (sym holds.part) holds.is
