use Rattle.std.proofs.Common.{◌≡◌, ℕ, ◌+◌, ◌<◌, ◌≤◌, List, [], ◌∷◌, ◌++◌, codes, decimal, sym, refl, ap, arith, lit≤}
use Rattle.std.proofs.lemmas.Fmt.{decimal_digit}
use Rattle.algebra.specs.Polynomial.{multiply}
use Rattle.expression.specs.Bytes.{line_end}
use Rattle.expression.specs.Grammar.{IsModulusLine, Phrase, a_number, a_power, a_z, factor, in_brackets, one_factor, one_term, plus, sum, times}
use Rattle.expression.specs.Values.{Expression, number, power, sum_of}
use Rattle.expression.specs.declared.names.FieldName.TheVariants.{Clock}
use Rattle.sheet.specs.Grammar.{IsCallLine, IsFieldLine, IsSection, IsSheet, no_lines, one_more}
use Rattle.sheet.specs.Limits.{least_moduli, most_calls, most_moduli}
use Rattle.sheet.specs.Refusals.{NoValue, OnLine, among_carrying, among_spare}
use Rattle.examples.specs.Expressions.{ExpressionExamples, high_first, high_sheet, square_text}

-- z+1, in brackets and out of them.
z+1_phrase : Phrase sum 7 (122 ∷ 43 ∷ 49 ∷ []) (sum_of (power 1) (number 1))
z+1_phrase =
    plus {x = 122 ∷ []} {y = 49 ∷ []} (one_term (one_factor a_z))
    (one_factor (a_number {x = 49 ∷ []} (record { some = omega arith; few = omega arith; digits = ((lit≤ tt, lit≤ tt), tt) })))

bracketed : Phrase factor 8 (40 ∷ 122 ∷ 43 ∷ 49 ∷ 41 ∷ []) (sum_of (power 1) (number 1))
bracketed = in_brackets {x = 122 ∷ 43 ∷ 49 ∷ []} z+1_phrase

-- No modulus stands before line 3.
none_before : (l : ℕ) (e : Expression) → l < 3 → OnLine high_first l e → ¬ (NoValue high_first e)
none_before _ e early (among_carrying before after eq) none = absurd (omega arith)
none_before _ e early (among_spare before after eq) none = absurd (omega arith)

-- A count of one digit.
one_digit : (n : ℕ) → n < 10 → (48 + n) ∷ line_end ∷ [] ≡ decimal n ++ line_end ∷ []
one_digit n below = sym (ap (λ (d : List ℕ). d ++ line_end ∷ []) (decimal_digit n below))

-- A section of one line.
one_line : {X : Type 0} (least most : ℕ) (L : List ℕ → X → Type 0) → least ≤ 1 → 1 ≤ most → (line : List ℕ) (x : X) → L line x
    → IsSection least most L (49 ∷ line_end ∷ (line ++ [])) (x ∷ [])
one_line least most L low high line x written =
    record {
      count_line = 49 ∷ line_end ∷ [];
      lines = line ++ [];
      counted = record { low = low; high = high; is = one_digit 1 (omega arith) };
      written = one_more written no_lines;
      is = refl;
    }

no_calls : IsSection 0 most_calls IsCallLine (48 ∷ line_end ∷ []) []
no_calls =
    record {
      count_line = 48 ∷ line_end ∷ [];
      lines = [];
      counted = record { low = omega arith; high = omega arith; is = one_digit 0 (omega arith) };
      written = no_lines;
      is = refl;
    }

nine : IsModulusLine (codes "z^9" ++ line_end ∷ []) (power 9)
nine =
    record {
      text = 122 ∷ 94 ∷ 57 ∷ [];
      phrase = one_term (one_factor (a_power {x = 57 ∷ []} (record { some = omega arith; few = omega arith; digits = ((lit≤ tt, lit≤ tt), tt) })));
      is = refl;
    }

one : IsModulusLine (codes "z" ++ line_end ∷ []) (power 1)
one = record { text = 122 ∷ []; phrase = one_term (one_factor a_z); is = refl }

high_written : IsSheet high_sheet high_first
high_written =
    record {
      field_text = _;
      carrying_text = _;
      spare_text = _;
      calls_text = _;
      field_section = one_line 1 1 IsFieldLine (omega arith) (omega arith) (codes "clock" ++ line_end ∷ []) Clock refl;
      carrying_section = one_line least_moduli most_moduli IsModulusLine (omega arith) (omega arith) (codes "z^9" ++ line_end ∷ []) (power 9) nine;
      spare_section = one_line least_moduli most_moduli IsModulusLine (omega arith) (omega arith) (codes "z" ++ line_end ∷ []) (power 1) one;
      calls_section = no_calls;
      is = refl;
    }

pub expressions : ExpressionExamples
unfolding multiply
expressions =
    record {
      square_written =
          record {
            text = square_text;
            phrase = one_term (times {x = 40 ∷ 122 ∷ 43 ∷ 49 ∷ 41 ∷ []} {y = 40 ∷ 122 ∷ 43 ∷ 49 ∷ 41 ∷ []} (one_factor bracketed) bracketed);
            is = refl;
          };
      square_in_bits = refl;
      square_in_clock = refl;
      nine_written = nine;
      too_high = λ f. refl;
      high_written = high_written;
      line_three = record { modulus = power 9; there = among_carrying [] [] refl; bad = refl; before = none_before };
      ground_three = refl;
      too_high_midway = refl;
      low_again = refl;
    }
