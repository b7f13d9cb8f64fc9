-- How long the text of a row is.
use Rattle.std.proofs.Common.{◌≡◌, ℕ, ◌+◌, ◌*◌, ◌^◌, ◌<◌, ◌≤◌, List, [], ◌∷◌, ◌++◌, length, take, get_or, codes, decimal, ap, add-one, arith, lit<, lit≤, length-append}
use Rattle.std.proofs.lemmas.Fmt.{length-decimal-le}
use Rattle.std.proofs.lemmas.List.Folds.{length-flat_map-take}
use Rattle.numbers.specs.Rows.{longest_number, row_text}

-- A number of sixteen bits has at most five digits.
pub row_short : (numbers : List ℕ) → ((i : ℕ) → get_or numbers i 0 < 2 ^ 16) → length (row_text numbers) ≤ length numbers * longest_number
row_short [] small = lit≤ tt
row_short (n ∷ numbers) small =
    let five = length-decimal-le 5 n (lit< tt) (omega (arith, small 0)) (omega (arith, small 0)) in
    let rest = row_short numbers (λ i. rw add-one at (small (i + 1))) in
    omega (arith, rest, five, length-append (codes " " ++ decimal n) (row_text numbers), length-append (codes " ") (decimal n))

-- What stands so far, and the next number with its blank, are within the whole.
pub so_long : (numbers : List ℕ) (i : ℕ) → i < length numbers → (before : List ℕ) {after : List ℕ} → after ≡ before ++ row_text (take i numbers)
    → length after + (1 + length (decimal (get_or numbers i 0))) ≤ length before + length (row_text numbers)
so_long numbers i below before {after} so_far =
    omega (
      arith,
      length-flat_map-take (λ n. codes " " ++ decimal n) numbers i 0 below,
      ap length so_far,
      length-append before (row_text (take i numbers)),
      length-append (codes " ") (decimal (get_or numbers i 0)),
    )
