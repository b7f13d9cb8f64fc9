-- Lists in tables of fixed size.
use Rattle.std.proofs.Common.{◌≡◌, ℕ, ◌-◌, ◌≤◌, List, ◌++◌, length, take, drop, replicate, refl, ap, ◌∙◌, arith, length-append}
use Rattle.std.proofs.lemmas.List.{drop-replicate, length-replicate, take_at}
use Rattle.plan.specs.Tables.{table_of}

module _ {X : Type 0} (total : ℕ) (filler : X) (xs : List X) where
  -- A table of the filler alone, whose first n places hold the list.
  pub table_filled : (n : ℕ) → length xs ≡ n → xs ++ drop (n - 0) (replicate total filler) ≡ table_of total filler xs
  table_filled n long =
      let rest : total - (n - 0) ≡ total - length xs = omega arith in
      ap (λ (zs : List X). xs ++ zs) (drop-replicate {X = X} (n - 0) total filler ∙ ap (λ k. replicate k filler) rest)

  pub table_begins : take (length xs) (table_of total filler xs) ≡ xs
  table_begins = take_at xs (replicate (total - length xs) filler) (length xs) refl

  pub table_long : length xs ≤ total → length (table_of total filler xs) ≡ total
  table_long h = omega (arith, length-append xs (replicate (total - length xs) filler), length-replicate (total - length xs) filler)
