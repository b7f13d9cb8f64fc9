-- Sums over positions, as a chain takes them.
use Rattle.std.proofs.Common.{◌≡◌, ℕ, zero, suc, ◌+◌, map, sum, refl, sym, ap, ◌∙◌, add-one, arith}
use Rattle.std.specs.List.{range_with_len}
use Rattle.std.proofs.lemmas.List.FromFn.{sum_by-map-range_with_len_more}
use Rattle.plan.specs.Accounts.{over_positions}

-- The sum of an amount for each position, as a chain over the positions takes it.
pub sum_over : (amount : ℕ → ℕ) (n : ℕ) → sum (map amount (range_with_len 0 n)) ≡ over_positions amount n
sum_over amount zero = refl
sum_over amount (suc n) =
    ap (λ (k : ℕ). sum (map amount (range_with_len 0 k))) (sym (add-one n))
    ∙ sum_by-map-range_with_len_more (λ x. x) amount 0 n n (omega arith)
    ∙ ap (λ (k : ℕ). k + amount n) (sum_over amount n)
