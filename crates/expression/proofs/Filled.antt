-- Lists that hold the codes of a polynomial, and what is formed of two values that are both there.
use Rattle.std.proofs.Common.{◌≡◌, ℕ, List, map, length, Some, None, ap}
use Rattle.std.proofs.lemmas.List.FromFn.{fill_by_all}
use Rattle.std.specs.List.{range_with_len}
use Rattle.std.specs.Option.{option_zip}
use Rattle.algebra.specs.Polynomial.{coefficients}
use Rattle.expression.specs.Values.{Value}

-- A list of n numbers is made from its coefficients.
pub filled : (p : ℕ → ℕ) (xs : List ℕ) (n : ℕ) → length xs ≡ n → coefficients xs ≡ p → xs ≡ map p (range_with_len 0 n)
filled p xs n len e = fill_by_all p xs n 0 len (λ k h. ap (λ (q : ℕ → ℕ). q k) e)

none_is_not_some : {x : List ℕ × List ℕ} → None ≡ Some x → ⊥
none_is_not_some e = cc

-- What two values form, said of the codes that both have.
pub of_both : (form : Value → Value → Value) (a b : Value) (x y : List ℕ) → option_zip a b ≡ Some (x, y) → form (Some x) (Some y) ≡ form a b
of_both form None b x y e = absurd (none_is_not_some e)
of_both form (Some p) None x y e = absurd (none_is_not_some e)
of_both form (Some p) (Some r) x y e =
    let same : (x, y) ≡ (p, r) = cc in
    ap (λ (v : List ℕ × List ℕ). form (Some v.0) (Some v.1)) same
