-- Facts about all numbers below a bound, shown by one test that the checker computes.
use Rattle.std.proofs.Common.{◌≡◌, ℕ, zero, suc, ◌<◌, Bool, true, ◌&&◌, eqb, refl}
use Rattle.std.proofs.lemmas.Bool.{eqb-true}
use Rattle.std.proofs.lemmas.Bool.Decides.{Decides-below_and}

-- The test passes at each number below n.
abbrev pub all_below : (ℕ → Bool) → ℕ → Bool
all_below test zero = true
all_below test (suc n) = test n && all_below test n

pub passes_below : (test : ℕ → Bool) (n : ℕ) → all_below test n ≡ true → (k : ℕ) → k < n → test k ≡ true
passes_below test n t = (Decides-below_and test (λ k. test k ≡ true) (all_below test) (λ k. (λ e. e, λ e. e)) refl (λ _. refl) n).0 t

-- Two functions agree at each number, or pair of numbers, below n.
pub agree_below : (f g : ℕ → ℕ) (n : ℕ) → all_below (λ a. eqb (f a) (g a)) n ≡ true → (a : ℕ) → a < n → f a ≡ g a
agree_below f g n t a h = eqb-true (f a) (g a) (passes_below (λ a. eqb (f a) (g a)) n t a h)

pub agree_at_pairs : (f g : ℕ → ℕ → ℕ) (n : ℕ) → all_below (λ a. all_below (λ b. eqb (f a b) (g a b)) n) n ≡ true
    → (a b : ℕ) → a < n → b < n → f a b ≡ g a b
agree_at_pairs f g n t a b ha hb =
    agree_below (f a) (g a) n (passes_below (λ a. all_below (λ b. eqb (f a b) (g a b)) n) n t a ha) b hb
