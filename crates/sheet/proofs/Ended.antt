-- Texts that end in the first byte 10 they hold: each stands first in one way only.
use Rattle.std.proofs.Common.{◌≡◌, ℕ, List, [], ◌∷◌, ◌++◌, sym, refl, ap, ◌∙◌}
use Rattle.std.specs.List.{AllByRecursion}
use Rattle.expression.specs.Bytes.{line_end}
use Rattle.sheet.proofs.Chains.{Told}

-- No byte of the text ends a line.
abbrev pub Plain : List ℕ → Type 0
Plain x = AllByRecursion (λ b. ¬ (b ≡ line_end)) x

pub record Ended (x : List ℕ) : Type 0 where
  pub text : List ℕ
  pub plain : Plain text
  pub is : x ≡ text ++ line_end ∷ []

pub plain_append : (x y : List ℕ) → Plain x → Plain y → Plain (x ++ y)
plain_append [] y p q = q
plain_append (b ∷ x) y p q = (p.0, plain_append x y p.1 q)

ends_same : (u v y b : List ℕ) → Plain u → Plain v → (u ++ line_end ∷ []) ++ y ≡ (v ++ line_end ∷ []) ++ b → (u ≡ v) × (y ≡ b)
ends_same [] [] y b p q e = (refl, cc)
ends_same [] (c ∷ v) y b p q e = let f : c ≡ line_end = cc in absurd (q.0 f)
ends_same (c ∷ u) [] y b p q e = let f : c ≡ line_end = cc in absurd (p.0 f)
ends_same (c ∷ u) (d ∷ v) y b p q e =
    let f : c ≡ d = cc in
    let g : (u ++ line_end ∷ []) ++ y ≡ (v ++ line_end ∷ []) ++ b = cc in
    let (h, k) = ends_same u v y b p.1 q.1 g in
    (cc, k)

pub same_lines : (x y a b : List ℕ) → Ended x → Ended a → x ++ y ≡ a ++ b → (x ≡ a) × (y ≡ b)
same_lines x y a b p q e =
    let (f, g) = ends_same p.text q.text y b p.plain q.plain (ap (λ k. k ++ y) (sym p.is) ∙ (e ∙ ap (λ k. k ++ b) q.is)) in
    (p.is ∙ (ap (λ k. k ++ line_end ∷ []) f ∙ sym q.is), g)

pub told_lines : {X : Type 0} (C : X → List ℕ → Type 0) → ((v : X) (x : List ℕ) → C v x → Ended x) → ((v w : X) (x : List ℕ) → C v x → C w x → v ≡ w) → Told C
told_lines C ends one v w x y a b p q e =
    let (f, g) = same_lines x y a b (ends v x p) (ends w a q) e in
    (one v w x p (rw (sym f) at q), f, g)
