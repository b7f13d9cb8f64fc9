-- Of lists that are gone through.
use Rattle.std.proofs.Common.{◌≡◌, suc, List, [], ◌∷◌, ◌++◌, map, subst, ap, ◌∙◌, arith, All}
use Rattle.std.proofs.lemmas.List.{map-append}

module _ {X : Type 0} (P : X → Type 0) where
  -- What all have, those after the first have.
  pub all_after : {x : X} (xs rest : List X) → xs ≡ x ∷ rest → All P xs → All P rest
  all_after xs rest is all =
      λ k d below.
      let Q : List X → Type 0 = λ ys. All P ys in
      subst Q is all (suc k) d (omega (arith, below))

  -- What all have, the first has.
  pub all_first : {x : X} (xs rest : List X) → xs ≡ x ∷ rest → All P xs → P x
  all_first {x} xs rest is all =
      let Q : List X → Type 0 = λ ys. All P ys in
      subst Q is all 0 x (omega arith)

-- What is said of a list, said of one with one more at its end.
pub one_more : {X Y : Type 0} (f : X → Y) (xs : List X) (x : X) {ys : List Y} → map f xs ≡ ys → map f (xs ++ x ∷ []) ≡ ys ++ f x ∷ []
one_more f xs x {ys} is = map-append f xs (x ∷ []) ∙ ap (λ (zs : List _). zs ++ f x ∷ []) is
