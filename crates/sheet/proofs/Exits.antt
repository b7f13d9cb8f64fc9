-- What a `?` hands on.
use Rattle.std.proofs.Common.{◌≡◌, Err, Result, ap, ◌∙◌}
use Rattle.std.proofs.lemmas.Result.{err_from_is_err_and}
use Rattle.std.specs.Result.{IsErrAnd}

-- The fault that a `?` met, or what it was turned into.
pub handed_on : {T E : Type 0} (r : Result T E) {e : E} → IsErrAnd r (λ y. y ≡ e) → r ≡ Err e
handed_on r is = let (y, err, same) = err_from_is_err_and r is in err ∙ ap (λ z. Err z) same
