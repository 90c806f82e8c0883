-- What leaves a function at a `?`: the refusal that came.
use mathlib.Core.Path.{◌∙◌, ◌≡◌, ap}
use Rattle.std.proofs.Common.{Err, Result}
use Rattle.std.proofs.lemmas.Result.{err_from_is_err_and}
use Rattle.std.specs.Result.{IsErrAnd}

pub exits : {A E : Type 0} (r : Result A E) (q : E) → IsErrAnd r (λ y. y ≡ q) → r ≡ Err q
exits r q h = let (y, is, same) = err_from_is_err_and r h in is ∙ ap Err same
