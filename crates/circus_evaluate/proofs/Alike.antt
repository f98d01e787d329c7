-- What is in equal options, and what an error that is handed on is.
use Rattle.std.proofs.Common.{◌≡◌, Some, Result, Err, IsErr, IsErrAnd, ap, ◌∙◌}
use Rattle.std.proofs.lemmas.Result.{err_from_is_err_and}

pub some_same : {X : Type 0} (x y : X) → Some x ≡ Some y → x ≡ y
some_same x y same = cc

-- the error that `?` hands on
pub handed_on : {A E : Type 0} (r : Result A E) (e : E) → IsErr r × IsErrAnd r (λ f. f ≡ e) → r ≡ Err e
handed_on r e p = let (f, is, same) = err_from_is_err_and r p.1 in is ∙ ap (λ x. Err x) same
