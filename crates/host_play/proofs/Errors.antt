-- Results that are errors.
use Rattle.std.proofs.Common.{◌≡◌, Result, Ok, Err, sym, subst}
use Rattle.std.specs.Result.{IsErrAnd}

-- a property holds of a result that is an error if it holds of the error
pub at_error : {T E : Type 0} (result : Result T E) (error : E) (P : Result T E → Type 0)
    → IsErrAnd result (λ other. other ≡ error) → P (Err error) → P result
at_error (Ok value) error P is holds = absurd is
at_error (Err other) error P is holds = subst (λ error. P (Err error)) (sym is) holds
