-- What a result is: one value, and no fault beside it.
use Rattle.std.proofs.Common.{◌≡◌, Result, Ok, Err}

pub same_ok : {T E : Type 0} (r : Result T E) (x y : T) → r ≡ Ok x → r ≡ Ok y → x ≡ y
same_ok (Ok z) x y first second = cc
same_ok (Err e) x y first second = cc

pub ok_err : {T E : Type 0} (r : Result T E) (x : T) (e : E) → r ≡ Ok x → r ≡ Err e → ⊥
ok_err (Ok z) x e ok err = cc
ok_err (Err z) x e ok err = cc
