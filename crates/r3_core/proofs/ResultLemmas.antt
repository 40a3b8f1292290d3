-- The exit of a `?`, and outcomes by cases.
use Rattle.std.proofs.Common.{◌≡◌, List, ℕ, sym, subst, inl, inr, Option, Result, Ok, Err, OnOk, OnErr, IfErr}
use Rattle.std.specs.Result.{IsErrAnd}
use Rattle.r3_outside.specs.Count.{Rose}
use Rattle.r3_outside.specs.Growth.{Grew, GrewByPrefix}
use Rattle.r3_faults.specs.Lines.{IsReported}

-- a property of an error that is passed on
pub IfErr-from : {T E : Type 0} (r : Result T E) (e : E) (P : E → Type 0) → IsErrAnd r (λ y. y ≡ e) → P e → IfErr r P
IfErr-from (Ok x) e P h p = tt
IfErr-from (Err y) e P h p = subst P (sym h) p

pub IsErrAnd-from : {T E : Type 0} (r : Result T E) (e : E) (P : E → Type 0) → IsErrAnd r (λ y. y ≡ e) → P e
    → IsErrAnd r P
IsErrAnd-from (Ok x) e P h p = h
IsErrAnd-from (Err y) e P h p = subst P (sym h) p

-- a line as `put_line` leaves it
pub IsReported-from : {E : Type 0} (r : Result (Unit {0}) E) (before now : Option (List ℕ)) (faults_before faults_now : ℕ) (line : List ℕ)
    → OnOk r (Grew before now line) → OnErr r (GrewByPrefix before now line) → OnErr r (Rose faults_before faults_now)
    → IsReported before now faults_before faults_now line
IsReported-from (Ok x) before now fb fn line whole prefix rose = inl whole
IsReported-from (Err e) before now fb fn line whole prefix rose = inr (prefix, rose)
