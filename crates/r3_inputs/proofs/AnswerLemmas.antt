-- What a fault, or a value, implies for another result.
use Rattle.std.proofs.Common.{◌≡◌, ◌⊎◌, inl, inr, Result, Ok, Err, IfOk, IfErr, sym, ◌∙◌, ap, subst}
use Rattle.std.specs.Result.{IsErrAnd}
use Rattle.r3_faults.specs.declared.faults.Fault.{Fault}
use Rattle.r3_faults.specs.declared.faults.Fault.TheVariants.{Memory}

-- the result is this fault, or memory is out
abbrev pub IsAnswer : {T : Type 0} → Result T Fault → Fault → Type 0
IsAnswer r fault = (r ≡ Err fault) ⊎ (r ≡ Err Memory)

ok-err : {T : Type 0} (x : T) (f : Fault) → Ok x ≡ Err f → ⊥
ok-err x f e = cc e

err-one : {T : Type 0} (r : Result T Fault) (f g : Fault) → r ≡ Err f → r ≡ Err g → f ≡ g
err-one r f g e h = cc (sym e ∙ h)

ok-one : {T : Type 0} (x y : T) (r : Result T Fault) → r ≡ Ok x → r ≡ Ok y → x ≡ y
ok-one x y r e f = cc (sym e ∙ f)

pub memory-err : {U : Type 0} (s : Result U Fault) (x : U) (fault : Fault) → s ≡ Err fault
    → (s ≡ Ok x) ⊎ (s ≡ Err Memory) → fault ≡ Memory
memory-err s x fault is (inl ok) = absurd (ok-err x fault (sym ok ∙ is))
memory-err s x fault is (inr memory) = err-one s fault Memory is memory

pub answer-err : {U : Type 0} (s : Result U Fault) (fault wanted : Fault) → s ≡ Err fault → IsAnswer s wanted
    → (fault ≡ wanted) ⊎ (fault ≡ Memory)
answer-err s fault wanted is (inl same) = inl (err-one s fault wanted is same)
answer-err s fault wanted is (inr memory) = inr (err-one s fault Memory is memory)

pub value-one : {U : Type 0} (s : Result U Fault) (x y : U) → s ≡ Ok x → (s ≡ Ok y) ⊎ (s ≡ Err Memory) → y ≡ x
value-one s x y is (inl ok) = ok-one y x s ok is
value-one s x y is (inr memory) = absurd (ok-err x Memory (sym is ∙ memory))

pub value-no : {U : Type 0} (s : Result U Fault) (x : U) (fault : Fault) → s ≡ Ok x → IsAnswer s fault → ⊥
value-no s x fault is (inl same) = ok-err x fault (sym is ∙ same)
value-no s x fault is (inr memory) = ok-err x Memory (sym is ∙ memory)

-- a property of a fault that is passed on
pub passed : {T : Type 0} (r : Result T Fault) (fault : Fault) (P : Fault → Type 0)
    → IsErrAnd r (λ other. other ≡ fault) → P fault → IfErr r P
passed (Ok x) fault P e p = tt
passed (Err other) fault P e p = subst P (sym e) p

-- a property of values holds of a result that is a fault
pub not-printed : {T : Type 0} (r : Result T Fault) (fault : Fault) (P : T → Type 0)
    → IsErrAnd r (λ other. other ≡ fault) → IfOk r P
not-printed (Ok x) fault P e = absurd e
not-printed (Err other) fault P e = tt

pub answer-passed : {T : Type 0} (r : Result T Fault) (fault wanted : Fault)
    → IsErrAnd r (λ other. other ≡ fault) → (fault ≡ wanted) ⊎ (fault ≡ Memory) → IsAnswer r wanted
answer-passed (Ok x) fault wanted e either = absurd e
answer-passed (Err other) fault wanted e (inl same) = inl (ap Err (e ∙ same))
answer-passed (Err other) fault wanted e (inr memory) = inr (ap Err (e ∙ memory))
