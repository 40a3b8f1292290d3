-- Why there is no instance.
use Rattle.std.proofs.Common.{◌≡◌, ◌≢◌, ◌⊎◌, inl, inr, refl, subst, sym}
use Rattle.std.specs.Prelude.{Result, Ok, Err, IfErr, ℕ, List}
use Rattle.std.specs.Result.{IsErrAnd}
use Rattle.bench_machine.specs.declared.instances.MachineFault.{MachineFault}

-- what holds of the error that is made of one
pub holds_of_error : {T : Type 0} (r : Result T MachineFault) (fault : MachineFault) (P : MachineFault → Type 0)
    → IsErrAnd r (λ other. other ≡ fault) → P fault → IfErr r P
holds_of_error (Ok x) fault P e p = tt
holds_of_error (Err other) fault P e p = subst P (sym e) p
