-- What the whole result means.
use Rattle.std.proofs.Common.{◌≡◌, Result, Ok, Err, OnOk}
use Rattle.wasm_profile.specs.Answers.{refusal_in}
use Rattle.wasm_profile.specs.declared.faults.ProfileFault.{ProfileFault}
use Rattle.wasm_profile.proofs.Scans.{first, none_first}
use Rattle.wasm_syntax.specs.Profile.{IsAccepted, refusals}
use Rattle.wasm_syntax.specs.Validity.{IsValid}
use Rattle.wasm_syntax.specs.declared.modules.Module.{Module}
use Rattle.std.specs.Prelude.{Bool}

-- a valid module without a refusal is accepted
pub accepted_if : (hooked : Bool) (m : Module) (answer : Result (Unit {0}) ProfileFault) → IsValid m
    → refusal_in answer ≡ first (refusals hooked m)
    → OnOk answer (IsAccepted hooked m)
accepted_if hooked m (Ok taken) valid is = record { valid = valid; none_refused = none_first _ is }
accepted_if hooked m (Err fault) valid is = tt
