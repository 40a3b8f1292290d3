-- Replay modules are accepted.
use Rattle.std.specs.Prelude.{false}
use Rattle.wasm_syntax.specs.declared.modules.Module.{Module}
use Rattle.wasm_syntax.specs.Profile.{IsAccepted}
use Rattle.wasm_syntax.specs.Validity.{IsValid}
use Rattle.host_script.specs.declared.scripts.Supply.{Supply}
use Rattle.type_safety.specs.Supplies.{IsSupply}
use Rattle.replay_module_spec.specs.declared.plans.Plan.{Plan}
use Rattle.replay_module_spec.specs.Fragments.{fragment_of}
use Rattle.replay_module_spec.specs.Merge.{replay_module}

-- the replay module of a plan for an accepted module is accepted if it is valid and the supply matches the module's
-- imports
abbrev pub ReplayModulesAreAccepted : Type 0
ReplayModulesAreAccepted =
    (m : Module) (supply : Supply) (plan : Plan) → IsAccepted false m → IsSupply m supply
    → IsValid (replay_module m supply (fragment_of m plan))
    → IsAccepted false (replay_module m supply (fragment_of m plan))
