-- A step of a configuration is safe.
use Rattle.std.proofs.Common.{List, Option, refl}
use Rattle.wasm_syntax.specs.Validity.{IsValid}
use Rattle.wasm_syntax.specs.declared.modules.Module.{Module}
use Rattle.host_script.specs.Fits.{FitAnswers}
use Rattle.host_script.specs.declared.scripts.Answer.{Answer}
use Rattle.history_spec.specs.Code.{code_of}
use Rattle.history_spec.specs.Configuration.{Config}
use Rattle.history_spec.specs.Step.{step}
use Rattle.type_safety.specs.Configurations.{IsTypedCode, IsConfig, IsSafe}
use Rattle.type_safety.specs.Heights.{Heights}
use Rattle.tape_laws.specs.Below.{LawsOfSteps}

pub safe_step : (laws : LawsOfSteps) (m : Module) (heights : Heights) → IsValid m → IsTypedCode m heights
    → (answers : List (Option Answer)) → FitAnswers m answers → (config : Config) → IsConfig m heights config
    → IsSafe m heights (step (record { code = code_of m; answers = answers }) config).next
safe_step laws m heights valid typed answers fits config fine =
    laws.steps m heights (record { code = code_of m; answers = answers }) config valid typed
    (record { code = refl; answers = fits }) fine
