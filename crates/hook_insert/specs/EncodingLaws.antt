-- Laws on the encoding of instrumented modules, on the modules that can be instrumented, and on the meters of
-- their runs.
use Rattle.std.specs.Prelude.{◌≡◌, ℕ, ◌^◌, ◌≤◌, List, length, Some}
use Rattle.wasm_syntax.specs.declared.forms.Form.{Form}
use Rattle.wasm_syntax.specs.declared.forms.Form.TheVariants.{Core, Replay}
use Rattle.wasm_syntax.specs.declared.modules.Module.{Module}
use Rattle.wasm_syntax.specs.Encoding.Encodable.{IsEncodable}
use Rattle.wasm_syntax.specs.Encoding.Forms.{IsCoreModule}
use Rattle.wasm_syntax.specs.Encoding.Modules.{Encodes}
use Rattle.wasm_syntax.specs.Validity.{IsValid}
use Rattle.wasm_flat.specs.Meters.{FitsMeter, meter_of}
use Rattle.wasm_flat.specs.Sizes.{IsShort}
use Rattle.record_replay_spec.specs.Instrumented.{instrumented_meter, instrumented_module, instrumented_weights}
use Rattle.instrumented_module_laws.specs.Laws.{HasWords}

-- a module that at most 2^31 bytes encode in the form Core can be instrumented
abbrev pub FilesAreOfWords : Type 0
FilesAreOfWords =
    (bytes : List ℕ) (m : Module) → Encodes Core bytes m → length bytes ≤ 2 ^ 31 → IsCoreModule m × HasWords m

-- the instrumented module of a valid module that has an encoding has one in the same form; it has one in the
-- form Replay if the original has one in the form Core
pub record InstrumentedAreEncodable : Type 0 where
  pub same_form : (form : Form) (m : Module) (digest : List ℕ) → IsEncodable form m → IsValid m → IsShort m
      → IsEncodable form (instrumented_module m digest)
  pub core_form : (m : Module) (digest : List ℕ) → IsEncodable Core m → IsValid m → IsShort m
      → IsEncodable Replay (instrumented_module m digest)

-- the weights of an instrumented module fit it: instructions that take no turn lead forward
abbrev pub InstrumentedMetersFit : Type 0
InstrumentedMetersFit =
    (m : Module) (digest : List ℕ) → IsValid m
    → FitsMeter (instrumented_module m digest) (Some (instrumented_weights m))

-- under its weights the run of an instrumented module counts turns by the instrumented meter
abbrev pub WeightsAreOfMeter : Type 0
WeightsAreOfMeter =
    (m : Module) (digest : List ℕ)
    → meter_of (instrumented_module m digest) (Some (instrumented_weights m)) ≡ instrumented_meter m
