-- The laws of the sizes of replay modules: their indices have 32 bits, and they have short encodings.
use Rattle.std.specs.Prelude.{ℕ, ◌^◌, ◌<◌, ◌≤◌, List, length}
use Rattle.wasm_syntax.specs.declared.forms.Form.TheVariants.{Replay}
use Rattle.wasm_syntax.specs.declared.limits.TheConstants.{MAX_TAPE_WEIGHT}
use Rattle.wasm_syntax.specs.declared.modules.Module.{Module}
use Rattle.wasm_syntax.specs.Encoding.Encodable.{IsEncodable}
use Rattle.wasm_syntax.specs.Encoding.Forms.{IsCoreModule}
use Rattle.wasm_syntax.specs.Encoding.Shortest.{encoding_of}
use Rattle.wasm_syntax.specs.Index.{imported_funcs}
use Rattle.wasm_syntax.specs.Validity.{IsValid}
use Rattle.host_script.specs.declared.scripts.Supply.{Supply}
use Rattle.trace_model.specs.declared.tapes.Tape.{Tape}
use Rattle.trace_model.specs.Weight.{tape_weight}
use Rattle.replay_module_spec.specs.Plans.{plan_of}
use Rattle.replay_module_spec.specs.Fragments.{fragment_of}
use Rattle.replay_gen.specs.Bounds.{FitsIndices}
use Rattle.replay_module_spec.specs.Merge.{replay_module}
use Rattle.replay_module_spec.specs.Size.{max_bytes}
use Rattle.replay_encoding_laws.specs.Premises.{IsFromBytes, IsTakenSupply, IsTakenTape}

-- with the generated parts of a tape, all indices have 32 bits
abbrev pub PlansFitIndices : Type 0
PlansFitIndices =
    (bytes : List ℕ) (m : Module) (tape : Tape) → IsFromBytes bytes m → IsTakenTape m tape
    → FitsIndices m (plan_of (imported_funcs m) tape)

-- the replay module of a tape has an encoding, if counts and sizes may be any numbers
abbrev pub ReplayModulesAreEncodable : Type 0
ReplayModulesAreEncodable =
    (bytes : List ℕ) (m : Module) (supply : Supply) (tape : Tape)
    → IsFromBytes bytes m → IsTakenSupply m supply → IsTakenTape m tape
    → IsEncodable Replay (replay_module m supply (fragment_of m (plan_of (imported_funcs m) tape)))

-- the shortest encoding of the replay module of any tape and any supply is within the bound
abbrev pub ReplayModulesAreShort : Type 0
ReplayModulesAreShort =
    (m : Module) (supply : Supply) (tape : Tape) → IsValid m → IsCoreModule m
    → length (encoding_of (replay_module m supply (fragment_of m (plan_of (imported_funcs m) tape))))
    ≤ max_bytes m (tape_weight tape)

-- the bound has 32 bits
abbrev pub BoundsAreShort : Type 0
BoundsAreShort =
    (bytes : List ℕ) (m : Module) (tape : Tape) → IsFromBytes bytes m → tape_weight tape ≤ MAX_TAPE_WEIGHT
    → max_bytes m (tape_weight tape) < 2 ^ 32
