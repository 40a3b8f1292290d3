-- What the replay module of a tape shares with its original, and what it lacks.
use Rattle.wasm_syntax.specs.declared.modules.Module.{Module}
use Rattle.wasm_syntax.specs.Validity.{IsValid}
use Rattle.host_script.specs.declared.scripts.Supply.{Supply}
use Rattle.trace_model.specs.declared.tapes.Tape.{Tape}
use Rattle.replay_module_laws.specs.Standing.{KeepsOriginals, StandsAlone}
use Rattle.generated_code_laws.specs.Playable.{replay_of}

-- the replay module keeps the original's types and functions at their indices, and imports nothing
pub record StandsForOriginal (m : Module) (supply : Supply) (tape : Tape) : Type 0 where
  pub originals : KeepsOriginals m (replay_of m supply tape)
  pub alone : StandsAlone m (replay_of m supply tape)

-- the replay module of each tape, for a valid module, keeps the original and imports nothing
abbrev pub ReplayModulesOfTapesStand : Type 0
ReplayModulesOfTapesStand =
    (m : Module) (supply : Supply) (tape : Tape) → IsValid m → StandsForOriginal m supply tape
