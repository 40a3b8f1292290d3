-- The encoding of the replay module of a tape.
use Rattle.std.specs.Prelude.{◌≡◌, ℕ, ◌≤◌, List, length}
use Rattle.wasm_syntax.specs.declared.forms.Form.TheVariants.{Replay}
use Rattle.wasm_syntax.specs.declared.modules.Module.{Module}
use Rattle.wasm_syntax.specs.Encoding.Modules.{Encodes}
use Rattle.wasm_syntax.specs.Encoding.Shortest.{encoding_of}
use Rattle.wasm_syntax.specs.Validity.{IsValid}
use Rattle.host_script.specs.declared.scripts.Supply.{Supply}
use Rattle.history_spec.specs.Store.{Store}
use Rattle.trace_model.specs.declared.tapes.Tape.{Tape}
use Rattle.trace_model.specs.Weight.{tape_weight}
use Rattle.replay_module_spec.specs.Size.{max_bytes}
use Rattle.generated_code_laws.specs.Playable.{replay_of}
use Rattle.replay_laws.specs.Follows.{FollowsTape}
use Rattle.replay_laws.specs.Stands.{StandsForOriginal}

-- The bytes are the shortest encoding of the replay module of the tape. The module is valid, keeps the
-- original's functions, imports nothing, and its run follows the tape. The bytes are at most `max_bytes`.
pub record IsReplayOf (m : Module) (supply : Supply) (store : Store) (tape : Tape) (printed : List ℕ) : Type 0 where
  pub shortest : printed ≡ encoding_of (replay_of m supply tape)
  pub encoded : Encodes Replay printed (replay_of m supply tape)
  pub valid : IsValid (replay_of m supply tape)
  pub stands : StandsForOriginal m supply tape
  pub follows : FollowsTape m supply store tape
  pub most : length printed ≤ max_bytes m (tape_weight tape)
