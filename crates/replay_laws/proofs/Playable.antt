-- A replay module can be made from a tape that is accepted.
use Rattle.std.proofs.Common.{◌≡◌, ◌<◌, ◌≤◌, List, [], ◌∷◌, Ok}
use Rattle.std.specs.Prelude.{All}
use Rattle.std.specs.List.{AllByRecursion}
use Rattle.std.proofs.lemmas.List.Elements.{All-cons, All-from_recursion, All-nil}
use Rattle.wasm_syntax.specs.declared.limits.TheConstants.{MAX_TAPE_WEIGHT}
use Rattle.wasm_syntax.specs.declared.modules.Module.{Module}
use Rattle.host_script.specs.declared.scripts.Supply.{Supply}
use Rattle.history_spec.specs.Instantiation.{instantiate}
use Rattle.history_spec.specs.Store.{Store}
use Rattle.type_safety.specs.Supplies.{IsRunnable, IsSupply}
use Rattle.trace_model.specs.declared.tapes.Effect.{Effect}
use Rattle.trace_model.specs.declared.tapes.Effect.TheVariants.{Grow, Table, Bytes, Entry, Global}
use Rattle.trace_model.specs.declared.tapes.Segment.{Segment}
use Rattle.trace_model.specs.declared.tapes.Tape.{Tape}
use Rattle.trace_model.specs.Fitting.{IsFitting}
use Rattle.trace_model.specs.Weight.{tape_weight}
use Rattle.replay_module_laws.specs.Written.{IsConstantEffect, IsConstantSegment, IsConstantTape}
use Rattle.generated_code_laws.specs.Playable.{AllWriteBytes, IsPlayable, WritesBytes}

writes : (effect : Effect) → IsConstantEffect effect → WritesBytes effect
writes (Bytes addr bytes) h = All-from_recursion (λ byte. byte < 256) bytes h
writes (Grow pages) h = tt
writes (Table size) h = tt
writes (Entry index func) h = tt
writes (Global global value) h = tt

all_write : (effects : List Effect) → AllByRecursion IsConstantEffect effects → All WritesBytes effects
all_write [] h = All-nil WritesBytes
all_write (effect ∷ effects) h = All-cons WritesBytes effect effects (writes effect h.0) (all_write effects h.1)

write_bytes : (segments : List Segment) → AllByRecursion IsConstantSegment segments → All AllWriteBytes segments
write_bytes [] h = All-nil AllWriteBytes
write_bytes (segment ∷ segments) h =
    All-cons AllWriteBytes segment segments (all_write segment.effects h.0.effects) (write_bytes segments h.1)

pub playable : (m : Module) (supply : Supply) (store : Store) (tape : Tape) → IsRunnable m → IsSupply m supply
    → instantiate m supply ≡ Ok store → IsFitting m tape → IsConstantTape tape → tape_weight tape ≤ MAX_TAPE_WEIGHT
    → IsPlayable m supply store tape
playable m supply store tape runnable supplied begins fits constants light = record {
  runnable = runnable;
  supplied = supplied;
  begins = begins;
  fits = fits;
  bytes = write_bytes tape.segments constants;
  weight = light;
}
