-- Laws of the definitions of hooks, instrumented modules and logs.
use Rattle.std.specs.Prelude.{◌≡◌, ℕ, ◌+◌, ◌<◌, List, [], ◌∷◌, ◌++◌, length, filter, sum_by, Option, Some, None, true, nat_eq, slice_get}
use Rattle.std.specs.List.{list_all}
use Rattle.wasm_syntax.specs.declared.values.ValType.TheVariants.{I32, I64, F32, F64}
use Rattle.wasm_syntax.specs.declared.signatures.FuncType.{FuncType}
use Rattle.wasm_syntax.specs.declared.modules.Run.{Run}
use Rattle.wasm_syntax.specs.declared.modules.Module.{Module}
use Rattle.wasm_syntax.specs.Index.{imported_funcs, func_type, all_tables, all_memories, all_globals}
use Rattle.wasm_syntax.specs.Nest.{Nest, IsNest, size}
use Rattle.wasm_syntax.specs.Validity.{each_local}
use Rattle.host_script.specs.declared.scripts.Answer.{Answer}
use Rattle.host_script.specs.declared.scripts.ResponseEnd.TheVariants.{Return}
use Rattle.trace_model.specs.declared.events.Event.{Event}
use Rattle.trace_model.specs.declared.events.Event.TheVariants.{Bytes}
use Rattle.trace_model.specs.declared.events.Log.{Log}
use Rattle.trace_model.specs.declared.tapes.Effect.{Effect}
use Rattle.trace_model.specs.declared.tapes.Effect.TheVariants as effects
use Rattle.trace_model.specs.Effects.{AreOrdered}
use Rattle.trace_model.specs.declared.tapes.Tape.{Tape}
use Rattle.history_spec.specs.Step.{response_to}
use Rattle.record_replay_spec.specs.Known.{byte_among, last_some}
use Rattle.record_replay_spec.specs.Needed.{needed, effect_byte, has_bytes}
use Rattle.record_replay_spec.specs.declared.hooks.Hook.{Hook}
use Rattle.record_replay_spec.specs.Hooks.{HookCall, hooks, hook_count, hook_place, hook_func, hook_type, renumber, original}
use Rattle.record_replay_spec.specs.HookedRuns.{with_hook_answers}
use Rattle.record_replay_spec.specs.Order.{HookedShape, OrderState, ordered_step}
use Rattle.record_replay_spec.specs.Logs.{LogState, differing_runs, log_after_call}
use Rattle.record_replay_spec.specs.LogTapes.{IsLogTape}
use Rattle.record_replay_spec.specs.LogTapeTest.{is_log_tape}
use Rattle.record_replay_spec.specs.Insertions.{Site}
use Rattle.record_replay_spec.specs.Instrumented.{instrumented_body, weights_of_body, with_added_locals, instrumented_module}
use Rattle.record_replay_spec.specs.HookedForm.{digest_length, is_from_hooks, hooked_form}

-- ---- indices

-- a function of the original keeps its place among those that are not hooks
pub record IndicesAreRenumbered : Type 0 where
  pub place : (kind : Hook) → slice_get hooks (hook_place kind) ≡ Some kind
  pub of_renumbered : (n func : ℕ) → original n (renumber n func) ≡ Some func
  pub of_original : (n func origin : ℕ) → original n func ≡ Some origin → renumber n origin ≡ func
  pub of_hook : (n : ℕ) (kind : Hook) → original n (hook_func n kind) ≡ None

-- ---- runs

-- the host answers the original's imports as the script does, and hooks by doing nothing
pub record HooksAreAnswered : Type 0 where
  pub own : (n import number : ℕ) (answers : List (Option Answer)) → import < n
      → response_to (with_hook_answers n answers) import number ≡ response_to answers import number
  pub hook : (n : ℕ) (kind : Hook) (number : ℕ) (answers : List (Option Answer))
      → response_to (with_hook_answers n answers) (hook_func n kind) number
      ≡ Some (record { actions = []; end = Return None })

-- ---- instrumented bodies

-- inserted instructions open and close no block, each instruction has a weight, and the sum of the weights is the
-- number of the original's instructions
pub record BodiesAreInstrumented : Type 0 where
  pub nested : (s : Site) (ty : FuncType) (nest : Nest) → IsNest nest → IsNest (instrumented_body s ty nest)
  pub weighed : (s : Site) (ty : FuncType) (nest : Nest)
      → length (weights_of_body s ty nest) ≡ size (instrumented_body s ty nest)
  pub weight : (s : Site) (ty : FuncType) (nest : Nest)
      → sum_by (λ weight. weight) (weights_of_body s ty nest) ≡ size nest
  pub locals : (runs : List Run)
      → each_local (with_added_locals runs) ≡ each_local runs ++ I32 ∷ I32 ∷ I64 ∷ F32 ∷ F64 ∷ []

-- ---- instrumented modules

-- an instrumented module has the original's functions, memory and globals, and the hooks among its functions
pub record InstrumentedKeepsIndices (m : Module) (digest : List ℕ) : Type 0 where
  pub imports : imported_funcs (instrumented_module m digest) ≡ imported_funcs m + hook_count
  pub defined : length (instrumented_module m digest).funcs ≡ length m.funcs
  pub type_of : (func : ℕ) (ty : FuncType) → func_type m func ≡ Some ty
      → func_type (instrumented_module m digest) (renumber (imported_funcs m) func) ≡ Some ty
  pub hook : (kind : Hook)
      → func_type (instrumented_module m digest) (hook_func (imported_funcs m) kind) ≡ Some (hook_type kind)
  pub tables : all_tables (instrumented_module m digest) ≡ all_tables m
  pub memories : all_memories (instrumented_module m digest) ≡ all_memories m
  pub globals : all_globals (instrumented_module m digest) ≡ all_globals m

-- every instrumented module has the original's functions, memory and globals, and the hooks among its functions
abbrev pub InstrumentedKeepIndices : Type 0
InstrumentedKeepIndices = (m : Module) (digest : List ℕ) → InstrumentedKeepsIndices m digest

-- an instrumented module has the hooked form, if the original imports nothing from the hooks' module
abbrev pub InstrumentedAreHooked : Type 0
InstrumentedAreHooked =
    (m : Module) (digest : List ℕ) → length digest ≡ digest_length → filter is_from_hooks m.imports ≡ []
    → hooked_form (instrumented_module m digest)
    ≡ Some (record { digest = digest; imports = imported_funcs m; defined = length m.funcs })

-- ---- order and logs

-- the size of the table that the order knows is the one that the log knows
abbrev pub OrderKnowsTable : Type 0
OrderKnowsTable =
    (shape : HookedShape) (state : LogState) (order next : OrderState) (call : HookCall)
    → ordered_step shape order call ≡ Some next → order.entries ≡ state.known.entries
    → next.entries ≡ (log_after_call shape state call).known.entries

-- the effects of the Bytes events of a log
abbrev pub effects_of_runs : List Event → List Effect
effects_of_runs [] = []
effects_of_runs (Bytes address bytes ∷ later) = effects.Bytes address bytes ∷ effects_of_runs later
effects_of_runs (event ∷ later) = effects_of_runs later

-- the runs of bytes that are reported for bytes read from an address on: the longest runs of the bytes that are not
-- the known ones, in order
pub record AreDifferingRuns (known : ℕ → ℕ) (address : ℕ) (bytes : List ℕ) (runs : List Effect) : Type 0 where
  pub ordered : AreOrdered runs
  pub nonempty : list_all has_bytes runs ≡ true
  pub byte : (at : ℕ) → last_some (effect_byte at) runs ≡ needed nat_eq (known at) (byte_among address bytes at)

-- the bytes that are read and are not the known ones are reported in longest runs, and no others
abbrev pub DifferingBytesAreReported : Type 0
DifferingBytesAreReported =
    (known : ℕ → ℕ) (address : ℕ) (bytes : List ℕ)
    → AreDifferingRuns known address bytes (effects_of_runs (differing_runs known address bytes))

-- a log has at most one tape
abbrev pub LogTapeIsOne : Type 0
LogTapeIsOne = (log : Log) (tape other : Tape) → IsLogTape log tape → IsLogTape log other → tape ≡ other

-- a tape that passes the test is the tape of the log
abbrev pub TestedTapesAreOfLogs : Type 0
TestedTapesAreOfLogs = (log : Log) (tape : Tape) → is_log_tape log tape ≡ true → IsLogTape log tape
