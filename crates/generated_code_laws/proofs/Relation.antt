-- The run of a replay module beside the run of its tape: stores, activations, counters, and what remains.
use Rattle.std.specs.Prelude.{◌≡◌, ℕ, ◌<◌, ◌≤◌, List, [], ◌∷◌, ◌++◌, length, drop, replicate, Some, slice_index}
use Rattle.std.specs.List.{slice_index_or}
use Rattle.wasm_syntax.specs.declared.values.Val.{Val}
use Rattle.wasm_syntax.specs.declared.values.ValType.{ValType}
use Rattle.wasm_syntax.specs.declared.signatures.FuncType.{FuncType}
use Rattle.wasm_syntax.specs.declared.instructions.Instr.TheVariants.{Drop, Return}
use Rattle.wasm_syntax.specs.declared.modules.Module.{Module}
use Rattle.wasm_syntax.specs.Nest.{Empty}
use Rattle.wasm_syntax.specs.Index.{imported_funcs, all_globals}
use Rattle.host_script.specs.declared.scripts.ResponseEnd.TheVariants.{Trap as EndsInTrap}
use Rattle.trace_model.specs.declared.tapes.Segment.{Segment}
use Rattle.history_spec.specs.Code.{Code, code_of, signature}
use Rattle.history_spec.specs.Store.{Store}
use Rattle.history_spec.specs.Configuration.{Label, Frame, Activation, InModule, InMain, InImport, point, at_point}
use Rattle.record_replay_spec.specs.TapeRun.{pause}
use Rattle.replay_module_spec.specs.Plans.{innermost, around_innermost}
use Rattle.replay_module_spec.specs.Dispatch.{sequence}
use Rattle.replay_module_spec.specs.Segments.{segments_code}
use Rattle.replay_module_spec.specs.Fragments.{start_index}
use Rattle.generated_code_laws.specs.Leads.{Place, Standing, Watched}
use Rattle.replay_module_spec.specs.Merge.{layout_of}
use Rattle.replay_module_laws.specs.Stores.{counters, with_own}

-- ---- activations of the host

-- a generated activation that waits for the results of a call, which it drops, and that has these segments left
abbrev pub waiting_frame : Module → (results : List ValType) → List Segment → Frame → List Label → (number : ℕ) → Frame
waiting_frame m results segments base labels number =
    at_point base
    (point [] labels (sequence (replicate (length results) Drop ++ segments_code m segments) Empty) number)

-- the activation in an import's place, which waits for that of a group and returns its results
abbrev pub returning_frame : Frame → List Label → (number : ℕ) → Frame
returning_frame base labels number = at_point base (point [] labels (sequence (Return ∷ []) Empty) number)

-- ---- stacks

-- The activations of the replay module's run beside those of the tape's run, and the functions in which control is.
-- Those of the original are the same; the host's own work is the exported function, and each call of an import is the
-- function of a group above the one in the import's place. All but the topmost wait: `awaited` has the types of the
-- results for the topmost. `begun` has the remaining segments of each of the host's activations, the innermost first.
pub data AreBeside (m : Module) : (awaited : List ValType) (stack : List Activation) (begun : List (List Segment))
    (own : List Activation) (inside : List ℕ) → Type 0 where
  Works : {awaited : List ValType} {begun : List (List Segment)} (base : Frame) (labels : List Label) (number : ℕ)
      → base.func ≡ start_index m → base.arity ≡ 0
      → AreBeside m awaited (InMain (pause ∷ []) ∷ []) begun
      (InModule (waiting_frame m awaited (innermost begun) base labels number) ∷ InMain [] ∷ []) (base.func ∷ [])
  Runs : {awaited : List ValType} {begun : List (List Segment)} (stack own : List Activation) (inside : List ℕ)
      (frame : Frame) (ty : FuncType)
      → signature (code_of m) frame.func ≡ Some ty → frame.arity ≡ length ty.results
      → imported_funcs m ≤ frame.func
      → AreBeside m ty.results stack begun own inside
      → AreBeside m awaited (InModule frame ∷ stack) begun (InModule frame ∷ own) (frame.func ∷ inside)
  Answers : {awaited : List ValType} {begun : List (List Segment)} (stack own : List Activation) (inside : List ℕ)
      (import : ℕ) (args : List Val) (ty : FuncType) (caller base behind : Frame)
      (labels behind_labels : List Label) (number behind_number : ℕ)
      → signature (code_of m) import ≡ Some ty → import < imported_funcs m
      → start_index m < base.func → base.arity ≡ length ty.results
      → behind.func ≡ import → behind.arity ≡ length ty.results
      → AreBeside m ty.results (InModule caller ∷ stack) (around_innermost begun) own inside
      → AreBeside m awaited (InImport import args (pause ∷ []) EndsInTrap ∷ InModule caller ∷ stack) begun
      (InModule (waiting_frame m awaited (innermost begun) base labels number)
      ∷ InModule (returning_frame behind behind_labels behind_number) ∷ own) (base.func ∷ behind.func ∷ inside)

-- ---- the run

-- the run of a replay module with this code, observed for the original
abbrev pub watched : Module → Code → Watched
watched m code =
    record {
      program = record { code = code; answers = [] };
      layout = layout_of m;
      globals = length (all_globals m);
    }

-- ---- places

-- the remaining calls of each import are those after the counted ones
abbrev pub AreLeft : (whole : List (List (List Segment))) → (counts : List ℕ) → List (List (List Segment)) → Type 0
AreLeft whole counts left =
    (import : ℕ) → drop (slice_index counts import) (slice_index_or whole import []) ≡ slice_index_or left import []

-- an activation of a function that plays the host, above others
abbrev pub host_standing : Frame → (below : List Activation) → (inside : List ℕ) → Standing
host_standing base below inside = record { frame = base; below = below; counts = []; inside = base.func ∷ inside }

-- a place of the replay module's run, which calls no import, beside a store of the original and the counts of calls
abbrev pub own_place : Store → (counts : List ℕ) → List Activation → (inside : List ℕ) → Place
own_place store counts own inside =
    record {
      config = record { store = with_own (counters counts) store; stack = own; counts = [] };
      inside = inside;
    }

-- the activations with these values in the topmost
abbrev pub with_values : List Val → List Activation → List Activation
with_values values (InModule frame ∷ below) = InModule (record frame { values = values }) ∷ below
with_values values own = own

-- the imports whose calls are open, the innermost first
abbrev pub imports_in : List Activation → List ℕ
imports_in [] = []
imports_in (InImport import args actions end ∷ below) = import ∷ imports_in below
imports_in (activation ∷ below) = imports_in below
