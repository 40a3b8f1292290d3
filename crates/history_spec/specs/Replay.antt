-- The run of a replay module: its start function, if it has one, then the function that it exports as `_start`.
-- Each instruction is a turn; these two calls take no turn.
use Rattle.std.specs.Prelude.{◌≡◌, ℕ, List, [], ◌∷◌, Option, Some, None, Result, Ok, Err, Bool, true, codes, bytes_eq}
use Rattle.wasm_syntax.specs.declared.modules.Module.{Module}
use Rattle.wasm_syntax.specs.declared.modules.Export.{Export}
use Rattle.wasm_syntax.specs.declared.modules.ExportKind.{ExportKind}
use Rattle.wasm_syntax.specs.declared.modules.ExportKind.TheVariants.{Func}
use Rattle.host_script.specs.declared.scripts.Action.TheVariants.{Call}
use Rattle.host_script.specs.declared.scripts.LinkFault.{LinkFault}
use Rattle.host_script.specs.declared.scripts.Supply.{Supply}
use Rattle.base.specs.declared.outcomes.Outcome.{Outcome}
use Rattle.history_spec.specs.declared.entries.Entry.{Entry}
use Rattle.history_spec.specs.Code.{code_of}
use Rattle.history_spec.specs.Store.{Store}
use Rattle.history_spec.specs.Instantiation.{instantiate}
use Rattle.history_spec.specs.Step.{Program, Finished, StepResult, start}
use Rattle.history_spec.specs.Run.{Meter, Run, run_from}
use Rattle.history_spec.specs.Projection.{Layout, projection}

-- the function of an export, if its name is the wanted one
abbrev pub func_of_start : Bool → ExportKind → Option ℕ
func_of_start true (Func func) = Some func
func_of_start named kind = None

-- the function of the one export, if that is named `_start`
abbrev pub func_of_exports : List Export → Option ℕ
func_of_exports (export ∷ []) = func_of_start (bytes_eq export.name (codes "_start")) export.kind
func_of_exports exports = None

-- the function that a replay module exports as `_start`, if this is its only export
abbrev pub entry_function : Module → Option ℕ
entry_function m = func_of_exports m.exports

-- the meter by which each instruction is a turn, and what the caller does takes no turn
abbrev pub instructions : Meter
instructions = record { instruction = λ func number. 1; action = 0 }

-- the supply of a module without imports
abbrev pub alone : Supply
alone = record { memory = None; table = None; globals = [] }

-- the program of a module without answers
abbrev pub program_alone : Module → Program
program_alone m = record { code = code_of m; answers = [] }

-- the start of the run in a store, if the module instantiates
abbrev pub start_alone_or_fault : Module → (entry : ℕ) → Result Store LinkFault → Result StepResult LinkFault
start_alone_or_fault m entry (Ok store) = Ok (start (program_alone m) m.start store [] (Call entry [] ∷ []))
start_alone_or_fault m entry (Err fault) = Err fault

-- the start of the run of a module without imports, which calls `entry`; or why the module does not instantiate
abbrev pub run_start_alone : Module → (entry : ℕ) → Result StepResult LinkFault
run_start_alone m entry = start_alone_or_fault m entry (instantiate m alone)

-- the run of the module that calls `entry` ends, and shows this history and outcome of the original module
pub record Replays (m : Module) (layout : Layout) (entry : ℕ) (history : List Entry) (outcome : Outcome) : Type 0 where
  pub initial : StepResult
  pub starts : run_start_alone m entry ≡ Ok initial
  pub count : ℕ
  pub run : Run
  pub is_run : run_from (program_alone m) instructions initial count ≡ run
  pub own : Outcome
  pub ends : run.at ≡ Finished own
  pub shows : projection layout run.history own ≡ record { history = history; outcome = outcome }
