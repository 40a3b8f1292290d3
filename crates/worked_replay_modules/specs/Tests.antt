-- What is computed of a module, a script for it and a tape.
use Rattle.std.specs.Prelude.{ℕ, ◌+◌, List, [], ◌∷◌, length, map, None, Result, Ok, Err, Bool, bytes_eq}
use Rattle.std.specs.Cmp.Lexicographic.{pointwise}
use Rattle.wasm_syntax.specs.declared.values.Val.{Val}
use Rattle.wasm_syntax.specs.declared.modules.Module.{Module}
use Rattle.wasm_syntax.specs.Index.{imported_funcs, all_globals}
use Rattle.host_script.specs.declared.scripts.Script.{Script}
use Rattle.host_script.specs.declared.scripts.Action.TheVariants.{Call}
use Rattle.host_script.specs.declared.scripts.LinkFault.{LinkFault}
use Rattle.host_script.specs.Supply.{supply_for}
use Rattle.trace_model.specs.declared.tapes.Effect.{Effect}
use Rattle.trace_model.specs.declared.tapes.Tape.{Tape}
use Rattle.history_spec.specs.Code.{i32_value}
use Rattle.history_spec.specs.Store.{Store, with_global}
use Rattle.history_spec.specs.Instantiation.{instantiate}
use Rattle.history_spec.specs.Step.{StepResult, start}
use Rattle.history_spec.specs.Run.{run_from}
use Rattle.history_spec.specs.Projection.{Layout, projection}
use Rattle.history_spec.specs.Replay.{alone, instructions, program_alone, run_start_alone}
use Rattle.replay_module_spec.specs.declared.plans.Plan.{Plan}
use Rattle.replay_module_spec.specs.Plans.{plan_of}
use Rattle.replay_module_spec.specs.declared.fragments.Fragment.{Fragment}
use Rattle.replay_module_spec.specs.Fragments.{fragment_of}
use Rattle.replay_module_spec.specs.Merge.{replay_module}
use Rattle.replay_run_spec.specs.Items.{Item, run_items, shown_items}
use Rattle.replay_run_spec.specs.Stretches.{stretches, all_joined}
use Rattle.replay_run_spec.specs.Steps.{StepCount, call_steps}
use Rattle.worked_histories.specs.RunLines.{PrintResult, Lines, print, print_run, print_replay}

-- the generated part of a tape for a module
abbrev pub fragment_for : Module → Tape → Fragment
fragment_for m tape = fragment_of m (plan_of (imported_funcs m) tape)

-- the replay module of a plan for a module, with the supply of a script
abbrev pub replay_of_plan : Module → Script → Plan → Module
replay_of_plan m script plan = replay_module m (supply_for m script) (fragment_of m plan)

-- the replay module of a tape for a module, with the supply of a script
abbrev pub replay_of : Module → Script → Tape → Module
replay_of m script tape = replay_of_plan m script (plan_of (imported_funcs m) tape)

-- the layout of a module's replay modules
abbrev pub layout_of : Module → Layout
layout_of m = record { imports = imported_funcs m; defined = length m.funcs }

-- the index of the function that a replay module exports
abbrev pub entry_of : Module → ℕ
entry_of m = imported_funcs m + length m.funcs

-- what the run of a replay module shows of the original
abbrev pub print_plan : Module → Script → Plan → (steps : ℕ) → PrintResult
print_plan m script plan steps = print_replay (replay_of_plan m script plan) (layout_of m) (entry_of m) steps

-- what the run of the replay module of a tape shows of the original
abbrev pub print_tape : Module → Script → Tape → (steps : ℕ) → PrintResult
print_tape m script tape steps = print_plan m script (plan_of (imported_funcs m) tape) steps

-- the items that the run of a replay module shows
abbrev pub items_from : Module → Module → (steps : ℕ) → Result StepResult LinkFault → List Item
items_from m replay steps (Ok initial) =
    shown_items (layout_of m) [] []
    (run_items (layout_of m) (length (all_globals m)) (program_alone replay) initial steps)
items_from m replay steps (Err fault) = []

-- the items that the run of the replay module of a tape shows
abbrev pub items_of : Module → Script → Tape → (steps : ℕ) → List Item
items_of m script tape steps =
    items_from m (replay_of m script tape) steps (run_start_alone (replay_of m script tape) (entry_of m))

-- the changes of each stretch, as they are made
abbrev pub stretches_made : Module → Script → Tape → (steps : ℕ) → List (List Effect)
stretches_made m script tape steps = stretches (items_of m script tape steps)

-- the changes of each stretch, with bytes joined
abbrev pub changes_made : Module → Script → Tape → (steps : ℕ) → List (List Effect)
changes_made m script tape steps = map all_joined (stretches_made m script tape steps)

-- the steps of each call of each import
abbrev pub steps_made : Module → Script → Tape → (steps : ℕ) → List (List StepCount)
steps_made m script tape steps = call_steps (imported_funcs m) (items_of m script tape steps)

-- the lines of a run that ended or trapped
abbrev pub lines_of_result : PrintResult → List (List ℕ)
lines_of_result (Lines turns lines) = lines
lines_of_result other = []

-- the lines of the run under the script
abbrev pub script_lines : Module → Script → List (List ℕ)
script_lines m script = lines_of_result (print m script 100)

-- the two lists of lines are equal
abbrev pub same_lines : List (List ℕ) → List (List ℕ) → Bool
same_lines first second = pointwise bytes_eq first second

-- ---- one call of an import, by its number

-- the store in which a run begins, with a value given to a global
abbrev pub store_with : (global : ℕ) → Val → Result Store LinkFault → Store
store_with global value (Ok store) = with_global store global value
store_with global value (Err fault) = record { memory = None; table = None; globals = [] }

-- what the replay module shows of a run in which the host calls a function of the original, after `calls` calls of its
-- one import, which a global counts
abbrev pub print_call : Module → Script → Tape → (func global calls steps : ℕ) → PrintResult
print_call m script tape func global calls steps =
    print_run (projection (layout_of m))
    (run_from (program_alone (replay_of m script tape)) instructions
    (start (program_alone (replay_of m script tape)) None
    (store_with global (i32_value calls) (instantiate (replay_of m script tape) alone)) [] (Call func [] ∷ []))
    steps)
