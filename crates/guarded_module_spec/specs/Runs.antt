-- The words of a run of a replay module so far, and those of its whole run.
use Rattle.std.specs.Prelude.{◌≡◌, ℕ, zero, suc, List, [], ◌∷◌, ◌++◌, Option, None, Ok}
use Rattle.wasm_syntax.specs.declared.modules.Module.{Module}
use Rattle.base.specs.declared.outcomes.Outcome.{Outcome}
use Rattle.history_spec.specs.declared.entries.Entry.{Entry}
use Rattle.history_spec.specs.Store.{Store, Memory}
use Rattle.history_spec.specs.Configuration.{Activation, InModule, Config}
use Rattle.history_spec.specs.Instruction.{Control, Goes, Execution, Did, execute}
use Rattle.history_spec.specs.Step.{Program, Progress, Running, Finished, StepResult, step}
use Rattle.history_spec.specs.Run.{Run, run_from}
use Rattle.history_spec.specs.Replay.{instructions, program_alone, run_start_alone}
use Rattle.history_spec.specs.Projection.{Layout, shown_entries}
use Rattle.guarded_module_spec.specs.Words.{words_of, end_words}

-- ---- the store that a run leaves

-- the store after control went on, into a function or out of one
abbrev pub store_of_control : Store → Control → Store
store_of_control store (Goes next frame) = next
store_of_control store other = store

-- the store after an instruction
abbrev pub store_of_execution : Store → Execution → Store
store_of_execution store (Did operands results found effect) = store_of_control store effect
store_of_execution store other = store

-- the store after a step of the topmost activation; the host's calls leave the store as it is
abbrev pub store_after_on : Program → Store → List Activation → Store
store_after_on program store (InModule frame ∷ below) = store_of_execution store (execute program.code store frame)
store_after_on program store stack = store

-- the store after a step of a run without imports
abbrev pub store_after : Program → Config → Store
store_after program config = store_after_on program config.store config.stack

-- the store after some steps of a run without imports, or that which the run leaves if it is over before
abbrev pub store_after_steps : Program → ℕ → Progress → (so_far : Store) → Store
store_after_steps program zero (Running config) so_far = config.store
store_after_steps program (suc count) (Running config) so_far =
    store_after_steps program count (step program config).next (store_after program config)
store_after_steps program count at so_far = so_far

-- the run of a module without imports after some steps
abbrev pub run_alone : Module → StepResult → ℕ → Run
run_alone m initial count = run_from (program_alone m) instructions initial count

-- the store of that run
abbrev pub store_alone : Module → StepResult → ℕ → Store
store_alone m initial count =
    store_after_steps (program_alone m) count initial.next (record { memory = None; table = None; globals = [] })

-- ---- words

-- what a run shows of the original so far
abbrev pub shown : Layout → Run → List Entry
shown layout run = shown_entries layout [] [] run.history

-- the words at the end of a run, if it is over
abbrev pub words_at_end : Progress → Option Memory → List ℕ
words_at_end (Finished own) memory = end_words own memory
words_at_end at memory = []

-- the words of a run after some steps
abbrev pub words_after : Module → Layout → StepResult → ℕ → List ℕ
words_after m layout initial count =
    words_of (shown layout (run_alone m initial count))
    ++ words_at_end (run_alone m initial count).at (store_alone m initial count).memory

-- the run of a replay module is over, and these are its words
pub record AreWords (m : Module) (layout : Layout) (entry : ℕ) (words : List ℕ) : Type 0 where
  pub initial : StepResult
  pub starts : run_start_alone m entry ≡ Ok initial
  pub count : ℕ
  pub own : Outcome
  pub ends : (run_alone m initial count).at ≡ Finished own
  pub are : words_after m layout initial count ≡ words
