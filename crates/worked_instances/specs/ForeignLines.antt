-- The lines of a run with foreign functions by the definitions, in which each step is a turn.
use Rattle.std.specs.Prelude.{ℕ, List, Result, Ok, Err, map}
use Rattle.wasm_syntax.specs.declared.modules.Module.{Module}
use Rattle.host_script.specs.declared.scripts.Script.{Script}
use Rattle.host_script.specs.declared.scripts.LinkFault.{LinkFault}
use Rattle.base.specs.declared.outcomes.Outcome.TheVariants.{Ended, Trapped}
use Rattle.history_spec.specs.declared.entries.FaultKind.{FaultKind}
use Rattle.history_spec.specs.Line.{entry_text}
use Rattle.history_spec.specs.Step.{Progress, Finished, Faulted, StepResult}
use Rattle.history_spec.specs.Run.{Run, all_one, program_of, run_from, run_start}
use Rattle.instance_spec.specs.declared.decls.Decl.{Decl}
use Rattle.instance_spec.specs.Instances.{run_in}
use Rattle.instance_spec.specs.ForeignRuns.{foreign_world, foreign_start}

-- a run as the lines of its history, its turns, and how it goes on
pub record RunLines : Type 0 where
  pub lines : List (List ℕ)
  pub turns : ℕ
  pub at : Progress

-- the lines of a run
abbrev pub lines_of : Run → RunLines
lines_of run = record { lines = map entry_text run.history; turns = run.turns; at = run.at }

-- the lines of a run from its start, if the module links
abbrev pub lines_from : (StepResult → Run) → Result StepResult LinkFault → Result RunLines LinkFault
lines_from go (Ok initial) = Ok (lines_of (go initial))
lines_from go (Err fault) = Err fault

-- a module's run with foreign functions, after a number of steps
abbrev pub foreign_lines : Module → List Decl → Script → ℕ → Result RunLines LinkFault
foreign_lines m decls script count =
    lines_from (λ initial. run_in (foreign_world m decls script) all_one initial count) (foreign_start m decls script)

-- a module's run without them, after a number of steps
abbrev pub own_lines : Module → Script → ℕ → Result RunLines LinkFault
own_lines m script count =
    lines_from (λ initial. run_from (program_of m script) all_one initial count) (run_start m script)

-- a run that is over after these turns, by its end
abbrev pub ends : ℕ → List (List ℕ) → Result RunLines LinkFault
ends turns lines = Ok (record { lines = lines; turns = turns; at = Finished Ended })

-- by a trap
abbrev pub traps : ℕ → List (List ℕ) → Result RunLines LinkFault
traps turns lines = Ok (record { lines = lines; turns = turns; at = Finished Trapped })

-- by a fault of the script
abbrev pub fails : FaultKind → ℕ → List (List ℕ) → Result RunLines LinkFault
fails kind turns lines = Ok (record { lines = lines; turns = turns; at = Faulted kind })
