-- The lines of a run by the definitions, in which each step is a turn.
use Rattle.std.specs.Prelude.{ℕ, List, [], ◌∷◌, ◌++◌, Result, Ok, Err, map}
use Rattle.wasm_syntax.specs.declared.modules.Module.{Module}
use Rattle.host_script.specs.declared.scripts.Script.{Script}
use Rattle.host_script.specs.declared.scripts.LinkFault.{LinkFault}
use Rattle.base.specs.declared.outcomes.Outcome.{Outcome}
use Rattle.history_spec.specs.declared.entries.Entry.{Entry}
use Rattle.history_spec.specs.declared.entries.FaultKind.{FaultKind}
use Rattle.history_spec.specs.Step.{Progress, Running, Finished, Faulted, Stuck, StepResult}
use Rattle.history_spec.specs.Run.{Run, run_from, all_one, program_of, run_start}
use Rattle.history_spec.specs.Line.{entry_text, outcome_text}
use Rattle.history_spec.specs.Projection.{Layout, Projection, projection}
use Rattle.history_spec.specs.Replay.{instructions, program_alone, run_start_alone}

-- the result of a run within a budget, with the outcome as the last line
pub data PrintResult : Type 0 where
  Lines : (turns : ℕ) (lines : List (List ℕ)) → PrintResult
  Fault : (turn : ℕ) (kind : FaultKind) → PrintResult
  Spent : PrintResult
  NoLink : (fault : LinkFault) → PrintResult
  NoRule : PrintResult

-- the lines of a projection: its history and its outcome
abbrev pub lines_of : Projection → List (List ℕ)
lines_of s = map entry_text s.history ++ outcome_text s.outcome ∷ []

-- the result of a run with this history and these turns, by how it goes on
abbrev pub print_at : (List Entry → Outcome → Projection) → List Entry → ℕ → Progress → PrintResult
print_at show history turns (Running config) = Spent
print_at show history turns (Finished outcome) = Lines turns (lines_of (show history outcome))
print_at show history turns (Faulted kind) = Fault turns kind
print_at show history turns Stuck = NoRule

-- the result of a run
abbrev pub print_run : (List Entry → Outcome → Projection) → Run → PrintResult
print_run show run = print_at show run.history run.turns run.at

-- the history and the outcome as a projection of everything
abbrev pub whole : List Entry → Outcome → Projection
whole history outcome = record { history = history; outcome = outcome }

-- the result of a run from its start, if the module links
abbrev pub print_from : (StepResult → PrintResult) → Result StepResult LinkFault → PrintResult
print_from go (Ok initial) = go initial
print_from go (Err fault) = NoLink fault

-- a module's run under a script, within a budget of turns
abbrev pub print : Module → Script → ℕ → PrintResult
print m script turns =
    print_from (λ initial. print_run whole (run_from (program_of m script) all_one initial turns)) (run_start m script)

-- what the run of a replay module from a function on shows; the two calls of that function and of the original take no
-- turn
abbrev pub print_replay : Module → Layout → (entry steps : ℕ) → PrintResult
print_replay m layout entry steps =
    print_from
    (λ initial. print_run (projection layout) (run_from (program_alone m) instructions initial steps))
    (run_start_alone m entry)
