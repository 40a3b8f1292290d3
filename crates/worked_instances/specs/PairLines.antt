-- The lines of the run of a pair by the definitions, in which each step is a turn.
use Rattle.std.specs.Prelude.{◌≡◌, ℕ, List, Result, Ok, Err, map}
use Rattle.host_script.specs.declared.scripts.Script.{Script}
use Rattle.host_script.specs.declared.scripts.LinkFault.{LinkFault}
use Rattle.base.specs.declared.outcomes.Outcome.{Outcome}
use Rattle.history_spec.specs.Line.{entry_text}
use Rattle.history_spec.specs.Step.{Finished, StepResult}
use Rattle.history_spec.specs.Run.{Run, all_one}
use Rattle.instance_spec.specs.declared.sides.Side.{Side}
use Rattle.instance_spec.specs.declared.sides.Side.TheVariants.{Left, Right}
use Rattle.instance_spec.specs.Instances.{run_in}
use Rattle.pair_spec.specs.Pairs.{ModulePair}
use Rattle.pair_spec.specs.PairRuns.{pair_world, pair_start}
use Rattle.pair_spec.specs.Linked.{linked}
use Rattle.pair_spec.specs.SideHistories.{side_history}
use Rattle.worked_instances.specs.ForeignLines.{RunLines, lines_of, own_lines}

-- the lines of a pair's run, and of the history of each module
pub record PairLines : Type 0 where
  pub run : RunLines
  pub left : List (List ℕ)
  pub right : List (List ℕ)

-- the lines of a side's history
abbrev pub side_lines : ModulePair → Run → Side → List (List ℕ)
side_lines pair run side = map entry_text (side_history pair side run.history)

-- the lines of a run
abbrev pub pair_lines_of : ModulePair → Run → PairLines
pair_lines_of pair run =
    record { run = lines_of run; left = side_lines pair run Left; right = side_lines pair run Right }

-- the lines of a run from its start, if the modules link
abbrev pub pair_lines_from : ModulePair → (StepResult → Run) → Result StepResult LinkFault → Result PairLines LinkFault
pair_lines_from pair go (Ok initial) = Ok (pair_lines_of pair (go initial))
pair_lines_from pair go (Err fault) = Err fault

-- the lines of the run of a pair, after a number of steps
abbrev pub pair_lines : ModulePair → Script → ℕ → Result PairLines LinkFault
pair_lines pair script count =
    pair_lines_from pair (λ initial. run_in (pair_world pair script) all_one initial count) (pair_start pair script)

-- the run of a pair is over after these turns, with these lines, and so is the run of its linked module
pub record HasLines (pair : ModulePair) (script : Script) (turns : ℕ) (outcome : Outcome)
    (lines left right : List (List ℕ)) : Type 0 where
  pub of_pair : pair_lines pair script turns
      ≡ Ok (record {
        run = record { lines = lines; turns = turns; at = Finished outcome };
        left = left;
        right = right;
      })
  pub of_linked : own_lines (linked pair) script turns
      ≡ Ok (record { lines = lines; turns = turns; at = Finished outcome })
