-- The parts of the items of generated code: changes, and numbers of steps.
use Rattle.std.specs.Prelude.{List, [], ◌∷◌}
use Rattle.trace_model.specs.declared.tapes.Effect.{Effect}
use Rattle.replay_run_spec.specs.Items.{Item, Changes, Steps}
use Rattle.replay_run_spec.specs.Steps.{StepCount, no_steps, one_more}

-- the changes among items
abbrev pub changes_in : List Item → List Effect
changes_in [] = []
changes_in (Changes change ∷ later) = change ∷ changes_in later
changes_in (item ∷ later) = changes_in later

-- the steps among items
abbrev pub steps_in : List Item → StepCount
steps_in [] = no_steps
steps_in (Steps block ∷ later) = one_more block (steps_in later)
steps_in (item ∷ later) = steps_in later
