-- The calls whose steps are counted are listed for each import of the module.
use Rattle.std.proofs.Common.{◌≡◌, ℕ, List, [], ◌∷◌, length, ◌∙◌}
use Rattle.std.proofs.lemmas.List.{length-replicate, length-set}
use Rattle.history_spec.specs.declared.entries.Entry.{Entry}
use Rattle.history_spec.specs.declared.entries.Entry.TheVariants.{ImportCall}
use Rattle.replay_run_spec.specs.Items.{Item, Makes, Changes, Steps}
use Rattle.replay_run_spec.specs.Steps.{StepCount, StepsLeft, steps_left, with_entry}

pub calls_many : (imports : ℕ) (items : List Item) → length (steps_left imports items).calls ≡ imports
calls_many imports [] = length-replicate {A = List StepCount} imports []
calls_many imports (Makes entry ∷ later) = by entry (steps_left imports later) (calls_many imports later)
  where
    by : (entry : Entry) (left : StepsLeft) → length left.calls ≡ imports → length (with_entry entry left).calls ≡ imports
    by (ImportCall import args) left many = length-set left.calls import _ ∙ many
    by entry left many = many
calls_many imports (Changes change ∷ later) = calls_many imports later
calls_many imports (Steps block ∷ later) = calls_many imports later
