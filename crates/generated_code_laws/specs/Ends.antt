-- How a run of a replay module ends, or gets no further, from one configuration on.
use Rattle.std.specs.Prelude.{◌≡◌, ℕ, List}
use Rattle.wasm_syntax.specs.declared.values.Val.{Val}
use Rattle.base.specs.declared.outcomes.Outcome.{Outcome}
use Rattle.history_spec.specs.Step.{Running, Finished}
use Rattle.history_spec.specs.Run.{Meter, steps}
use Rattle.history_spec.specs.Projection.{shown_outcome}
use Rattle.replay_run_spec.specs.Items.{Item, entries_in, shown_items}
use Rattle.generated_code_laws.specs.Leads.{Watched, Place, items_from}

-- after some steps from a place the run has shown these items
pub record Shows (w : Watched) (start : Place) (items : List Item) : Type 0 where
  pub count : ℕ
  pub shown : (args : List Val) → shown_items w.layout start.inside args (items_from w count start.config) ≡ items

-- the run is over after some steps from a place, under any meter; these steps show these items, and the outcome that
-- is shown is this one
pub record Ends (w : Watched) (start : Place) (items : List Item) (outcome : Outcome) : Type 0 where
  pub count : ℕ
  pub own : Outcome
  pub ends : (meter : Meter) → (steps w.program meter count (Running start.config)).at ≡ Finished own
  pub shown : (args : List Val) → shown_items w.layout start.inside args (items_from w count start.config) ≡ items
  pub outcome_shown : shown_outcome w.layout (entries_in (items_from w count start.config)) own ≡ outcome
