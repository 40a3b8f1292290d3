-- How a run of a replay module gets from one configuration to another.
use Rattle.std.specs.Prelude.{◌≡◌, ℕ, List, ◌∷◌}
use Rattle.wasm_syntax.specs.declared.values.Val.{Val}
use Rattle.wasm_syntax.specs.Nest.{Nest}
use Rattle.history_spec.specs.Store.{Store}
use Rattle.history_spec.specs.Configuration.{Label, Frame, Activation, InModule, Config, point, at_point}
use Rattle.history_spec.specs.Step.{Program, Running}
use Rattle.history_spec.specs.Run.{Meter, steps}
use Rattle.history_spec.specs.Projection.{Layout, Import, Appended, side}
use Rattle.replay_run_spec.specs.Inside.{inside_after_all}
use Rattle.replay_run_spec.specs.Items.{Item, entries_in, steps_items, shown_items}

-- a run that is observed: its program, and the layout and the number of globals of the original
pub record Watched : Type 0 where
  pub program : Program
  pub layout : Layout
  pub globals : ℕ

-- the items of a number of steps from a configuration
abbrev pub items_from : Watched → ℕ → Config → List Item
items_from w count config = steps_items w.layout w.globals w.program count (Running config)

-- a configuration, and the functions in which control is
pub record Place : Type 0 where
  pub config : Config
  pub inside : List ℕ

-- the run gets from one place to another, under any meter; its steps show these items, whatever the arguments of the
-- latest call were
pub record Leads (w : Watched) (start : Place) (items : List Item) (end : Place) : Type 0 where
  pub count : ℕ
  pub comes : (meter : Meter) → (steps w.program meter count (Running start.config)).at ≡ Running end.config
  pub shown : (args : List Val) → shown_items w.layout start.inside args (items_from w count start.config) ≡ items
  pub inside : inside_after_all start.inside (entries_in (items_from w count start.config)) ≡ end.inside

-- a function is outside the original
pub data IsOutside (layout : Layout) (func : ℕ) : Type 0 where
  InPlace : side layout func ≡ Import → IsOutside layout func
  Behind : side layout func ≡ Appended → IsOutside layout func

-- an activation without the sequence before which it is, on top of others
pub record Standing : Type 0 where
  pub frame : Frame
  pub below : List Activation
  pub counts : List ℕ
  pub inside : List ℕ

-- the place of an activation before a sequence, with these values and labels
abbrev pub standing : Standing → Store → (values : List Val) → (labels : List Label) → Nest → ℕ → Place
standing s store values labels rest number =
    record {
      config =
          record {
            store = store;
            stack = InModule (at_point s.frame (point values labels rest number)) ∷ s.below;
            counts = s.counts;
          };
      inside = s.inside;
    }
