-- A run of a replay module as a list of its relevant items: its entries, and the changes and steps of the
-- functions outside the original.
use Rattle.std.specs.Prelude.{ℕ, zero, suc, ◌-◌, List, [], ◌∷◌, ◌++◌, map, flat_map, Option, Some, None, Bool, true, false, cond, nat_lt}
use Rattle.std.specs.List.{range_with_len}
use Rattle.wasm_syntax.specs.declared.values.Val.{Val}
use Rattle.wasm_syntax.specs.Nest.{Nest, InBlock}
use Rattle.trace_model.specs.declared.tapes.Effect.{Effect}
use Rattle.trace_model.specs.declared.tapes.Effect.TheVariants.{Grow, Table, Bytes, Entry as SetEntry, Global}
use Rattle.history_spec.specs.declared.entries.Entry.{Entry}
use Rattle.history_spec.specs.Store.{Store}
use Rattle.history_spec.specs.Configuration.{Frame, Activation, InModule, Config}
use Rattle.history_spec.specs.Step.{Program, Progress, Running, StepResult, step}
use Rattle.history_spec.specs.Projection.{Layout, Side, Original, side, shown_entries}
use Rattle.record_replay_spec.specs.Observations.{Observation, Writes, Resizes, WritesEntry, ResizesTable, WritesGlobal}
use Rattle.record_replay_spec.specs.ObservedStepLaws.{observed}
use Rattle.replay_run_spec.specs.Inside.{inside_after, args_after}

-- the run makes an entry; a function outside makes a change, given as the effect that a tape would have; a
-- function outside makes a step, which is a `block` or not
pub data Item : Type 0 where
  Makes : (entry : Entry) → Item
  Changes : (change : Effect) → Item
  Steps : (block : Bool) → Item

-- ---- what an instruction changes, by its observations

-- the entries that a growth of the table adds: entries without a function are given by the size alone
abbrev pub added_entries : (first count : ℕ) → (func : Option ℕ) → List Effect
added_entries first count None = []
added_entries first count (Some func) = map (λ index. SetEntry index (Some func)) (range_with_len first count)

-- what an observation changes: a write of what is there already changes its place, and a growth by nothing changes
-- nothing; a global is changed if it is one of the original's, which are the first `globals`
abbrev pub change_of : (globals : ℕ) → Observation → List Effect
change_of globals (Writes address bytes) = Bytes address bytes ∷ []
change_of globals (Resizes found left) = cond (nat_lt found left) (Grow left ∷ []) []
change_of globals (WritesEntry index func) = SetEntry index func ∷ []
change_of globals (ResizesTable found left func) =
    cond (nat_lt found left) (Table left ∷ added_entries found (left - found) func) []
change_of globals (WritesGlobal global value) = cond (nat_lt global globals) (Global global value ∷ []) []
change_of globals observation = []

-- what observations change
abbrev pub changes_of : (globals : ℕ) → List Observation → List Effect
changes_of globals seen = flat_map (change_of globals) seen

-- the next instruction is `block`
abbrev pub is_block : Nest → Bool
is_block (InBlock ty body rest) = true
is_block rest = false

-- ---- items of a run

-- the items of a step of a function outside, in addition to its entries
abbrev pub outside_items : Side → (globals : ℕ) → Store → Frame → List Item
outside_items Original globals store frame = []
outside_items other globals store frame =
    Steps (is_block frame.at.rest) ∷ map Changes (changes_of globals (observed store frame))

abbrev pub activation_items : Layout → (globals : ℕ) → Store → List Activation → List Item
activation_items layout globals store (InModule frame ∷ below) =
    outside_items (side layout frame.func) globals store frame
activation_items layout globals store stack = []

-- the items of a step: its changes come before its entries, since these may end in a return
abbrev pub step_items : Layout → (globals : ℕ) → Program → Config → List Item
step_items layout globals program config =
    activation_items layout globals config.store config.stack ++ map Makes (step program config).entries

-- the items of a number of steps
abbrev pub steps_items : Layout → (globals : ℕ) → Program → ℕ → Progress → List Item
steps_items layout globals program zero at = []
steps_items layout globals program (suc k) (Running config) =
    step_items layout globals program config ++ steps_items layout globals program k (step program config).next
steps_items layout globals program (suc k) at = []

-- the items of a run from its start on; the original has `globals` globals
abbrev pub run_items : Layout → (globals : ℕ) → Program → StepResult → ℕ → List Item
run_items layout globals program initial k =
    map Makes initial.entries ++ steps_items layout globals program k initial.next

-- ---- the projection of items

-- the items, with each entry replaced by what the projection shows of it
abbrev pub shown_items : Layout → (inside : List ℕ) → (args : List Val) → List Item → List Item
shown_items layout inside args [] = []
shown_items layout inside args (Makes entry ∷ later) =
    map Makes (shown_entries layout inside args (entry ∷ []))
    ++ shown_items layout (inside_after inside entry) (args_after args entry) later
shown_items layout inside args (item ∷ later) = item ∷ shown_items layout inside args later

-- the entries among items
abbrev pub entries_in : List Item → List Entry
entries_in [] = []
entries_in (Makes entry ∷ later) = entry ∷ entries_in later
entries_in (item ∷ later) = entries_in later
