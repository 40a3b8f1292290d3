-- The owners of a small tape, with calls of imports within another.
use Rattle.std.specs.Prelude.{◌≡◌, List, [], ◌∷◌, None, true, false}
use Rattle.trace_model.specs.declared.tapes.Effect.TheVariants.{Grow}
use Rattle.trace_model.specs.declared.tapes.Origin.TheVariants.{Begin, Import, Back}
use Rattle.trace_model.specs.declared.tapes.Next.TheVariants.{Call, Return, End}
use Rattle.trace_model.specs.declared.tapes.Segment.{Segment}
use Rattle.history_spec.specs.declared.entries.Entry.TheVariants.{ImportCall, ImportReturn}
use Rattle.replay_module_spec.specs.declared.plans.Plan.{Plan}
use Rattle.replay_module_spec.specs.Plans.{plan_of}
use Rattle.replay_run_spec.specs.Items.{Item, Makes, Steps}
use Rattle.replay_run_spec.specs.Steps.{StepCount, call_steps}
use Rattle.plan_laws.specs.Owners.{Beginning, CallOf, by_calls}
use Rattle.plan_laws.specs.TapeOwners.{owners_of, owned_plan}
use Rattle.plan_laws.specs.StepOwners.{entry_count, owned_steps}

-- the host calls function 2
abbrev pub begins : Segment
begins = record { origin = Begin; effects = []; next = Call 2 [] }

-- function 2 calls import 1, and the host calls function 3
abbrev pub outer_begins : Segment
outer_begins = record { origin = Import 1; effects = []; next = Call 3 [] }

-- function 3 calls import 0, which returns
abbrev pub inner_returns : Segment
inner_returns = record { origin = Import 0; effects = []; next = Return None }

-- function 3 calls import 1 within the call of import 1; the inner call returns
abbrev pub nested_returns : Segment
nested_returns = record { origin = Import 1; effects = Grow 2 ∷ []; next = Return None }

-- function 3 returns, and the call of import 1 too
abbrev pub outer_returns : Segment
outer_returns = record { origin = Back; effects = []; next = Return None }

-- function 2 calls import 1 again, which returns
abbrev pub later_returns : Segment
later_returns = record { origin = Import 1; effects = Grow 3 ∷ []; next = Return None }

-- function 2 returns, and the host's work ends
abbrev pub ends : Segment
ends = record { origin = Back; effects = []; next = End }

-- the segments, in order
abbrev pub nested_segments : List Segment
nested_segments =
    begins ∷ outer_begins ∷ inner_returns ∷ nested_returns ∷ outer_returns ∷ later_returns ∷ ends ∷ []

-- the plan that the segments make: import 0 has one call, and import 1 has three
abbrev pub nested_plan : Plan
nested_plan =
    record {
      begin = begins ∷ ends ∷ [];
      imports =
          ((inner_returns ∷ []) ∷ [])
          ∷ ((outer_begins ∷ outer_returns ∷ []) ∷ (nested_returns ∷ []) ∷ (later_returns ∷ []) ∷ []) ∷ [];
    }

-- a run in which a call of import 1 makes a step, has a call of import 0 within it, and then makes two more steps
abbrev pub nested_items : List Item
nested_items =
    Steps false ∷ Makes (ImportCall 1 []) ∷ Steps false ∷ Makes (ImportCall 0 []) ∷ Steps true
    ∷ Makes (ImportReturn 0 []) ∷ Steps false ∷ Steps true ∷ Makes (ImportReturn 1 []) ∷ Steps false ∷ []

-- the steps of the two calls; the host's own work also makes two
abbrev pub nested_steps : List (List StepCount)
nested_steps = (record { steps = 0; blocks = 1 } ∷ []) ∷ (record { steps = 2; blocks = 1 } ∷ []) ∷ []

-- the owners of the segments; and the plan and the steps, read from the beginning and from the end
pub record WorkedOwners : Type 0 where
  pub owners : owners_of nested_segments ≡
      Beginning ∷ CallOf 1 0 ∷ CallOf 0 0 ∷ CallOf 1 1 ∷ CallOf 1 0 ∷ CallOf 1 2 ∷ Beginning ∷ []
  pub plan : owned_plan 2 nested_segments ≡ nested_plan
  pub plan_from_end : plan_of 2 (record { segments = nested_segments }) ≡ nested_plan
  pub steps : by_calls 2 (entry_count nested_items) (owned_steps nested_items) ≡ nested_steps
  pub steps_from_end : call_steps 2 nested_items ≡ nested_steps
