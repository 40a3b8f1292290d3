-- The plan of a tape and the steps of calls, which are read from the end, are said in the order of the tape and of the
-- run.
use Rattle.std.specs.Prelude.{◌≡◌, ℕ, List}
use Rattle.wasm_syntax.specs.declared.modules.Module.{Module}
use Rattle.wasm_syntax.specs.Index.{imported_funcs}
use Rattle.trace_model.specs.declared.tapes.Tape.{Tape}
use Rattle.trace_model.specs.Fitting.{IsFitting}
use Rattle.replay_module_spec.specs.Plans.{plan_of}
use Rattle.replay_run_spec.specs.Items.{Item}
use Rattle.replay_run_spec.specs.Steps.{call_steps}
use Rattle.plan_laws.specs.Owners.{by_calls}
use Rattle.plan_laws.specs.TapeOwners.{owned_plan}
use Rattle.plan_laws.specs.StepOwners.{entry_count, owned_steps}

-- the plan of a tape that fits a module has, for each activation of the host, the segments that it owns
abbrev pub PlansAreOwned : Type 0
PlansAreOwned =
    (m : Module) (tape : Tape) → IsFitting m tape
    → plan_of (imported_funcs m) tape ≡ owned_plan (imported_funcs m) tape.segments

-- the steps of each call of each import are those that the call owns
abbrev pub StepsAreOwned : Type 0
StepsAreOwned =
    (imports : ℕ) (items : List Item)
    → call_steps imports items ≡ by_calls imports (entry_count items) (owned_steps items)
