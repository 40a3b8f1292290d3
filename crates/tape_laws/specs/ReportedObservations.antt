-- What hooks report of the observations of a run.
use Rattle.std.specs.Prelude.{ℕ, List, [], ◌∷◌, ◌++◌, Option, Bool, false, cond, slice_get, option_map}
use Rattle.std.specs.Option.{option_map_or}
use Rattle.wasm_syntax.specs.declared.signatures.GlobalType.{GlobalType}
use Rattle.record_replay_spec.specs.Observations.{Observation, Begins, Ends, ReadsEntry, ReadsGlobal}
use Rattle.record_replay_spec.specs.Hooks.{HookCall, renumber}
use Rattle.record_replay_spec.specs.Order.{HookedShape}
use Rattle.record_replay_spec.specs.Logs.{call_observations}

-- the global exists and is mutable
abbrev pub is_mutable : Option GlobalType → Bool
is_mutable ty = option_map_or (λ global. global.mutable) ty false

-- What hook calls report of an observation, if the original imports `n` functions and has these globals: nothing if
-- the host's activity begins or ends, which has hooks of its own; nothing of an immutable global, which nobody sets;
-- and a table entry by its function in the instrumented module.
abbrev pub reported_observation : (n : ℕ) → List GlobalType → Observation → List Observation
reported_observation n globals (Begins origin) = []
reported_observation n globals (Ends next) = []
reported_observation n globals (ReadsEntry index func) = ReadsEntry index (option_map (renumber n) func) ∷ []
reported_observation n globals (ReadsGlobal global value) =
    cond (is_mutable (slice_get globals global)) (ReadsGlobal global value ∷ []) []
reported_observation n globals o = o ∷ []

-- what hook calls report of a list of observations
abbrev pub reported_observations : (n : ℕ) → List GlobalType → List Observation → List Observation
reported_observations n globals [] = []
reported_observations n globals (o ∷ later) = reported_observation n globals o ++ reported_observations n globals later

-- what a list of hook calls observes
abbrev pub observations_of_calls : HookedShape → List HookCall → List Observation
observations_of_calls shape [] = []
observations_of_calls shape (call ∷ calls) = call_observations shape call ++ observations_of_calls shape calls
