-- What the events of a log mean: the differences between what observations find and what was known before them.
use Rattle.std.specs.Prelude.{◌≡◌, ℕ, List, [], ◌∷◌, ◌++◌, Option, Some, None, Ok, cond, nat_eq, unwrap_or}
use Rattle.std.specs.Option.{option_map_or}
use Rattle.wasm_syntax.specs.declared.values.Val.{Val}
use Rattle.wasm_syntax.specs.Index.{imported_funcs}
use Rattle.base.specs.declared.outcomes.Outcome.{Outcome}
use Rattle.trace_model.specs.declared.events.Event.{Event}
use Rattle.trace_model.specs.declared.events.Event.TheVariants.{Seen}
use Rattle.history_spec.specs.Store.{Store}
use Rattle.history_spec.specs.Instruction.{bits_at}
use Rattle.record_replay_spec.specs.Observations.{Observation, Reaches, Resizes}
use Rattle.record_replay_spec.specs.Known.{Known, last_some, pages_of, opening_known, known_from}
use Rattle.record_replay_spec.specs.declared.hooks.Hook.{Hook}
use Rattle.record_replay_spec.specs.declared.hooks.Hook.TheVariants.{Arg}
use Rattle.record_replay_spec.specs.Hooks.{HookCall}
use Rattle.record_replay_spec.specs.Order.{HookedShape, value_reported}
use Rattle.record_replay_spec.specs.Logs.{LogState, call_observations, log_start, unless, sees_size, found_events, all_observed_events, notices_size, grown_events, own_events, log_after_call}
use Rattle.tape_laws.specs.ReportedObservations.{observations_of_calls}
use Rattle.tape_laws.specs.CallLaws.{OriginalRun, hooked_shape, calls_of_run}
use Rattle.tape_laws.specs.LogLaws.{opened_store, log_of_run}

-- ---- the events of observations

-- the number of pages that an observation finds, if it is of the memory's size
abbrev pub size_found : Observation → Option ℕ
size_found (Reaches end found) = Some found
size_found (Resizes found left) = Some found
size_found o = None

-- the event that the memory's size is seen, if another number of pages is found than the known one
abbrev pub size_events : (known : ℕ) → (found : Option ℕ) → List Event
size_events known None = []
size_events known (Some found) = unless (nat_eq known found) Seen

-- The events of an observation, if this is known: the observation sees the memory's size and finds another than the
-- known one; or it finds bytes, a number of entries, an entry or a global's value that are not the known ones.
abbrev pub differences : (n : ℕ) → Known → Observation → List Event
differences n known o =
    cond (sees_size known.pages o) (size_events known.pages (size_found o)) [] ++ found_events n known o

-- the events of an observation, by a search of all observations before it, if the original imports `n` functions
abbrev pub searched_events : (n : ℕ) → (opening : Known) → (seen : List Observation) → Observation → List Event
searched_events n opening seen o = differences n (known_from opening seen) o

-- the events of a list of observations, each by a search of all observations before it
abbrev pub all_searched_events : (n : ℕ) → (opening : Known) → (seen more : List Observation) → List Event
all_searched_events n opening seen [] = []
all_searched_events n opening seen (o ∷ more) =
    searched_events n opening seen o ++ all_searched_events n opening (seen ++ o ∷ []) more

-- ---- the events of calls

-- the number of pages that an observation leaves, if it is of the memory's size
abbrev pub size_left : Observation → Option ℕ
size_left (Reaches end found) = Some found
size_left (Resizes found left) = Some left
size_left o = None

-- the number of pages that a call leaves, if it notices the memory's size or observes it
abbrev pub size_after_call : HookedShape → HookCall → Option ℕ
size_after_call shape call =
    cond (notices_size call.kind) (Some (pages_of call.view.memory))
    (last_some size_left (call_observations shape call))

-- the number of pages that was left by the last call that notices the memory's size or observes it, else that of the
-- opening
abbrev pub size_after_calls : HookedShape → (opening : ℕ) → List HookCall → ℕ
size_after_calls shape opening calls = unwrap_or (last_some (size_after_call shape) calls) opening

-- the pending values after a call, which are those that were reported after the last call of another hook
abbrev pub pending_after : List Val → Hook → (args : List Val) → List Val
pending_after pending Arg args =
    pending ++ option_map_or (λ value. value ∷ []) (value_reported (bits_at args 0) (bits_at args 1)) []
pending_after pending kind args = []

-- The events of a call after others, by a search of these: first the events of its observations, then its own event.
-- The last event is the memory's growth, if the call notices the size, and the memory has another number of pages than
-- the calls before it left.
abbrev pub searched_call_events : HookedShape → (opened : Store) → (before : List HookCall) → (pending : List Val)
    → HookCall → List Event
searched_call_events shape opened before pending call =
    all_searched_events shape.imports (opening_known opened) (observations_of_calls shape before)
    (call_observations shape call)
    ++ (own_events shape.imports pending call.kind call.args call.view
    ++ cond (notices_size call.kind)
    (grown_events (size_after_calls shape (pages_of opened.memory) before) call.view) [])

-- the events of calls after others, each by a search of all calls before it
abbrev pub searched_log_events : HookedShape → (opened : Store) → (before : List HookCall) → (pending : List Val)
    → List HookCall → List Event
searched_log_events shape opened before pending [] = []
searched_log_events shape opened before pending (call ∷ calls) =
    searched_call_events shape opened before pending call
    ++ searched_log_events shape opened (before ++ call ∷ []) (pending_after pending call.kind call.args) calls

-- ---- the laws

-- the state of the log after calls
abbrev pub log_after_calls : HookedShape → LogState → List HookCall → LogState
log_after_calls shape state [] = state
log_after_calls shape state (call ∷ calls) = log_after_calls shape (log_after_call shape state call) calls

-- for each call of a run: the events of its observations are those by a search of all observations before them, of the
-- call itself and of the calls before it
abbrev pub EventsAreDifferences : Type 0
EventsAreDifferences =
    (run : OriginalRun) (count : ℕ) (before : List HookCall) (call : HookCall) (later : List HookCall)
    → calls_of_run run count ≡ before ++ call ∷ later
    → all_observed_events (imported_funcs run.m)
    (log_after_calls (hooked_shape run) (log_start (opened_store run)) before)
    (call_observations (hooked_shape run) call)
    ≡ all_searched_events (imported_funcs run.m) (opening_known (opened_store run))
    (observations_of_calls (hooked_shape run) before) (call_observations (hooked_shape run) call)

-- each run, whether it ends or is cut short, has a log, and the events of each call are those by a search of all calls
-- before it
abbrev pub LogsAreDifferences : Type 0
LogsAreDifferences =
    (run : OriginalRun) (count : ℕ) (outcome : Outcome)
    → log_of_run run count outcome
    ≡ Ok (record {
      imports = imported_funcs run.m;
      events = searched_log_events (hooked_shape run) (opened_store run) [] [] (calls_of_run run count);
      outcome = outcome;
    })
