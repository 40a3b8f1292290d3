-- A recorder after the hook calls of a run.
use Rattle.std.proofs.Common.{◌≡◌, ℕ, ◌+◌, List, [], ◌∷◌, Option, Some, None, Result, Ok, Err, refl, sym, ap, ◌∙◌, subst}
use Rattle.base.specs.declared.outcomes.Outcome.{Outcome}
use Rattle.trace_model.specs.declared.events.Event.{Event}
use Rattle.trace_model.specs.declared.events.Log.{Log}
use Rattle.history_spec.specs.Instantiation.{table_length}
use Rattle.record_replay_spec.specs.Hooks.{HookCall}
use Rattle.record_replay_spec.specs.Order.{HookedShape, OrderState, order_start, ordered_step, first_disorder, number_or}
use Rattle.record_replay_spec.specs.Logs.{LogState, log_start, call_events, log_after_call, events_from, events_or, after_events, log_with}
use Rattle.host_play.specs.HookedResults.{IsPlayedWithHooks}
use Rattle.host_play.specs.declared.results.PlayFault.{PlayFault}
use Rattle.host_play.specs.declared.results.PlayFault.TheVariants as refusal
use Rattle.recorder.specs.Recorders.{Recorded, IsRecorderStep, StandsAt}
use Rattle.recorder.specs.Laws.{CallsAreRecorded}
use Rattle.run_recorder.specs.Records.{RecordedRun, calls_in, IsLed, IsLog}

-- no events, but a number
abbrev IsNumber : Result (List Event) ℕ → Type 0
IsNumber (Ok events) = ⊥
IsNumber (Err number) = Unit {0}

-- if there are events of two parts, there are events of the second part
later_events : (first : List Event) (later : Result (List Event) ℕ) (reported : List Event) → after_events first later ≡ Ok reported
    → (rest : List Event) × (later ≡ Ok rest)
later_events first (Ok rest) reported is = (rest, refl)
later_events first (Err number) reported is = absurd (subst IsNumber is tt)

-- if calls have events, each of the calls is in order
pub in_order : (shape : HookedShape) (order : OrderState) (log : LogState) (at : ℕ) (calls : List HookCall) (reported : List Event)
    → events_from shape order log at calls ≡ Ok reported → first_disorder shape order at calls ≡ None
in_order shape order log at [] reported is = refl
in_order shape order log at (call ∷ calls) reported is =
    go (ordered_step shape order call) (λ next reported. in_order shape next (log_after_call shape log call) (at + 1) calls reported) is
  where
    go : (next : Option OrderState)
        → ((next : OrderState) (reported : List Event) → events_from shape next (log_after_call shape log call) (at + 1) calls ≡ Ok reported
        → first_disorder shape next (at + 1) calls ≡ None)
        → events_or at next (λ next. after_events (call_events shape log order.pending call)
        (events_from shape next (log_after_call shape log call) (at + 1) calls)) ≡ Ok reported
        → number_or at next (λ next. first_disorder shape next (at + 1) calls) ≡ None
    go None rest is = absurd (subst IsNumber is tt)
    go (Some next) rest is =
        let later = later_events (call_events shape log order.pending call)
        (events_from shape next (log_after_call shape log call) (at + 1) calls) reported is in
        rest next later.0 later.1

pub led : {S : Type 0} (has_taken : S → S → List Event → Type 0) → CallsAreRecorded has_taken → (first : S) (r : RecordedRun)
    (before after : Recorded S) → StandsAt before r.shape (order_start (table_length r.opened.table)) (log_start r.opened) 0
    → has_taken first before.recording.sink [] → (answer : Result Outcome PlayFault)
    → IsPlayedWithHooks (IsRecorderStep has_taken) r.run answer before after → IsLed (has_taken first) r answer after
led has_taken law first r before after stands fresh (Ok outcome) played =
    let reported = (law before r.shape _ _ 0 stands).accepted (calls_in r played.within.count) after played.hooks in
    record {
      log = record { imports = r.shape.imports; events = reported.0; outcome = outcome };
      is_log = record {
        after = played.run;
        within = played.within;
        ends = played.ends;
        logged = ap (log_with r.shape.imports outcome) reported.1;
      };
      taken = reported.2 first [] fresh;
    }
led has_taken law first r before after stands fresh (Err (refusal.Fault turn kind)) played =
    let reported = (law before r.shape _ _ 0 stands).accepted (calls_in r played.within.count) after played.hooks in
    record {
      after = played.run;
      within = played.within;
      kind_is = played.kind_is;
      turn_is = played.turn_is;
      ordered = in_order r.shape _ _ 0 (calls_in r played.within.count) reported.0 reported.1;
    }
led has_taken law first r before after stands fresh (Err refusal.Spent) played =
    let reported = (law before r.shape _ _ 0 stands).accepted (calls_in r played.spent.count) after played.hooks in
    record { spent = played.spent; ordered = in_order r.shape _ _ 0 (calls_in r played.spent.count) reported.0 reported.1 }
led has_taken law first r before after stands fresh (Err (refusal.Hook number)) played =
    record {
      count = played.count;
      in_budget = played.in_budget;
      first = (law before r.shape _ _ 0 stands).refused (calls_in r played.count) number after played.hooks;
    }
led has_taken law first r before after stands fresh (Err refusal.Memory) played = tt

-- a log has the imports and the outcome that it is made with
abbrev pub IsMadeWith : (imports : ℕ) → Outcome → Result Log ℕ → Type 0
IsMadeWith imports outcome (Ok log) = log ≡ record { imports = imports; events = log.events; outcome = outcome }
IsMadeWith imports outcome (Err number) = Unit {0}

made_with : (imports : ℕ) (outcome : Outcome) (found : Result (List Event) ℕ) → IsMadeWith imports outcome (log_with imports outcome found)
made_with imports outcome (Ok events) = refl
made_with imports outcome (Err number) = tt

pub log_of_events : (r : RecordedRun) (outcome : Outcome) (events : List Event) (log : Log) → events ≡ log.events → IsLog r outcome log
    → IsLog r outcome (record { imports = r.shape.imports; events = events; outcome = outcome })
log_of_events r outcome events log same is =
    let found = events_from r.shape (order_start (table_length r.opened.table)) (log_start r.opened) 0 (calls_in r is.within.count) in
    let parts = subst (IsMadeWith r.shape.imports outcome) is.logged (made_with r.shape.imports outcome found) in
    subst (IsLog r outcome) (parts ∙ ap (λ (events : List Event). record { imports = r.shape.imports; events = events; outcome = outcome }) (sym same)) is
