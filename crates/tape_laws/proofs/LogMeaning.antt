-- The events of a log are the differences between what observations find and what was known before, by a search.
use Rattle.std.proofs.Common.{◌≡◌, ℕ, ◌+◌, ◌*◌, List, [], ◌∷◌, ◌++◌, Option, Some, None, Bool, true, false, cond, nat_eq, nat_le, refl, sym, ap, ◌∙◌, subst}
use Rattle.std.specs.Prelude.{IfSome, Ok, unwrap_or}
use Rattle.std.proofs.lemmas.List.{append_assoc}
use Rattle.base.proofs.Options.{first_else}
use Rattle.wasm_syntax.specs.declared.limits.TheConstants.{PAGE_SIZE}
use Rattle.wasm_syntax.specs.declared.values.Val.{Val}
use Rattle.trace_model.specs.declared.events.Event.{Event}
use Rattle.trace_model.specs.declared.events.Event.TheVariants.{Seen}
use Rattle.history_spec.specs.Store.{Store}
use Rattle.record_replay_spec.specs.Observations.{Observation, Reaches, Resizes}
use Rattle.record_replay_spec.specs.Known.{Known, last_some, pages_of, opening_known, known_after, known_after_all}
use Rattle.record_replay_spec.specs.Hooks.{HookCall}
use Rattle.record_replay_spec.specs.HookLaws.{IndicesAreRenumbered, InstrumentedKeepIndices}
use Rattle.record_replay_spec.specs.Laws.{KnownIsKept}
use Rattle.record_replay_spec.specs.Logs.{LogState, call_observations, log_start, unless, sees_size, found_events, observed_events, all_observed_events, log_after, log_after_all, notices_size, own_events, grown_events, call_events, log_after_call, after_events, events_or, events_from}
use Rattle.record_replay_spec.specs.Order.{HookedShape, OrderState, ordered_step, number_or, first_disorder}
use Rattle.tape_laws.specs.Below.{LawsOfSteps, LawsOfRuns}
use Rattle.tape_laws.specs.CallLaws.{OriginalRun, hooked_shape, calls_of_run, HookCallsAreInOrder}
use Rattle.tape_laws.specs.LogLaws.{opened_store}
use Rattle.tape_laws.specs.LogMeaning.{size_found, size_left, size_events, differences, searched_events, all_searched_events, size_after_call, size_after_calls, pending_after, searched_call_events, searched_log_events, log_after_calls, EventsAreDifferences, LogsAreDifferences}
use Rattle.tape_laws.specs.ReportedObservations.{observations_of_calls}
use Rattle.tape_laws.proofs.CallOrder.{state}
use Rattle.tape_laws.proofs.FoundSizes.{FindNoticed, CallsFind, calls_parts, after_calls_both}
use Rattle.tape_laws.proofs.KeptInRuns.{known_after_both}
use Rattle.tape_laws.proofs.KnownAfterCalls.{known_by_search, known_after_calls}
use Rattle.tape_laws.proofs.Ordered.{hooked_run, observed, moments_of, run_trail, calls_in_order}
use Rattle.tape_laws.proofs.PendingValues.{step_pending}
use Rattle.tape_laws.proofs.TrailSizes.{sizes_found}
use Rattle.tape_laws.proofs.WholeLogs.{first_log, opening_stands, log_is}

-- ---- observations

-- the size that was noticed is the one that the observation finds
abbrev FindsSize : (noticed : ℕ) → Observation → Type 0
FindsSize noticed o = IfSome (size_found o) (λ found. noticed ≡ found)

same_size : (known noticed : ℕ) (o : Observation) → FindsSize noticed o
    → cond (sees_size known o) (unless (nat_eq known noticed) Seen) []
    ≡ cond (sees_size known o) (size_events known (size_found o)) []
same_size known noticed (Reaches «end» found) h =
    ap (λ size. cond (sees_size known (Reaches «end» found)) (unless (nat_eq known size) Seen) []) h
same_size known noticed (Resizes found left) h = ap (λ size. unless (nat_eq known size) Seen) h
same_size known noticed o h = refl

module _ (kept : KnownIsKept) (n : ℕ) (opening : Known) where
  one_searched : (seen : List Observation) (st : LogState) (o : Observation) → st.known ≡ known_after_all opening seen
      → FindsSize st.noticed o → observed_events n st o ≡ searched_events n opening seen o
  one_searched seen st o known h =
      ap (λ events. events ++ found_events n st.known o) (same_size st.known.pages st.noticed o h)
      ∙ ap (λ k. differences n k o) (known ∙ known_by_search kept opening seen)

  all_searched : (seen more : List Observation) (st : LogState) → st.known ≡ known_after_all opening seen
      → FindNoticed st more → all_observed_events n st more ≡ all_searched_events n opening seen more
  all_searched seen [] st known h = refl
  all_searched seen (o ∷ more) st known h =
      ap (λ events. events ++ all_observed_events n (log_after st o) more) (one_searched seen st o known h.0)
      ∙ ap (λ events. searched_events n opening seen o ++ events)
      (all_searched (seen ++ o ∷ []) more (log_after st o)
      (ap (λ k. known_after k o) known ∙ sym (known_after_both opening seen (o ∷ []))) h.1)

-- ---- the size of the memory

one_left : (st : LogState) (o : Observation) → FindsSize st.noticed o
    → (log_after st o).noticed ≡ unwrap_or (size_left o) st.noticed
one_left st (Reaches «end» found) h = go (nat_le «end» (st.known.pages * PAGE_SIZE))
  where
    go : (b : Bool) → cond (cond b false true) (cond b st.known.pages found) st.noticed ≡ found
    go true = h
    go false = refl
one_left st (Resizes found left) h = refl
one_left st o h = refl

all_left : (st : LogState) (seen : List Observation) → FindNoticed st seen
    → (log_after_all st seen).noticed ≡ unwrap_or (last_some size_left seen) st.noticed
all_left st [] h = refl
all_left st (o ∷ seen) h =
    all_left (log_after st o) seen h.1 ∙ ap (unwrap_or (last_some size_left seen)) (one_left st o h.0)
    ∙ sym (first_else (last_some size_left seen) (size_left o) st.noticed)

module _ (shape : HookedShape) where
  call_left : (st : LogState) (call : HookCall) → FindNoticed st (call_observations shape call)
      → (log_after_call shape st call).noticed ≡ unwrap_or (size_after_call shape call) st.noticed
  call_left st call h = go (notices_size call.kind)
    where
      now : LogState
      now = log_after_all st (call_observations shape call)

      go : (b : Bool)
          → (cond b (record now { noticed = pages_of call.view.memory }) now).noticed
          ≡ unwrap_or
          (cond b (Some (pages_of call.view.memory)) (last_some size_left (call_observations shape call))) st.noticed
      go true = refl
      go false = all_left st (call_observations shape call) h

  calls_left : (st : LogState) (calls : List HookCall) → CallsFind shape st calls
      → (log_after_calls shape st calls).noticed ≡ size_after_calls shape st.noticed calls
  calls_left st [] h = refl
  calls_left st (call ∷ calls) h =
      calls_left (log_after_call shape st call) calls h.1
      ∙ ap (unwrap_or (last_some (size_after_call shape) calls)) (call_left st call h.0)
      ∙ sym (first_else (last_some (size_after_call shape) calls) (size_after_call shape call) st.noticed)

-- ---- calls

module _ (kept : KnownIsKept) (shape : HookedShape) (opened : Store) where
  abbrev start : LogState
  start = log_start opened

  abbrev after : List HookCall → LogState
  after calls = log_after_calls shape start calls

  call_searched : (before : List HookCall) (call : HookCall) (later : List HookCall)
      → CallsFind shape start (before ++ call ∷ later)
      → all_observed_events shape.imports (after before) (call_observations shape call)
      ≡ all_searched_events shape.imports (opening_known opened) (observations_of_calls shape before)
      (call_observations shape call)
  call_searched before call later h =
      all_searched kept shape.imports (opening_known opened) (observations_of_calls shape before)
      (call_observations shape call) (after before) (known_after_calls shape start before)
      (calls_parts shape start before (call ∷ later) h).1.0

  whole_call_searched : (before : List HookCall) (pending : List Val) (call : HookCall) (later : List HookCall)
      → CallsFind shape start (before ++ call ∷ later)
      → call_events shape (after before) pending call ≡ searched_call_events shape opened before pending call
  whole_call_searched before pending call later h =
      ap (λ events. events ++ with_size (after before).noticed) (call_searched before call later h)
      ∙ ap
      (λ size. all_searched_events shape.imports (opening_known opened) (observations_of_calls shape before)
      (call_observations shape call) ++ with_size size)
      (calls_left shape start before (calls_parts shape start before (call ∷ later) h).0)
    where
      with_size : ℕ → List Event
      with_size size =
          own_events shape.imports pending call.kind call.args call.view
          ++ cond (notices_size call.kind) (grown_events size call.view) []

  -- the events of calls in order after others
  pub log_searched : (before calls : List HookCall) (order : OrderState) (pending : List Val) (at : ℕ)
      → order.pending ≡ pending → CallsFind shape start (before ++ calls) → first_disorder shape order at calls ≡ None
      → events_from shape order (after before) at calls ≡ Ok (searched_log_events shape opened before pending calls)
  log_searched before [] order pending at same h ordered = refl
  log_searched before (call ∷ calls) order pending at same h ordered =
      subst
      (λ values. events_from shape order (after before) at (call ∷ calls)
      ≡ Ok (searched_log_events shape opened before values (call ∷ calls)))
      same
      (go
      (λ next. log_searched (before ++ call ∷ []) calls next (pending_after order.pending call.kind call.args) (at + 1))
      (ordered_step shape order call) refl ordered)
    where
      found : List Event
      found = searched_call_events shape opened before order.pending call

      later : List Event
      later = searched_log_events shape opened (before ++ call ∷ []) (pending_after order.pending call.kind call.args) calls

      go : ((next : OrderState) → next.pending ≡ pending_after order.pending call.kind call.args
          → CallsFind shape start ((before ++ call ∷ []) ++ calls) → first_disorder shape next (at + 1) calls ≡ None
          → events_from shape next (after (before ++ call ∷ [])) (at + 1) calls ≡ Ok later)
          → (o : Option OrderState) → ordered_step shape order call ≡ o
          → number_or at o (λ next. first_disorder shape next (at + 1) calls) ≡ None
          → events_or at o (λ next.
          after_events (call_events shape (after before) order.pending call)
          (events_from shape next (log_after_call shape (after before) call) (at + 1) calls))
          ≡ Ok (found ++ later)
      go rest None e last = cc
      go rest (Some next) e last =
          ap
          (λ events. after_events events
          (events_from shape next (log_after_call shape (after before) call) (at + 1) calls))
          (whole_call_searched before order.pending call calls h)
          ∙ ap (after_events found)
          (subst (λ st. events_from shape next st (at + 1) calls ≡ Ok later)
          (after_calls_both shape start before (call ∷ []))
          (rest next (step_pending shape order next call e)
          (subst (CallsFind shape start) (sym (append_assoc before (call ∷ []) calls)) h) last))

-- ---- runs

module _ (laws : LawsOfSteps) (runs : LawsOfRuns) (indices : InstrumentedKeepIndices) (renumbered : IndicesAreRenumbered)
    (kept : KnownIsKept) where
  calls_find : (run : OriginalRun) (count : ℕ) → CallsFind (hooked_shape run) (first_log run) (calls_of_run run count)
  calls_find run count =
      sizes_found run.m (hooked_shape run) (hooked_run indices renumbered run) _ (moments_of run count) []
      (opening_known run.store) run.store (observed run count) (first_log run) (run_trail laws runs indices run count)
      (opening_stands run)

  pub events_differ : EventsAreDifferences
  events_differ run count before call later split =
      call_searched kept (hooked_shape run) (opened_store run) before call later
      (subst (CallsFind (hooked_shape run) (first_log run)) split (calls_find run count))

  pub logs_differ : LogsAreDifferences
  logs_differ run count outcome =
      log_is run count outcome (searched_log_events (hooked_shape run) (opened_store run) [] [] (calls_of_run run count))
      (log_searched kept (hooked_shape run) (opened_store run) [] (calls_of_run run count)
      (state [] [] (opening_known run.store).entries) [] 0 refl (calls_find run count) (ordered run count))
    where
      ordered : HookCallsAreInOrder
      ordered = calls_in_order laws runs indices renumbered
