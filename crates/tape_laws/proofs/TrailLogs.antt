-- The hook calls of a trail have events, and the marks of these events agree with the trail's observations.
use Rattle.std.proofs.Common.{◌≡◌, ℕ, List, [], ◌∷◌, ◌++◌, Option, Some, None, true, false, cond, nat_lt, slice_get, sym, ap, ◌∙◌, subst}
use Rattle.std.specs.Prelude.{◌||◌, Ok}
use Rattle.std.proofs.Math.Bool.{or-true}
use Rattle.wasm_syntax.specs.declared.values.Val.{Val}
use Rattle.wasm_syntax.specs.declared.modules.Module.{Module}
use Rattle.wasm_syntax.specs.Index.{imported_funcs, all_globals}
use Rattle.base.specs.declared.outcomes.Outcome.{Outcome}
use Rattle.trace_model.specs.declared.events.Event.{Event}
use Rattle.trace_model.specs.declared.events.Event.TheVariants as events
use Rattle.trace_model.specs.declared.tapes.Origin.TheVariants.{Back}
use Rattle.trace_model.specs.declared.tapes.Next.TheVariants.{Call, Return}
use Rattle.history_spec.specs.declared.entries.Entry.{Entry}
use Rattle.history_spec.specs.declared.entries.Entry.TheVariants.{HostCall, HostReturn, ImportReturn, Enter, Exit}
use Rattle.history_spec.specs.Store.{Store}
use Rattle.record_replay_spec.specs.Known.{Known}
use Rattle.record_replay_spec.specs.Observations.{Observation, Begins, Ends}
use Rattle.record_replay_spec.specs.Windows.{window}
use Rattle.tape_laws.proofs.StepItems.{nothing_read}
use Rattle.tape_laws.specs.RealReads.{IsReadOf}
use Rattle.record_replay_spec.specs.Hooks.{HookCall}
use Rattle.record_replay_spec.specs.Logs.{LogState, grown_events, after_events, events_from}
use Rattle.record_replay_spec.specs.LogTapes.{Mark, Begins as BeginsMark, Ends as EndsMark, InFunction, InCall, is_at_host, mark_if, is_trapped_call, marks_from}
use Rattle.record_replay_spec.specs.Order.{HookedShape, OrderState}
use Rattle.record_replay_spec.specs.ReportedCalls.{Moment, reported_calls, reported_enter, reported_values, reported_over, reported_number}
use Rattle.record_replay_spec.specs.declared.hooks.Hook.TheVariants.{Leave}
use Rattle.tape_laws.proofs.CallOrder as orders
use Rattle.tape_laws.proofs.ModuleFacts.{func_there}
use Rattle.tape_laws.proofs.TrailOrder.{same_waiting, calls_at}
use Rattle.tape_laws.proofs.Trails.{Level, AtFunction, AtCall, with_top_entered, waiting_calls}
use Rattle.tape_laws.proofs.CallOrder.{IsHooked, renumbered, state, callee_may, never_imported}
use Rattle.tape_laws.proofs.Agrees.{Agrees, agrees_activity}
use Rattle.tape_laws.proofs.CallLogs as logs
use Rattle.tape_laws.proofs.CallLogs.{noticing, Logged}
use Rattle.tape_laws.proofs.LogStands.{StandsAt, outside, noticed_stands, outside_stands}
use Rattle.tape_laws.proofs.LogMarks.{log_frames, same_frames, frames_at_host, CallOnTop, not_pre, not_trapped_enter, not_trapped_leave, not_trapped_post, IsSizeReported, noticed_after, ModuleAgrees, AgreesBy, AgreesAt, host_agrees, agrees_host, within_agrees}
use Rattle.tape_laws.proofs.EachMoment.{HoldsFirst, HoldsFor}

-- ---- a trail

module _ (m : Module) (shape : HookedShape) (outcome : Outcome) where
  -- hook calls have events, and the marks of these events agree with the remaining observations
  pub record Reports_by (levels : List Level) (known : Known) (store : Store) (left : List Observation) (st : LogState)
      (calls : List HookCall) : Type 0 where
    pub found : List Event
    pub are : (at : ℕ) → events_from shape (state levels [] known.entries) st at calls ≡ Ok found
    pub agrees : (size : ℕ) → IsSizeReported size known st
        → AgreesAt (imported_funcs m) levels known store left
        (marks_from (imported_funcs m) outcome (log_frames levels) size found)
    pub not_last : CallOnTop levels → (callee : Option ℕ)
        → is_trapped_call outcome (events.Pre callee) found ≡ false

  -- the hook calls of moments have events that agree
  abbrev pub Reports : List Level → Known → Store → List Observation → LogState → List Moment → Type 0
  Reports levels known store left st moments =
      Reports_by levels known store left st (renumbered m (calls_at m levels moments))

  -- the hook calls of the moments after a moment have events that agree
  abbrev pub Rest : List Moment → Type 0
  Rest later = HoldsFor m shape (Some outcome) (StandsAt m) Reports later

  -- the hook calls of a trail's first moment, by its entry, and those after it have events that agree, if those after
  -- it do
  abbrev pub FirstReports : Entry → Type 0
  FirstReports entry = HoldsFirst m shape (Some outcome) (StandsAt m) Reports entry

module _ (m : Module) (shape : HookedShape) (hooked : IsHooked m shape) (outcome : Outcome) where
  abbrev n : ℕ
  n = imported_funcs m

  -- hook calls with events, and those that follow
  pub logged_then : (order : OrderState) (st : LogState) (calls : List HookCall) (first : List Event)
      (next_order : OrderState) (next_st : LogState) (rest : List HookCall) (later : List Event)
      → Logged m shape order st calls first next_order next_st
      → ((at : ℕ) → events_from shape next_order next_st at (renumbered m rest) ≡ Ok later)
      → (at : ℕ) → events_from shape order st at (renumbered m (calls ++ rest)) ≡ Ok (first ++ later)
  logged_then order st calls first next_order next_st rest later logged are at =
      let p = logged.logged at (renumbered m rest) in
      ap (events_from shape order st at) (orders.renumbered_both m calls rest)
      ∙ p.1 ∙ ap (after_events first) (are p.0)

  -- if no moment remains, there is no hook call
  pub nothing_left : (levels : List Level) (entries : ℕ) (st : LogState) (later : List Moment) → later ≡ []
      → (at : ℕ)
      → events_from shape (state levels [] entries) st at
      (renumbered m (reported_calls (all_globals m) (waiting_calls levels) later)) ≡ Ok []
  nothing_left levels entries st later last at =
      ap
      (λ l. events_from shape (state levels [] entries) st at
      (renumbered m (reported_calls (all_globals m) (waiting_calls levels) l))) last

  abbrev marks_at : List Level → ℕ → List Event → List Mark
  marks_at levels size events = marks_from n outcome (log_frames levels) size events

  -- ---- the host calls a function

  pub host_call : (func : ℕ) (args : List Val) → FirstReports m shape outcome (HostCall func args)
  host_call func args later moment levels known store left st h stands rest =
      record {
        found = own;
        are =
            logged_then (state levels [] known.entries) st (reported_enter func args moment.after)
            (events.Enter func args ∷ grown_events st.noticed moment.after)
            (state (AtFunction func ∷ with_top_entered levels) [] known.entries) (noticing moment.after st)
            (calls_at m levels later) r.found
            (logs.enter_logged m shape hooked func args levels known.entries moment.after st h.defined
            (func_there m func h.typed.ty h.typed.has_type) h.typed
            (orders.host_may m shape hooked func levels h.host))
            (subst
            (λ w. (at : ℕ)
            → events_from shape (state (AtFunction func ∷ with_top_entered levels) [] known.entries)
            (noticing moment.after st) at (renumbered m (reported_calls (all_globals m) w later)) ≡ Ok r.found)
            (same_waiting levels) r.are);
        agrees = λ size reported.
            let p = noticed_after n outcome (log_frames (AtFunction func ∷ with_top_entered levels)) size known st
            moment.after r.found reported in
            let q = r.agrees p.now p.size_reported in
            agrees_host n levels known store left (marks_at levels size own) h.host (λ origin.
            subst (λ l. Agrees known (Begins origin ∷ l) (BeginsMark origin ∷ marks_at levels size own))
            (sym h.observed)
            (subst
            (λ marks. Agrees known (Begins origin ∷ Ends (Call func args) ∷ h.later) (BeginsMark origin ∷ marks))
            (sym (marks_are size p.now p.marks))
            (agrees_activity known origin (Call func args) h.later
            (marks_at (AtFunction func ∷ with_top_entered levels) p.now r.found) q.agrees)));
        not_last = λ top callee. not_pre outcome callee (events.Enter func args) (grown_events st.noticed moment.after ++ r.found);
      }
    where
      r : Reports m shape outcome (AtFunction func ∷ with_top_entered levels) known moment.after h.later (noticing moment.after st) later
      r = rest (AtFunction func ∷ with_top_entered levels) known moment.after h.later (noticing moment.after st) h.follows
          (noticed_stands m levels (AtFunction func ∷ with_top_entered levels) known store moment.after st h.keeps stands)

      own : List Event
      own = events.Enter func args ∷ (grown_events st.noticed moment.after ++ r.found)

      marks_are : (size now : ℕ)
          → marks_from n outcome (log_frames (AtFunction func ∷ with_top_entered levels)) size
          (grown_events st.noticed moment.after ++ r.found)
          ≡ marks_at (AtFunction func ∷ with_top_entered levels) now r.found
          → marks_at levels size own
          ≡ EndsMark (Call func args) ∷ marks_at (AtFunction func ∷ with_top_entered levels) now r.found
      marks_are size now e =
          ap
          (λ b. cond b [] (mark_if (is_at_host n (log_frames levels)) (EndsMark (Call func args)))
          ++ marks_from n outcome (InFunction ∷ log_frames levels) size
          (grown_events st.noticed moment.after ++ r.found))
          (not_trapped_enter outcome func args (grown_events st.noticed moment.after ++ r.found))
          ∙ ap
          (λ b. mark_if b (EndsMark (Call func args))
          ++ marks_from n outcome (InFunction ∷ log_frames levels) size
          (grown_events st.noticed moment.after ++ r.found))
          (frames_at_host n levels h.host)
          ∙ ap
          (λ f. EndsMark (Call func args)
          ∷ marks_from n outcome (InFunction ∷ f) size (grown_events st.noticed moment.after ++ r.found))
          (sym (same_frames levels))
          ∙ ap (λ l. EndsMark (Call func args) ∷ l) e

  -- ---- an import returns

  pub import_return : (import : ℕ) (results : List Val) → FirstReports m shape outcome (ImportReturn import results)
  import_return import results later moment levels known store left st h stands rest =
      subst (λ l. Reports m shape outcome l known store left st (record moment { entry = ImportReturn import results } ∷ later))
      (sym h.stands)
      (record {
        found = own;
        are =
            logged_then (state top [] known.entries) st
            (reported_values moment.after results ++ reported_over (cond h.direct (Some import) None) moment.after)
            (events.Post (slice_get results 0) ∷ grown_events st.noticed moment.after) (state h.below [] known.entries)
            (noticing moment.after st) (calls_at m h.below later) r.found
            (logs.over_logged m shape hooked h.direct import h.entered h.args results h.below
            known.entries moment.after st (ap (λ b. b || h.entered) h.imported) h.typed) r.are;
        agrees = λ size reported.
            let p = noticed_after n outcome (log_frames h.below) size known st moment.after r.found reported in
            let q = within_agrees n h.below known moment.after h.later (marks_at h.below p.now r.found) h.within
            (r.agrees p.now p.size_reported) in
            agrees_host n top known store left (marks_at top size own) h.imported (λ origin.
            subst (λ l. Agrees known (Begins origin ∷ l) (BeginsMark origin ∷ marks_at top size own)) (sym h.observed)
            (subst
            (λ marks. Agrees known (Begins origin ∷ Ends (Return (slice_get results 0)) ∷ h.later)
            (BeginsMark origin ∷ marks))
            (sym (marks_are size p.now p.marks))
            (agrees_activity known origin (Return (slice_get results 0)) h.later (marks_at h.below p.now r.found)
            q.agrees)));
        not_last = λ t callee. not_pre outcome callee (events.Post (slice_get results 0)) (grown_events st.noticed moment.after ++ r.found);
      })
    where
      top : List Level
      top = AtCall h.direct import h.entered h.args ∷ h.below

      r : Reports m shape outcome h.below known moment.after h.later (noticing moment.after st) later
      r = rest h.below known moment.after h.later (noticing moment.after st) h.follows
          (noticed_stands m levels h.below known store moment.after st h.keeps stands)

      own : List Event
      own = events.Post (slice_get results 0) ∷ (grown_events st.noticed moment.after ++ r.found)

      marks_are : (size now : ℕ)
          → marks_from n outcome (log_frames h.below) size (grown_events st.noticed moment.after ++ r.found)
          ≡ marks_at h.below now r.found
          → marks_at (AtCall h.direct import h.entered h.args ∷ h.below) size own
          ≡ EndsMark (Return (slice_get results 0)) ∷ marks_at h.below now r.found
      marks_are size now e =
          ap
          (λ b. cond b [] (mark_if (nat_lt import n) (EndsMark (Return (slice_get results 0))))
          ++ marks_from n outcome (log_frames h.below) size (grown_events st.noticed moment.after ++ r.found))
          (not_trapped_post outcome (slice_get results 0) (grown_events st.noticed moment.after ++ r.found))
          ∙ ap
          (λ b. mark_if b (EndsMark (Return (slice_get results 0)))
          ++ marks_from n outcome (log_frames h.below) size (grown_events st.noticed moment.after ++ r.found))
          h.imported
          ∙ ap (λ l. EndsMark (Return (slice_get results 0)) ∷ l) e

  -- ---- the module enters a function that it called

  pub entered : (func : ℕ) → FirstReports m shape outcome (Enter func)
  entered func later moment levels known store left st h stands rest =
      subst (λ l. Reports m shape outcome l known store left st (record moment { entry = Enter func } ∷ later)) (sym h.stands)
      (record {
        found = own;
        are =
            logged_then (state top [] known.entries) st (reported_enter func h.args moment.after)
            (events.Enter func h.args ∷ grown_events st.noticed moment.after) (state inner [] known.entries)
            (noticing moment.after st) (calls_at m top later) r.found
            (logs.enter_logged m shape hooked func h.args top known.entries moment.after st h.defined
            (func_there m func h.typed.ty h.typed.has_type) h.typed (callee_may shape.imports func)) r.are;
        agrees = λ size reported.
            let p = noticed_after n outcome (log_frames inner) size known st moment.after r.found reported in
            let q = r.agrees p.now p.size_reported in
            subst (λ b. AgreesBy b known store left (marks_at top size own)) (sym (never_imported n func h.defined))
            (record {
              agrees = subst (Agrees known left) (sym (marks_are size p.now p.marks)) q.agrees;
              reads = subst (λ s. IsReadOf known (window left) s) h.same q.reads;
            });
        not_last = λ t callee. not_pre outcome callee (events.Enter func h.args) (grown_events st.noticed moment.after ++ r.found);
      })
    where
      top : List Level
      top = AtCall h.direct func false h.args ∷ h.below

      inner : List Level
      inner = AtFunction func ∷ AtCall h.direct func true h.args ∷ h.below

      r : Reports m shape outcome (AtFunction func ∷ AtCall h.direct func true h.args ∷ h.below) known moment.after left
          (noticing moment.after st) later
      r = rest (AtFunction func ∷ AtCall h.direct func true h.args ∷ h.below) known moment.after left
          (noticing moment.after st) h.follows
          (noticed_stands m levels (AtFunction func ∷ AtCall h.direct func true h.args ∷ h.below) known store moment.after st
          (λ at i. ap (λ (s : Store). slice_get s.globals at) h.same) stands)

      own : List Event
      own = events.Enter func h.args ∷ (grown_events st.noticed moment.after ++ r.found)

      marks_are : (size now : ℕ)
          → marks_from n outcome (log_frames (AtFunction func ∷ AtCall h.direct func true h.args ∷ h.below)) size
          (grown_events st.noticed moment.after ++ r.found)
          ≡ marks_at (AtFunction func ∷ AtCall h.direct func true h.args ∷ h.below) now r.found
          → marks_at (AtCall h.direct func false h.args ∷ h.below) size own
          ≡ marks_at (AtFunction func ∷ AtCall h.direct func true h.args ∷ h.below) now r.found
      marks_are size now e =
          ap
          (λ b. cond b [] (mark_if (nat_lt func n) (EndsMark (Call func h.args)))
          ++ marks_from n outcome (InFunction ∷ InCall (Some func) ∷ log_frames h.below) size
          (grown_events st.noticed moment.after ++ r.found))
          (not_trapped_enter outcome func h.args (grown_events st.noticed moment.after ++ r.found))
          ∙ ap
          (λ b. mark_if b (EndsMark (Call func h.args))
          ++ marks_from n outcome (InFunction ∷ InCall (Some func) ∷ log_frames h.below) size
          (grown_events st.noticed moment.after ++ r.found))
          (never_imported n func h.defined)
          ∙ e

  -- ---- returns

  pub host_return : (func : ℕ) (results : List Val) → FirstReports m shape outcome (HostReturn func results)
  host_return func results later moment levels known store left st h stands rest =
      subst (λ l. Reports m shape outcome l known store left st (record moment { entry = HostReturn func results } ∷ later)) (sym h.stands)
      (record {
        found = events.Leave func ∷ r.found;
        are =
            logged_then (state (AtFunction func ∷ h.below) [] known.entries) st (reported_number Leave func moment.after)
            (events.Leave func ∷ []) (state h.below [] known.entries) st (calls_at m h.below later) r.found
            (logs.leave_logged m shape hooked func h.below known.entries moment.after st) r.are;
        agrees = λ size reported.
            subst
            (λ l. ModuleAgrees known store l (marks_at (AtFunction func ∷ h.below) size (events.Leave func ∷ r.found)))
            (sym h.observed)
            (record {
              agrees =
                  subst (Agrees known (Begins Back ∷ h.later)) (sym (marks_are size))
                  (host_agrees n h.below known moment.after h.later (marks_at h.below size r.found) h.host
                  (r.agrees size reported) Back);
              reads = nothing_read known store;
            });
        not_last = λ t callee. absurd t;
      })
    where
      r : Reports m shape outcome h.below known moment.after h.later st later
      r = rest h.below known moment.after h.later st h.follows
          (outside_stands m levels h.below known store moment.after st h.keeps (outside n h.below h.host) stands)

      marks_are : (size : ℕ)
          → marks_at (AtFunction func ∷ h.below) size (events.Leave func ∷ r.found)
          ≡ BeginsMark Back ∷ marks_at h.below size r.found
      marks_are size =
          ap
          (λ b. cond b [] (mark_if (is_at_host n (log_frames h.below)) (BeginsMark Back))
          ++ marks_from n outcome (log_frames h.below) size r.found)
          (not_trapped_leave outcome func r.found)
          ∙ ap (λ b. mark_if b (BeginsMark Back) ++ marks_from n outcome (log_frames h.below) size r.found)
          (frames_at_host n h.below h.host)

  pub exited : (func : ℕ) (results : List Val) → FirstReports m shape outcome (Exit func results)
  exited func results later moment levels known store left st h stands rest =
      subst (λ l. Reports m shape outcome l known store left st (record moment { entry = Exit func results } ∷ later)) (sym h.stands)
      (record {
        found = own;
        are =
            logged_then (state top [] known.entries) st
            (reported_number Leave func moment.after
            ++ (reported_values moment.after results ++ reported_over (cond h.direct (Some func) None) moment.after))
            (events.Leave func ∷ (events.Post (slice_get results 0) ∷ grown_events st.noticed moment.after))
            (state h.below [] known.entries) (noticing moment.after st) (calls_at m h.below later) r.found
            (logs.both_logged m shape hooked (reported_number Leave func moment.after)
            (reported_values moment.after results ++ reported_over (cond h.direct (Some func) None) moment.after)
            (events.Leave func ∷ []) (events.Post (slice_get results 0) ∷ grown_events st.noticed moment.after)
            (state top [] known.entries)
            (state (AtCall h.direct func true h.args ∷ h.below) [] known.entries) (state h.below [] known.entries) st st
            (noticing moment.after st)
            (logs.leave_logged m shape hooked func (AtCall h.direct func true h.args ∷ h.below)
            known.entries moment.after st)
            (logs.over_logged m shape hooked h.direct func true h.args results h.below known.entries
            moment.after st (or-true (nat_lt func n)) h.typed))
            r.are;
        agrees = λ size reported.
            let p = noticed_after n outcome (log_frames h.below) size known st moment.after r.found reported in
            let q = within_agrees n h.below known moment.after left (marks_at h.below p.now r.found) h.within
            (r.agrees p.now p.size_reported) in
            record {
              agrees = subst (Agrees known left) (sym (marks_are size p.now p.marks)) q.agrees;
              reads = subst (λ s. IsReadOf known (window left) s) h.same q.reads;
            };
        not_last = λ t callee. absurd t;
      })
    where
      top : List Level
      top = AtFunction func ∷ AtCall h.direct func true h.args ∷ h.below

      r : Reports m shape outcome h.below known moment.after left (noticing moment.after st) later
      r = rest h.below known moment.after left (noticing moment.after st) h.follows
          (noticed_stands m levels h.below known store moment.after st
          (λ at i. ap (λ (s : Store). slice_get s.globals at) h.same) stands)

      own : List Event
      own =
          events.Leave func ∷ (events.Post (slice_get results 0) ∷ (grown_events st.noticed moment.after ++ r.found))

      marks_are : (size now : ℕ)
          → marks_from n outcome (log_frames h.below) size (grown_events st.noticed moment.after ++ r.found)
          ≡ marks_at h.below now r.found
          → marks_at (AtFunction func ∷ AtCall h.direct func true h.args ∷ h.below) size own
          ≡ marks_at h.below now r.found
      marks_are size now e =
          let more = grown_events st.noticed moment.after ++ r.found in
          ap
          (λ b. cond b [] (mark_if (nat_lt func n) (BeginsMark Back))
          ++ marks_from n outcome (InCall (Some func) ∷ log_frames h.below) size
          (events.Post (slice_get results 0) ∷ more))
          (not_trapped_leave outcome func (events.Post (slice_get results 0) ∷ more))
          ∙ ap
          (λ b. mark_if b (BeginsMark Back)
          ++ marks_from n outcome (InCall (Some func) ∷ log_frames h.below) size
          (events.Post (slice_get results 0) ∷ more))
          (never_imported n func h.defined)
          ∙ ap
          (λ b. cond b [] (mark_if (nat_lt func n) (EndsMark (Return (slice_get results 0))))
          ++ marks_from n outcome (log_frames h.below) size more)
          (not_trapped_post outcome (slice_get results 0) more)
          ∙ ap
          (λ b. mark_if b (EndsMark (Return (slice_get results 0)))
          ++ marks_from n outcome (log_frames h.below) size more)
          (never_imported n func h.defined)
          ∙ e
