-- Runs of a recorder, call by call.
use Rattle.std.proofs.Common.{◌≡◌, ℕ, ◌+◌, List, [], ◌∷◌, ◌++◌, length, Option, Some, None, Ok, Err, false, inl, inr, refl, sym, ap, ◌∙◌, subst}
use Rattle.trace_model.specs.declared.events.Event.{Event}
use Rattle.trace_model.specs.Sink.{TookAlso}
use Rattle.trace_model.proofs.SinkLemmas.{took_none, took_both}
use Rattle.hook_names.specs.declared.hooks.HookFault.TheVariants.{Order}
use Rattle.hook_names.specs.Steps.{IsRun}
use Rattle.history_spec.specs.Instantiation.{table_length}
use Rattle.record_replay_spec.specs.Hooks.{HookCall}
use Rattle.record_replay_spec.specs.Order.{HookedShape, OrderState, ordered_step, number_or, first_disorder, order_start}
use Rattle.record_replay_spec.specs.Logs.{LogState, call_events, log_after_call, after_events, events_or, events_from, log_with, log_start}
use Rattle.hook_order.specs.Orders.{state_of}
use Rattle.hook_order.specs.Shapes.{shape_from}
use Rattle.recorder.specs.Known.{Show}
use Rattle.recorder.specs.Recordings.{order_after}
use Rattle.recorder.specs.Recorders.{Recorded, after_freeze, IsAnswer, IsRecorderStep, StandsAt}
use Rattle.recorder.specs.Laws.{IsNext, StepsAreRecorded, CallsAreRecorded, LogsAreRecorded}
use Rattle.recorder.proofs.Kit.{show_by}

-- a recorder that is frozen stays where it is
frozen_stands : {S : Type 0} (before : Recorded S) (shape : HookedShape) (order : OrderState) (log : LogState)
    (number : ℕ) → StandsAt before shape order log number → StandsAt (after_freeze before) shape order log number
frozen_stands before shape order log number stands =
    record {
      whole = stands.whole;
      counted = stands.counted;
      shaped = stands.shaped;
      ordered = stands.ordered;
      shows =
          show_by stands.shows.byte stands.shows.entry stands.shows.global stands.shows.pages stands.shows.entries
          stands.shows.noticed;
    }

module _ {S : Type 0} (has_taken : S → S → List Event → Type 0) (shape : HookedShape) where
  -- the order after a call, in terms of the recorder's parts
  same_order : (before : Recorded S) (order : OrderState) (log : LogState) (number : ℕ) (call : HookCall)
      → StandsAt before shape order log number
      → ordered_step shape order call ≡ order_after before.recording call
  same_order before order log number call stands =
      ap (λ s. ordered_step s order call) (sym stands.shaped)
      ∙ ap (λ o. ordered_step (shape_from before.recording.order.shape) o call) (sym stands.ordered)

  is_next : (before : Recorded S) (order : OrderState) (log : LogState) (number : ℕ) (call : HookCall)
      (after : Recorded S) → StandsAt before shape order log number → IsAnswer has_taken before call (Ok tt) after
      → IsNext has_taken before shape order log number call after
  is_next before order log number call after stands answer =
      let takes = answer.0 in
      let logged = takes.logged log stands.shows in
      record {
        next = state_of (length after.recording.tables.entries) after.recording.order;
        ordered = same_order before order log number call stands ∙ takes.ordered;
        stands =
            record {
              whole = answer.2;
              counted = answer.1 ∙ ap (λ k. k + 1) stands.counted;
              shaped = ap shape_from takes.shape ∙ stands.shaped;
              ordered = refl;
              shows =
                  subst
                  (λ s. Show after.recording.memory after.recording.tables (log_after_call s log call))
                  stands.shaped logged.0;
            };
        reported =
            subst
            (λ s. TookAlso has_taken before.recording.sink after.recording.sink
            (call_events s log order.pending call))
            stands.shaped
            (subst
            (λ pending. TookAlso has_taken before.recording.sink after.recording.sink
            (call_events (shape_from before.recording.order.shape) log pending call))
            (ap (λ o. o.pending) stands.ordered) logged.1);
        frozen = answer.3;
      }

  accepted : (calls : List HookCall) (before : Recorded S) (order : OrderState) (log : LogState) (number : ℕ)
      (after : Recorded S) → StandsAt before shape order log number
      → IsRun (IsRecorderStep has_taken) before calls (Ok tt) after
      → (reported : List Event) × (events_from shape order log number calls ≡ Ok reported)
      × TookAlso has_taken before.recording.sink after.recording.sink reported
      × (after.broken ≡ false) × (shape_from after.recording.order.shape ≡ shape)
  accepted [] before order log number after stands run =
      subst
      (λ r. (reported : List Event) × (events_from shape order log number [] ≡ Ok reported)
      × TookAlso has_taken before.recording.sink r.recording.sink reported
      × (r.broken ≡ false) × (shape_from r.recording.order.shape ≡ shape))
      run.1 ([], refl, took_none has_taken before.recording.sink, stands.whole, stands.shaped)
  accepted (call ∷ calls) before order log number after stands (inl run) =
      let between = run.0 in
      let one = is_next before order log number call between stands (run.1.0 stands.whole) in
      let rest =
      accepted calls between one.next (log_after_call shape log call) (number + 1) after one.stands run.2 in (
        call_events shape log order.pending call ++ rest.0,
        ap
            (λ o. events_or number o (λ next.
            after_events (call_events shape log order.pending call)
            (events_from shape next (log_after_call shape log call) (number + 1) calls)))
            one.ordered
            ∙ ap (after_events (call_events shape log order.pending call)) rest.1,
        took_both has_taken before.recording.sink between.recording.sink after.recording.sink
            (call_events shape log order.pending call) rest.0 one.reported rest.2,
        rest.3,
        rest.4,
      )
  accepted (call ∷ calls) before order log number after stands (inr run) = let e = run.1 in cc

  refused : (calls : List HookCall) (before : Recorded S) (order : OrderState) (log : LogState) (number at : ℕ)
      (after : Recorded S) → StandsAt before shape order log number
      → IsRun (IsRecorderStep has_taken) before calls (Err (Order at)) after
      → first_disorder shape order number calls ≡ Some at
  refused [] before order log number at after stands run = let e = run.0 in cc
  refused (call ∷ calls) before order log number at after stands (inl run) =
      let between = run.0 in
      let one = is_next before order log number call between stands (run.1.0 stands.whole) in
      ap (λ o. number_or number o (λ next. first_disorder shape next (number + 1) calls)) one.ordered
      ∙ refused calls between one.next (log_after_call shape log call) (number + 1) at after one.stands run.2
  refused (call ∷ calls) before order log number at after stands (inr run) =
      let answer = run.2.0 stands.whole in
      ap (λ o. number_or number o (λ next. first_disorder shape next (number + 1) calls))
      (same_order before order log number call stands ∙ answer.0)
      ∙ ap Some (sym (answer.1 ∙ stands.counted))

pub steps_are_recorded : {S : Type 0} (has_taken : S → S → List Event → Type 0) → StepsAreRecorded has_taken
steps_are_recorded has_taken before shape order log number stands =
    record {
      accepted = λ call after step.
          is_next has_taken shape before order log number call after stands (step.0 stands.whole);
      refused = λ call at after step.
          let answer = step.0 stands.whole in (
            same_order has_taken shape before order log number call stands ∙ answer.0,
            answer.1 ∙ stands.counted,
            answer.2,
          );
      frozen = frozen_stands before shape order log number stands;
      shows =
          record {
            byte = stands.shows.byte;
            entry = stands.shows.entry;
            global = stands.shows.global;
            pages = stands.shows.pages;
            entries = stands.shows.entries;
          };
      imports = ap (λ s. s.imports) stands.shaped;
      top = ap (λ o. o.frames) stands.ordered;
    }

pub calls_are_recorded : {S : Type 0} (has_taken : S → S → List Event → Type 0) → CallsAreRecorded has_taken
calls_are_recorded has_taken before shape order log number stands =
    record {
      accepted = λ calls after run. accepted has_taken shape calls before order log number after stands run;
      refused = λ calls at after run. refused has_taken shape calls before order log number at after stands run;
    }

-- ---- logs

module _ (shape : HookedShape) where
  -- a call out of order leaves no events
  no_events : (calls : List HookCall) (order : OrderState) (log : LogState) (number at : ℕ)
      → first_disorder shape order number calls ≡ Some at → events_from shape order log number calls ≡ Err at
  no_events [] order log number at h = cc
  no_events (call ∷ calls) order log number at h =
      go (λ next later. no_events calls next (log_after_call shape log call) (number + 1) at later)
      (ordered_step shape order call) h
    where
      go : ((next : OrderState) → first_disorder shape next (number + 1) calls ≡ Some at
          → events_from shape next (log_after_call shape log call) (number + 1) calls ≡ Err at)
          → (next : Option OrderState)
          → number_or number next (λ next. first_disorder shape next (number + 1) calls) ≡ Some at
          → events_or number next (λ next.
          after_events (call_events shape log order.pending call)
          (events_from shape next (log_after_call shape log call) (number + 1) calls))
          ≡ Err at
      go rest None h = ap Err (inner h)
        where
          inner : Some number ≡ Some at → number ≡ at
          inner e = cc
      go rest (Some next) h = ap (after_events (call_events shape log order.pending call)) (rest next h)

pub logs_are_recorded : {S : Type 0} (has_taken : S → S → List Event → Type 0) → LogsAreRecorded has_taken
logs_are_recorded has_taken before shape opened stands empty =
    record {
      accepted = λ calls outcome after run.
          let made =
          accepted has_taken shape calls before (order_start (table_length opened.table)) (log_start opened) 0 after
          stands run in (
            record { imports = shape.imports; events = made.0; outcome = outcome },
            ap (log_with shape.imports outcome) made.1,
            made.2 before.recording.sink [] empty,
            ap (λ s. s.imports) (sym made.4),
            refl,
            made.3,
          );
      refused = λ calls outcome at after run.
          let first =
          refused has_taken shape calls before (order_start (table_length opened.table)) (log_start opened) 0 at after
          stands run in (
            ap (log_with shape.imports outcome)
                (no_events shape calls (order_start (table_length opened.table)) (log_start opened) 0 at first),
            first,
          );
    }
