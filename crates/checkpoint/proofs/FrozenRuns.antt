-- Runs of a freezer, call by call.
use Rattle.std.proofs.Common.{◌≡◌, ℕ, zero, suc, ◌+◌, ◌-◌, ◌^◌, ◌≤◌, ◌<◌, List, [], ◌∷◌, ◌++◌, Option, Some, None, Ok, Err, Bool, true, false, ◌&&◌, cond, min, nat_eq, inl, inr, refl, sym, ap, ◌∙◌, subst, arith}
use Rattle.std.proofs.lemmas.Bool.Decides.{nat_tests}
use Rattle.std.specs.Prelude.{option_and_then, option_map, unwrap_or}
use Rattle.trace_model.specs.declared.events.Event.{Event}
use Rattle.trace_model.specs.Sink.{TookAlso}
use Rattle.trace_model.proofs.SinkLemmas.{took_none, took_both}
use Rattle.hook_names.specs.declared.hooks.HookFault.TheVariants.{Order}
use Rattle.hook_names.specs.Steps.{IsRun}
use Rattle.record_replay_spec.specs.Hooks.{HookCall}
use Rattle.record_replay_spec.specs.Order.{HookedShape, OrderState, ordered_step, number_or, first_disorder}
use Rattle.record_replay_spec.specs.Logs.{LogState, call_events, log_after_call, after_events, events_or, events_from}
use Rattle.recorder.specs.FrozenViews.{FrozenView, ShowsFrozen}
use Rattle.recorder.specs.Recorders.{Recorded, after_freeze, known_now, StandsAt}
use Rattle.recorder.specs.Laws.{StepsAreRecorded}
use Rattle.rest_spec.specs.TopEnters.{is_enter, none_open, enters_at_top, by_enter, log_before, top_enters}
use Rattle.checkpoint.specs.Freezers.{Freezing, IsFreezerStep, IsPassed, enters_top, one_more, recorder_at}
use Rattle.checkpoint.specs.FrozenRuns.{IsFrozenAt, RunsAreFrozen}

-- ---- what is frozen

-- what is frozen after hook calls, by what was frozen before: what the log knows before the call that is looked for, if
-- they report it, and else nothing new
abbrev FrozenAfter : HookedShape → (first : Option FrozenView) → Option LogState → (last : Option FrozenView) → Type 0
FrozenAfter shape first None last = last ≡ first
FrozenAfter shape first (Some log) last =
    (view : FrozenView) × (last ≡ Some view) × ShowsFrozen view log.known × (view.imports ≡ shape.imports)

-- the numbers of calls fit 64 bits
counts : (top : Bool) (calls now later : ℕ) → now ≡ cond top (one_more calls) calls
    → min (now + later) (2 ^ 64 - 1) ≡ min (calls + cond top (suc later) later) (2 ^ 64 - 1)
counts true calls now later is = grind (arith, is)
counts false calls now later is = grind (arith, is)

from_none : (calls later : ℕ) → calls ≡ 0 → min (calls + later) (2 ^ 64 - 1) ≡ min later (2 ^ 64 - 1)
from_none calls later is = grind (arith, is)

few_after : (top : Bool) (calls now : ℕ) → now ≡ cond top (one_more calls) calls → calls ≤ 2 ^ 64 - 1
    → now ≤ 2 ^ 64 - 1
few_after true calls now is few = grind (arith, is, few)
few_after false calls now is few = grind (arith, is, few)

same_number : (calls number : ℕ) → calls + zero ≡ number → nat_eq calls number ≡ true
same_number calls number is = grind (arith, nat_tests, is)

other_number : (calls left number : ℕ) → calls + suc left ≡ number → nat_eq calls number ≡ false
other_number calls left number is = grind (arith, nat_tests, is)

past_number : (calls number : ℕ) → number < calls → nat_eq calls number ≡ false
past_number calls number past = grind (arith, nat_tests, past)

module _ (shape : HookedShape) (log : LogState) (view : FrozenView) (shows : ShowsFrozen view log.known)
    (imports : view.imports ≡ shape.imports) (calls now number : ℕ) (first between last : Option FrozenView) where
  -- a call before which the recorder may be frozen, and others after it
  after_looked : (top : Bool) (left : ℕ) (later : ℕ → Option LogState) → now ≡ cond top (one_more calls) calls
      → between ≡ cond (top && nat_eq calls number) (Some view) first → number < 2 ^ 32
      → ((k : ℕ) → now + k ≡ number → FrozenAfter shape between (later k) last) → (number < now → last ≡ between)
      → calls + left ≡ number → FrozenAfter shape first (by_enter top left (Some log) later) last
  after_looked false left later counted frozen small looked passed is =
      subst (λ f. FrozenAfter shape f (later left) last) frozen (looked left (grind (arith, counted, is)))
  after_looked true zero later counted frozen small looked passed is = (
    view,
    passed (grind (arith, counted, is, small)) ∙ frozen
        ∙ ap (λ here. cond here (Some view) first) (same_number calls number is),
    shows,
    imports,
  )
  after_looked true (suc left) later counted frozen small looked passed is =
      subst (λ f. FrozenAfter shape f (later left) last)
      (frozen ∙ ap (λ here. cond here (Some view) first) (other_number calls left number is))
      (looked left (grind (arith, counted, is, small)))

  -- nothing is frozen any more
  after_passed : (top : Bool) → now ≡ cond top (one_more calls) calls
      → between ≡ cond (top && nat_eq calls number) (Some view) first → number < 2 ^ 32
      → (number < now → last ≡ between) → number < calls → last ≡ first
  after_passed false counted frozen small passed past = passed (grind (arith, counted, past)) ∙ frozen
  after_passed true counted frozen small passed past =
      passed (grind (arith, counted, past, small)) ∙ frozen
      ∙ ap (λ here. cond here (Some view) first) (past_number calls number past)

-- ---- one call

module _ {S : Type 0} (has_taken : S → S → List Event → Type 0) (law : StepsAreRecorded has_taken) (shape : HookedShape) where
  stands_by : (here : Bool) (recorder : Recorded S) (order : OrderState) (log : LogState) (at : ℕ)
      → StandsAt recorder shape order log at → StandsAt (cond here (after_freeze recorder) recorder) shape order log at
  stands_by true recorder order log at stands = (law recorder shape order log at stands).frozen
  stands_by false recorder order log at stands = stands

  frozen_by : (here : Bool) (recorder : Recorded S)
      → (cond here (after_freeze recorder) recorder).frozen
      ≡ cond here (Some (known_now recorder.recording)) recorder.frozen
  frozen_by true recorder = refl
  frozen_by false recorder = refl

  sink_by : (here : Bool) (recorder : Recorded S)
      → (cond here (after_freeze recorder) recorder).recording.sink ≡ recorder.recording.sink
  sink_by true recorder = refl
  sink_by false recorder = refl

  -- a hook call that a freezer accepts: the next states, the events that the sink took, and what is counted and frozen
  record IsTaken (before : Freezing S) (order : OrderState) (log : LogState) (at : ℕ) (call : HookCall)
      (after : Freezing S) : Type 0 where
    next : OrderState
    ordered : ordered_step shape order call ≡ Some next
    stands : StandsAt after.recorder shape next (log_after_call shape log call) (at + 1)
    took : TookAlso has_taken before.recorder.recording.sink after.recorder.recording.sink
        (call_events shape log order.pending call)
    number : after.number ≡ before.number
    counted : after.calls ≡ cond (enters_at_top order call) (one_more before.calls) before.calls
    frozen : after.recorder.frozen
        ≡ cond (enters_at_top order call && nat_eq before.calls before.number)
        (Some (known_now before.recorder.recording)) before.recorder.frozen

  taken : (before : Freezing S) (order : OrderState) (log : LogState) (at : ℕ) (call : HookCall) (after : Freezing S)
      → StandsAt before.recorder shape order log at → IsPassed has_taken before call (Ok tt) after
      → IsTaken before order log at call after
  taken before order log at call after stands passed =
      let here = enters_top before.recorder call && nat_eq before.calls before.number in
      let steps = law (recorder_at before call) shape order log at (stands_by here before.recorder order log at stands) in
      let one = steps.accepted call after.recorder passed.step in
      let top : enters_top before.recorder call ≡ enters_at_top order call =
      ap (λ frames. is_enter call.kind && none_open frames) (law before.recorder shape order log at stands).top in
      record {
        next = one.next;
        ordered = one.ordered;
        stands = one.stands;
        took = subst
            (λ sink. TookAlso has_taken sink after.recorder.recording.sink (call_events shape log order.pending call))
            (sink_by here before.recorder) one.reported;
        number = passed.number;
        counted = passed.calls ∙ ap (λ top. cond top (one_more before.calls) before.calls) top;
        frozen = one.frozen ∙ frozen_by here before.recorder
            ∙ ap (λ top. cond (top && nat_eq before.calls before.number) (Some (known_now before.recorder.recording))
            before.recorder.frozen) top;
      }

  -- ---- all calls

  record AreTaken (before : Freezing S) (order : OrderState) (log : LogState) (at : ℕ) (calls : List HookCall)
      (after : Freezing S) : Type 0 where
    reported : List Event
    events : events_from shape order log at calls ≡ Ok reported
    took : TookAlso has_taken before.recorder.recording.sink after.recorder.recording.sink reported
    counted : after.calls ≡ min (before.calls + top_enters shape order calls) (2 ^ 64 - 1)
    looked : (left : ℕ) → before.calls + left ≡ before.number
        → FrozenAfter shape before.recorder.frozen (log_before shape order log left calls) after.recorder.frozen
    passed : before.number < before.calls → after.recorder.frozen ≡ before.recorder.frozen

  nothing_taken : (before : Freezing S) (order : OrderState) (log : LogState) (at : ℕ) → before.calls ≤ 2 ^ 64 - 1
      → AreTaken before order log at [] before
  nothing_taken before order log at few =
      record {
        reported = [];
        events = refl;
        took = took_none has_taken before.recorder.recording.sink;
        counted = grind (arith, few);
        looked = λ left is. refl;
        passed = λ past. refl;
      }

  -- one call, and others after it
  both_taken : (before between after : Freezing S) (order : OrderState) (log : LogState) (at : ℕ) (call : HookCall)
      (calls : List HookCall) → StandsAt before.recorder shape order log at → before.number < 2 ^ 32
      → (one : IsTaken before order log at call between)
      → AreTaken between one.next (log_after_call shape log call) (at + 1) calls after
      → AreTaken before order log at (call ∷ calls) after
  both_taken before between after order log at call calls stands small one rest =
      let events = call_events shape log order.pending call in
      let now = log_after_call shape log call in
      let steps = law before.recorder shape order log at stands in
      record {
        reported = events ++ rest.reported;
        events = ap (λ o. events_or at o (λ next. after_events events (events_from shape next now (at + 1) calls)))
            one.ordered ∙ ap (after_events events) rest.events;
        took = took_both has_taken before.recorder.recording.sink between.recorder.recording.sink
            after.recorder.recording.sink events rest.reported one.took rest.took;
        counted = rest.counted
            ∙ counts (enters_at_top order call) before.calls between.calls (top_enters shape one.next calls) one.counted
            ∙ ap (λ o. min (before.calls + cond (enters_at_top order call)
            (suc (unwrap_or (option_map (λ next. top_enters shape next calls) o) 0))
            (unwrap_or (option_map (λ next. top_enters shape next calls) o) 0)) (2 ^ 64 - 1)) (sym one.ordered);
        looked = λ left is.
            subst
            (λ o. FrozenAfter shape before.recorder.frozen (by_enter (enters_at_top order call) left (Some log)
            (λ n. option_and_then (λ next. log_before shape next now n calls) o)) after.recorder.frozen)
            (sym one.ordered)
            (after_looked shape log (known_now before.recorder.recording) steps.shows steps.imports before.calls
            between.calls before.number before.recorder.frozen between.recorder.frozen after.recorder.frozen
            (enters_at_top order call) left (λ n. log_before shape one.next now n calls) one.counted one.frozen small
            (λ k here. rest.looked k (here ∙ sym one.number))
            (λ past. rest.passed (subst (λ n. n < between.calls) (sym one.number) past)) is);
        passed = λ past.
            after_passed shape log (known_now before.recorder.recording) steps.shows steps.imports before.calls
            between.calls before.number before.recorder.frozen between.recorder.frozen after.recorder.frozen
            (enters_at_top order call) one.counted one.frozen small
            (λ past. rest.passed (subst (λ n. n < between.calls) (sym one.number) past)) past;
      }

  accepted : (calls : List HookCall) (before : Freezing S) (order : OrderState) (log : LogState) (at : ℕ)
      (after : Freezing S) → StandsAt before.recorder shape order log at → before.calls ≤ 2 ^ 64 - 1
      → before.number < 2 ^ 32 → IsRun (IsFreezerStep has_taken) before calls (Ok tt) after
      → AreTaken before order log at calls after
  accepted [] before order log at after stands few small run =
      subst (AreTaken before order log at []) run.1 (nothing_taken before order log at few)
  accepted (call ∷ calls) before order log at after stands few small (inl (between, inl passed, run)) =
      let one = taken before order log at call between stands passed in
      both_taken before between after order log at call calls stands small one
      (accepted calls between one.next (log_after_call shape log call) (at + 1) after one.stands
      (few_after (enters_at_top order call) before.calls between.calls one.counted few)
      (subst (λ n. n < 2 ^ 32) (sym one.number) small) run)
  accepted (call ∷ calls) before order log at after stands few small (inl (between, inr failed, run)) =
      let e = failed.0 in cc
  accepted (call ∷ calls) before order log at after stands few small (inr run) = let e = run.1 in cc

  refused : (calls : List HookCall) (before : Freezing S) (order : OrderState) (log : LogState) (at number : ℕ)
      (after : Freezing S) → StandsAt before.recorder shape order log at
      → IsRun (IsFreezerStep has_taken) before calls (Err (Order number)) after
      → first_disorder shape order at calls ≡ Some number
  refused [] before order log at number after stands run = let e = run.0 in cc
  refused (call ∷ calls) before order log at number after stands (inl (between, inl passed, run)) =
      let one = taken before order log at call between stands passed in
      ap (λ o. number_or at o (λ next. first_disorder shape next (at + 1) calls)) one.ordered
      ∙ refused calls between one.next (log_after_call shape log call) (at + 1) number after one.stands run
  refused (call ∷ calls) before order log at number after stands (inl (between, inr failed, run)) =
      let e = failed.0 in cc
  refused (call ∷ calls) before order log at number after stands (inr (fault, is, inl passed)) =
      let here = enters_top before.recorder call && nat_eq before.calls before.number in
      let steps = law (recorder_at before call) shape order log at (stands_by here before.recorder order log at stands) in
      let out = steps.refused call number after.recorder passed.step in
      ap (λ o. number_or at o (λ next. first_disorder shape next (at + 1) calls)) out.0 ∙ ap Some (sym out.1)
  refused (call ∷ calls) before order log at number after stands (inr (fault, is, inr failed)) = let e = failed.0 in cc

-- ---- the law

frozen_at : (shape : HookedShape) (first : Option FrozenView) (found : Option LogState) (last : Option FrozenView)
    → first ≡ None → FrozenAfter shape first found last → IsFrozenAt shape found last
frozen_at shape first None last none is = is ∙ none
frozen_at shape first (Some log) last none is = is

pub runs_are_frozen : {S : Type 0} (has_taken : S → S → List Event → Type 0) → StepsAreRecorded has_taken
    → RunsAreFrozen has_taken
runs_are_frozen has_taken law before shape order log at stands new small none =
    record {
      accepted = λ calls after run.
          let all = accepted has_taken law shape calls before order log at after stands (grind (arith, new)) small run in
          record {
            reported = all.reported;
            events = all.events;
            took = all.took;
            counted = all.counted ∙ from_none before.calls (top_enters shape order calls) new;
            frozen = frozen_at shape before.recorder.frozen (log_before shape order log before.number calls)
                after.recorder.frozen none (all.looked before.number (grind (arith, new)));
          };
      refused = λ calls number after run. refused has_taken law shape calls before order log at number after stands run;
    }
