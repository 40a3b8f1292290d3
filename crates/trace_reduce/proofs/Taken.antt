-- What a reducer has taken, call by call, and what it returns.
use Rattle.std.proofs.Common.{◌≡◌, ℕ, ◌+◌, ◌-◌, ◌^◌, min, List, [], ◌∷◌, ◌++◌, Option, Some, Result, Ok, Err, Bool, true, false, not, OnOk, refl, sym, ap, ◌∙◌, subst}
use Rattle.std.proofs.lemmas.List.{append_assoc, append-nil}
use Rattle.base.specs.declared.no_memory.NoMemory.{NoMemory}
use Rattle.base.specs.declared.outcomes.Outcome.{Outcome}
use Rattle.base.specs.declared.outcomes.Outcome.TheVariants.{Ended, Trapped, HostTrapped}
use Rattle.trace_model.specs.declared.balance.Balance.{Balance}
use Rattle.trace_model.specs.declared.events.Event.{Event}
use Rattle.trace_model.specs.declared.events.Log.{Log}
use Rattle.trace_model.specs.declared.tapes.Origin.TheVariants.{Begin}
use Rattle.trace_model.specs.declared.tapes.Tape.{Tape}
use Rattle.trace_model.specs.Balance.{Takes, balance_start, balanced_step, ends_so, unbalanced_from}
use Rattle.trace_model.specs.Sink.{TookAlso}
use Rattle.record_replay_spec.specs.LogTapes.{Mark, Begins, outcome_marks, size_after, AreLogSegments}
use Rattle.trace_reduce.specs.declared.builder.TapeBuilder.{TapeBuilder}
use Rattle.trace_reduce.specs.declared.reducer.Progress.TheVariants.{InOrder, Unbalanced}
use Rattle.trace_reduce.specs.declared.faults.ReducerFault.{ReducerFault}
use Rattle.trace_reduce.specs.declared.reducer.Reducer.{Reducer}
use Rattle.trace_reduce.specs.Builder.{IsAtHost, IsInWindow, end_marks}
use Rattle.trace_reduce.specs.Reducer.{HasReached, HasTaken, HasTakenSince, IsInOrder, IsPart, IsUnbalanced, TakesEvent, Reports, last_marks, most_of}
use Rattle.trace_reduce.specs.Answers.{IsAnswer, IsFirstUnbalanced, IsWeighed}
use Rattle.trace_reduce.proofs.Answers.{answer_in_order}
use Rattle.trace_reduce.proofs.Marks.{all_marks, ends_right, ends_wrong, next_in_order}

-- ---- no event

start_marks : (outcome : Outcome)
    → Begins Begin ∷ outcome_marks outcome
    ≡ last_marks outcome false true [] (Begins Begin ∷ []) ++ outcome_marks outcome
start_marks Ended = refl
start_marks Trapped = refl
start_marks HostTrapped = refl

pub none_taken : (n : ℕ) (balance : Balance) (builder : TapeBuilder) → balance ≡ balance_start
    → IsAtHost builder [] (Begins Begin ∷ []) → IsInOrder n balance builder 0 0 []
none_taken n balance builder same h =
    subst (λ b. IsInOrder n b builder 0 0 []) (sym same)
    (record {
      counted = refl;
      balanced = λ outcome later. refl;
      stand = refl;
      before = [];
      marks = Begins Begin ∷ [];
      built = h;
      goes_on = λ outcome event later. refl;
      ends = start_marks;
    })

-- ---- one more

pub takes_some : {A : Type 0} (may : Bool) (now : A) (after : Option A) → Takes may now after → not may ≡ false
    → after ≡ Some now
takes_some true now after h holds = h
takes_some false now after h holds = cc

pub event_taken : (old : Reducer) (balance : Balance) (count : ℕ) (new : Reducer) (event : Event)
    (answer : Result (Unit {0}) NoMemory)
    → count ≡ min (old.count + 1) (2 ^ 64 - 1)
    → balanced_step old.imports old.balance event ≡ Some balance
    → new.imports ≡ old.imports
    → OnOk answer
    (Reports
    (record {
      imports = old.imports;
      balance = balance;
      builder = old.builder;
      size = old.size;
      count = count;
      progress = old.progress;
    })
    event new)
    → OnOk answer (old.progress ≡ InOrder → TakesEvent old event new)
event_taken old balance count new event (Ok it) counted step imports t =
    λ is taken h.
    subst (λ progress. HasReached progress new (taken ++ event ∷ [])) (sym (t.progress ∙ is))
    (subst (λ n. IsInOrder n new.balance new.builder new.size new.count (taken ++ event ∷ [])) (sym imports)
    (subst (λ b. IsInOrder old.imports b new.builder new.size new.count (taken ++ event ∷ [])) (sym t.balance)
    (subst (λ s. IsInOrder old.imports balance new.builder s new.count (taken ++ event ∷ [])) (sym t.size)
    (subst (λ k. IsInOrder old.imports balance new.builder (size_after old.size event) k (taken ++ event ∷ []))
    (sym (t.count ∙ counted))
    (next_in_order old.imports old.size old.count old.balance old.builder taken event h balance new.builder step
    t.marks)))))
event_taken old balance count new event (Err refused) counted step imports t = tt

-- ---- results

reached : (reducer : Reducer) (taken : List Event) → reducer.progress ≡ InOrder → HasTaken reducer taken
    → IsInOrder reducer.imports reducer.balance reducer.builder reducer.size reducer.count taken
reached reducer taken is h = subst (λ progress. HasReached progress reducer taken) is h

pub unbalanced_answer : (reducer : Reducer) (number : ℕ) (taken : List Event) (outcome : Outcome)
    → reducer.progress ≡ Unbalanced number → HasTaken reducer taken
    → IsFirstUnbalanced (record { imports = reducer.imports; events = taken; outcome = outcome }) number
unbalanced_answer reducer number taken outcome is h =
    let stuck : IsUnbalanced reducer.imports taken number =
    subst (λ progress. HasReached progress reducer taken) is h in
    record {
      place = stuck.place;
      first = ap (unbalanced_from reducer.imports 0 balance_start outcome) (sym (append-nil taken))
          ∙ stuck.first outcome [];
      reported = stuck.reported;
    }

pub wrong_answer : (reducer : Reducer) (taken : List Event) (outcome : Outcome) → reducer.progress ≡ InOrder
    → ends_so reducer.imports reducer.balance outcome ≡ false → HasTaken reducer taken
    → IsFirstUnbalanced (record { imports = reducer.imports; events = taken; outcome = outcome }) reducer.count
wrong_answer reducer taken outcome is wrong h =
    ends_wrong reducer.imports reducer.size reducer.count reducer.balance reducer.builder taken outcome
    (reached reducer taken is h) wrong

pub tape_answer : (reducer : Reducer) (taken : List Event) (outcome : Outcome) (most : ℕ)
    (answer : Result Tape ReducerFault)
    → reducer.progress ≡ InOrder → ends_so reducer.imports reducer.balance outcome ≡ true
    → ((ms : List Mark) → outcome ≡ Trapped → IsInWindow reducer.builder ms
    → IsWeighed (λ (tape : Tape). AreLogSegments ms tape.segments) most answer)
    → ((b ms : List Mark) → IsAtHost reducer.builder b ms
    → IsWeighed (λ (tape : Tape). AreLogSegments (end_marks outcome b ms) tape.segments) most answer)
    → HasTaken reducer taken
    → IsAnswer most (record { imports = reducer.imports; events = taken; outcome = outcome }) answer
tape_answer reducer taken outcome most answer is right window host h =
    let log : Log = record { imports = reducer.imports; events = taken; outcome = outcome } in
    let r = reached reducer taken is h in
    answer_in_order most log answer
    (ends_right reducer.imports reducer.size reducer.count reducer.balance reducer.builder taken outcome r right)
    (subst (λ ms. IsWeighed (λ (tape : Tape). AreLogSegments ms tape.segments) most answer) (sym (r.ends outcome))
    (all_marks reducer.builder r.before r.marks
    (λ ms. IsWeighed (λ (tape : Tape). AreLogSegments ms tape.segments) most answer) reducer.imports reducer.balance
    outcome right r.built window host))

-- ---- the events of a balanced log

pub part_more : (old new : Reducer) (event copy : Event) (answer : Result (Unit {0}) NoMemory) → copy ≡ event
    → OnOk answer (TookAlso HasTakenSince old new (copy ∷ [])) → new.imports ≡ old.imports
    → most_of new ≡ most_of old
    → OnOk answer ((n most : ℕ) (all later : List Event) → IsPart n most all (event ∷ later) old
    → IsPart n most all later new)
part_more old new event copy (Ok it) same took imports limit =
    λ n most all later h.
    record {
      taken = h.taken ++ event ∷ [];
      whole = append_assoc h.taken (event ∷ []) later ∙ h.whole;
      has = subst (λ e. HasTaken new (h.taken ++ e ∷ [])) same
          (took old h.taken (record { has = h.has; imports_are = refl; most_is = refl })).has;
      imports = imports ∙ h.imports;
      limit = limit ∙ h.limit;
    }
part_more old new event copy (Err refused) same took imports limit = tt

pub log_answered : (log : Log) (most : ℕ) (reducer : Reducer) (answer : Result Tape ReducerFault)
    → IsPart log.imports most log.events [] reducer
    → ((taken : List Event) → HasTaken reducer taken
    → IsAnswer (most_of reducer) (record { imports = reducer.imports; events = taken; outcome = log.outcome }) answer)
    → IsAnswer most log answer
log_answered log most reducer answer h gives =
    subst (λ events. IsAnswer most (record { imports = log.imports; events = events; outcome = log.outcome }) answer)
    (sym (append-nil h.taken) ∙ h.whole)
    (subst (λ n. IsAnswer most (record { imports = n; events = h.taken; outcome = log.outcome }) answer) h.imports
    (subst (λ m. IsAnswer m (record { imports = reducer.imports; events = h.taken; outcome = log.outcome }) answer)
    h.limit (gives h.taken h.has)))
