-- The events of a log's file, taken by a reducer.
use Rattle.std.proofs.Common.{◌≡◌, ◌≤◌, ℕ, List, [], ◌∷◌, ◌++◌, length, Result, Ok, Err, refl, ap, sym, ◌∙◌, subst, arith}
use Rattle.std.specs.Prelude.{flat_map}
use Rattle.std.proofs.lemmas.List.{length-append}
use Rattle.base.specs.declared.outcomes.Outcome.{Outcome}
use Rattle.wasm_syntax.specs.declared.limits.TheConstants.{MAX_TRACE_BYTES}
use Rattle.trace_model.specs.declared.events.Event.{Event}
use Rattle.trace_model.specs.declared.events.Log.{Log}
use Rattle.trace_model.specs.Sink.{TookAlso}
use Rattle.trace_model.proofs.SinkLemmas.{took_none, took_both}
use Rattle.trace_bytes.specs.Spelling.{event_bytes, log_bytes, log_header_bytes, outcome_byte}
use Rattle.trace_format.specs.Faults.{IsLogOf}
use Rattle.trace_format.specs.Taken.{BeginsLog, IsLogTaken, TakesAll}
use Rattle.trace_format.specs.declared.files.FormatFault.{FormatFault}
use Rattle.log_tape_laws.proofs.Marks.{some_bytes}
use Rattle.trace_reduce.specs.Reducer.{HasTaken, HasTakenSince, imports_of, most_of}
use Rattle.trace_reduce.specs.Answers.{IsFirstUnbalanced}
use Rattle.trace_reduce.proofs.Places.{exact_place}
use Rattle.trace_reduce.specs.declared.reducer.Reducer.{Reducer}
use Rattle.r3_faults.specs.declared.faults.Fault.{Fault}
use Rattle.r3_faults.specs.declared.faults.Fault.TheVariants.{Unbalanced}
use Rattle.r3_reduce.specs.TapeFiles.{HasTakenLog, IsTaken, IsUnbalanced, TakesNext}
use Rattle.r3_reduce.specs.declared.reducer_sink.ReducerSink.{ReducerSink}

-- the result for a header
abbrev pub reported : List ℕ → ℕ → Result (List ℕ × ℕ) FormatFault
reported digest imports = Ok (digest, imports)

pub ok_pair : (a b : List ℕ) (m n : ℕ) → reported a m ≡ reported b n → (a ≡ b) × (m ≡ n)
ok_pair a b m n same = (ap first same, ap second same) where
  first : Result (List ℕ × ℕ) FormatFault → List ℕ
  first (Ok header) = header.0
  first (Err fault) = a

  second : Result (List ℕ × ℕ) FormatFault → ℕ
  second (Ok header) = header.1
  second (Err fault) = m

abbrev takes : ReducerSink → Event → ReducerSink → Type 0
takes before event now = TakesNext before.reducer event now.reducer

all_taken : (before now : ReducerSink) (events : List Event) → TakesAll takes before events now
    → TookAlso HasTakenSince before.reducer now.reducer events
all_taken before now [] same =
    subst (λ (s : ReducerSink). TookAlso HasTakenSince before.reducer s.reducer []) same
    (took_none HasTakenSince before.reducer)
all_taken before now (event ∷ later) all =
    took_both HasTakenSince before.reducer all.0.reducer now.reducer (event ∷ []) later all.1
    (all_taken all.0 now later all.2)

-- ---- a log has no more events than the bytes that encode it

events_within : (events : List Event) → length events ≤ length (flat_map event_bytes events)
events_within [] = omega arith
events_within (event ∷ later) =
    omega (
      arith,
      length-append (event_bytes event) (flat_map event_bytes later),
      some_bytes event,
      events_within later,
    )

log_within : (version : ℕ) (digest : List ℕ) (log : Log) → length log.events ≤ length (log_bytes version digest log)
unfolding log_bytes
log_within version digest log =
    let events = flat_map event_bytes log.events in
    let last = outcome_byte log.outcome ∷ [] in
    omega (
      arith,
      length-append (log_header_bytes version digest log.imports) (events ++ last),
      length-append events last,
      events_within log.events,
    )

few_events : (bytes digest : List ℕ) (log : Log) → IsLogOf bytes digest log → length bytes ≤ MAX_TRACE_BYTES
    → length log.events ≤ MAX_TRACE_BYTES
few_events bytes digest log is small =
    omega (arith, small, ap length is.1.spelled, log_within is.0 digest log)

-- ---- the log of a file

-- a log that the bytes encode begins with its header
log_begins : (bytes digest : List ℕ) (log : Log) → IsLogOf bytes digest log → BeginsLog bytes digest log.imports
unfolding log_bytes
log_begins bytes digest log is = record {
  version = is.0;
  is_version = is.1.is_version;
  is_digest = is.1.is_digest;
  few = is.1.imports;
  rest = _;
  begins = is.1.spelled;
}

pub log_taken : (bytes digest : List ℕ) (imports : ℕ) (before now : ReducerSink) (outcome : Outcome)
    → length bytes ≤ MAX_TRACE_BYTES
    → ((other : List ℕ) (number : ℕ) → BeginsLog bytes other number → (digest ≡ other) × (imports ≡ number))
    → HasTaken before.reducer [] → imports_of before.reducer ≡ imports → most_of before.reducer ≡ MAX_TRACE_BYTES
    → IsLogTaken takes bytes before now outcome → IsTaken bytes digest now.reducer outcome
log_taken bytes digest imports before now outcome small header has same most is =
    let one = header is.digest is.log.imports (log_begins bytes is.digest is.log is.spelled) in
    let all =
    all_taken before now is.log.events is.taken.all before.reducer [] (record { has = has; imports_are = refl; most_is = refl }) in
    record {
      log = is.log;
      read = subst (λ d. IsLogOf bytes d is.log) (sym one.0) is.spelled;
      has = record {
        taken = all.has;
        few = few_events bytes is.digest is.log is.spelled small;
        imports = all.imports_are ∙ same ∙ one.1;
        most = all.most_is ∙ most;
        ended = is.taken.ended;
      };
    }

-- the number that a reducer reports for an event of such a log is the event's own
pub unbalanced_log : (reducer : Reducer) (outcome : Outcome) (log : Log) (event : ℕ) (fault : Fault)
    → fault ≡ Unbalanced event → HasTakenLog reducer outcome log
    → IsFirstUnbalanced (record { imports = imports_of reducer; events = log.events; outcome = outcome }) event
    → IsUnbalanced log fault
unbalanced_log reducer outcome log event fault named h first =
    record {
      event = event;
      first =
          exact_place log event (omega (arith, h.few))
          (subst (λ n. IsFirstUnbalanced (record { imports = n; events = log.events; outcome = log.outcome }) event) h.imports
          (subst (λ ends. IsFirstUnbalanced (record { imports = imports_of reducer; events = log.events; outcome = ends }) event)
          h.ended first));
      named = named;
    }
