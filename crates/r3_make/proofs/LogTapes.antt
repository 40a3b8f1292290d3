-- The tape of the log of a run is the one that the run needs.
use Rattle.std.proofs.Common.{◌≡◌, ◌⊎◌, inl, inr, ℕ, ◌≤◌, List, Result, Ok, Err, IfOk, IfErr, refl, sym, ◌∙◌, subst}
use Rattle.wasm_syntax.specs.declared.limits.TheConstants.{MAX_TAPE_WEIGHT}
use Rattle.wasm_syntax.specs.Index.{imported_funcs}
use Rattle.base.specs.declared.outcomes.Outcome.{Outcome}
use Rattle.trace_model.specs.declared.events.Event.{Event}
use Rattle.trace_model.specs.declared.events.Log.{Log}
use Rattle.trace_model.specs.declared.tapes.Tape.{Tape}
use Rattle.trace_model.specs.Balance.{IsBalanced}
use Rattle.trace_model.specs.Weight.{tape_weight}
use Rattle.history_spec.specs.declared.entries.FaultKind.{FaultKind}
use Rattle.history_spec.specs.Budget.{IsSpent}
use Rattle.history_spec.specs.Run.{all_one, program_of, start_in_store}
use Rattle.history_spec.specs.Store.{Store}
use Rattle.record_replay_spec.specs.LogTapes.{IsLogTape}
use Rattle.record_replay_spec.specs.Logs.{log_with}
use Rattle.host_play.specs.Results.{IsFault}
use Rattle.host_play.specs.declared.results.PlayFault.{PlayFault}
use Rattle.host_play.specs.declared.results.PlayFault.TheVariants as refusal
use Rattle.tape_laws.specs.CallLaws.{OriginalRun}
use Rattle.tape_laws.specs.LogLaws.{LogsAreBalanced, log_of_run}
use Rattle.instrumented_run_laws.specs.Laws.{original_run}
use Rattle.tape_laws.specs.NeededTape.{IsOneNeededTape}
use Rattle.trace_reduce.specs.declared.reducer.Reducer.{Reducer}
use Rattle.trace_reduce.specs.Reducer.{HasTaken, HasTakenFor, HasTakenSince, imports_of, most_of}
use Rattle.run_recorder.specs.Records.{HasTakenLog, IsLog, IsRecordedInto, RecordedRun, RefusesRecord}
use Rattle.replay_theorem.specs.RecordedOriginalLaws.{IsLogOfRun, ReportsOriginal, record_of}
use Rattle.replay_theorem.proofs.Recorded.{over_at}
use Rattle.accepted_runs.specs.Linked.{IsLinked}
use Rattle.accepted_runs.specs.Runs.{HasNoOutcome, HasOutcome, OfScript, OfTurns, run_fault}
use Rattle.accepted_runs.proofs.OneResult.{linked-starts}
use Rattle.r3_faults.specs.declared.faults.Fault.{Fault}
use Rattle.r3_faults.specs.declared.faults.Fault.TheVariants.{Memory, Script as ScriptFault, Spent}
use Rattle.r3_make.specs.Answers.{IsHeavyLog, IsLightTape}
use Rattle.r3_make.specs.Refusals.{IsUnmade, OfWeight}
use Rattle.r3_make.specs.Tapes.{NeedsTape}

-- the log that events and an outcome make, of a module that imports this number of functions
abbrev pub log_for : (imports : ℕ) (events : List Event) (outcome : Outcome) → Log
log_for imports events outcome = record { imports = imports; events = events; outcome = outcome }

log_is : (imports : ℕ) (outcome : Outcome) (found : Result (List Event) ℕ) (log : Log)
    → log_with imports outcome found ≡ Ok log → log ≡ log_for imports log.events outcome
log_is imports outcome (Ok events) log e = cc e
log_is imports outcome (Err number) log e = absurd (cc e)

-- the reducer that a run is recorded into is made for these numbers, since the one that it began as is
pub recorded_for : (imports most : ℕ) (sink : Reducer) (r : RecordedRun) (result : Result (Reducer × Outcome) PlayFault)
    → imports_of sink ≡ imports → most_of sink ≡ most → IsRecordedInto (HasTakenSince sink) r result
    → IsRecordedInto (HasTakenFor imports most) r result
recorded_for imports most sink r result same_imports same_most h =
    subst (λ n. IsRecordedInto (HasTakenFor n most) r result) same_imports
    (subst (λ m. IsRecordedInto (HasTakenFor (imports_of sink) m) r result) same_most h)

-- a reducer has taken the events of a log, whatever it was made for
pub taken_log : {imports most : ℕ} (r : RecordedRun) (reducer : Reducer) (outcome : Outcome)
    → HasTakenLog (HasTakenFor imports most) r reducer outcome → HasTakenLog HasTaken r reducer outcome
taken_log r reducer outcome h = record { log = h.log; is_log = h.is_log; taken = h.taken.has }

module _ (run : OriginalRun) (turns : ℕ) (reports : ReportsOriginal run turns) where
  abbrev pub linked : IsLinked run.m run.script run.supply run.store
  linked = record { supplied = run.supplied; begins = run.opens }

  -- a log of the record has the record's imports, its own events and the outcome
  pub log_parts : (outcome : Outcome) (log : Log) → IsLog (record_of run turns) outcome log
      → log ≡ log_for (imported_funcs run.m) log.events outcome
  log_parts outcome log is = log_is (imported_funcs run.m) outcome _ log is.logged

  pub log_balanced : LogsAreBalanced → (outcome : Outcome) (log : Log) → IsLog (record_of run turns) outcome log
      → IsBalanced (log_for (imported_funcs run.m) log.events outcome)
  log_balanced balanced outcome log is =
      let of = reports.logs outcome log is in
      subst IsBalanced (log_parts outcome log is) (balanced run of.count outcome of.ends log of.logged)

  same_log : (found : Result Log ℕ) (a b : Log) → found ≡ Ok a → found ≡ Ok b → b ≡ a
  same_log found a b e f = cc (sym f ∙ e)

  -- the outcome of the run that the log is of
  module _ (outcome : Outcome) (log : Log) (is : IsLog (record_of run turns) outcome log) where
    abbrev pub of : IsLogOfRun run turns outcome log
    of = reports.logs outcome log is

    abbrev pub outcome_of_log : HasOutcome run.m run.script turns (original_run run of.count) outcome
    outcome_of_log =
        record {
          initial = start_in_store run.m run.script run.store;
          starts = linked-starts run.m run.script run.supply run.store linked;
          within = record {
            count = of.count;
            is_run = refl;
            over = over_at (original_run run of.count).at outcome of.ends;
            in_budget = of.in_budget;
          };
          ends = of.ends;
        }

    -- the one tape of the log
    module _ (tape : Tape) (is_tape : IsLogTape (log_for (imported_funcs run.m) log.events outcome) tape) where
      pub tape_same : tape ≡ of.shown.tape
      tape_same =
          of.shown.is_one tape
          (subst (λ log. IsLogTape log tape)
          (sym (log_parts outcome log is)
          ∙ same_log (log_of_run run of.count outcome) of.shown.log log of.shown.logged of.logged) is_tape)

      abbrev pub needs : NeedsTape run.m run.script turns run.supply run.store tape
      needs =
          record {
            linked = linked;
            run = original_run run of.count;
            outcome = outcome;
            ends = outcome_of_log;
            is_one = subst
                (λ (tape : Tape). IsOneNeededTape run.m run.script run.store (original_run run of.count).history
                outcome tape.segments) (sym tape_same) of.shown.shown.is_one;
          }

  -- why the run has no outcome
  faulty : (turn : ℕ) (kind : FaultKind)
      → IsFault (program_of run.m run.script) (start_in_store run.m run.script run.store) turns turn kind
      → HasNoOutcome run.m run.script turns (ScriptFault turn kind)
  faulty turn kind is =
      OfScript
      (record {
        turn = turn;
        kind = kind;
        named = refl;
        initial = start_in_store run.m run.script run.store;
        starts = linked-starts run.m run.script run.supply run.store linked;
        faulty = is;
      })

  spent : IsSpent (original_run run) all_one turns → HasNoOutcome run.m run.script turns (Spent turns)
  spent is =
      OfTurns
      (record {
        named = refl;
        initial = start_in_store run.m run.script run.store;
        starts = linked-starts run.m run.script run.supply run.store linked;
        spent = is;
      })

  -- what the fault of the recorded run says of the original's run
  pub refused_as : (Refusal : Fault → Type 0)
      → ((fault : Fault) → HasNoOutcome run.m run.script turns fault → Refusal fault) → (found : PlayFault)
      → RefusesRecord (record_of run turns) found
      → (run_fault turns found ≡ Memory) ⊎ Refusal (run_fault turns found)
  refused_as Refusal of_run (refusal.Fault turn kind) is =
      inr (of_run (ScriptFault turn kind) (faulty turn kind (reports.faults turn kind is)))
  refused_as Refusal of_run refusal.Spent is = inr (of_run (Spent turns) (spent (reports.spends is)))
  refused_as Refusal of_run (refusal.Hook number) is = absurd (reports.ordered number is)
  refused_as Refusal of_run refusal.Memory is = inl refl

  -- why there is no tape
  heavy : (outcome : Outcome) (log : Log) → IsLog (record_of run turns) outcome log → (fault : Fault)
      → IsHeavyLog (log_for (imported_funcs run.m) log.events outcome) fault → IsUnmade run.m run.script turns fault
  heavy outcome log is fault h =
      OfWeight
      (record {
        supply = run.supply;
        store = run.store;
        tape = h.tape;
        needed = needs outcome log is h.tape h.is_tape;
        heavy = h.heavy;
        named = h.named;
      })

  -- ---- what is recorded, with the number of imports that the inputs have

  module _ (imports : ℕ) (same : imports ≡ imported_funcs run.m) (reducer : Reducer) (outcome : Outcome)
      (reported : HasTakenLog HasTaken (record_of run turns) reducer outcome) where
    pub taken : LogsAreBalanced
        → (events : List Event) × HasTaken reducer events × IsBalanced (log_for imports events outcome)
    taken balanced = (
      reported.log.events,
      reported.taken,
      subst (λ n. IsBalanced (log_for n reported.log.events outcome)) (sym same)
          (log_balanced balanced outcome reported.log reported.is_log),
    )

    module _ (result : Result Tape Fault)
        (answers : (events : List Event) → HasTaken reducer events
        → IsLightTape (log_for imports events outcome) result) where
      answered : IsLightTape (log_for (imported_funcs run.m) reported.log.events outcome) result
      answered =
          subst (λ n. IsLightTape (log_for n reported.log.events outcome) result) same
          (answers reported.log.events reported.taken)

      pub needed_answer : IfOk result (λ tape.
          (store : Store) × NeedsTape run.m run.script turns run.supply store tape)
      needed_answer = go result answered
        where
          go : (r : Result Tape Fault) → IsLightTape (log_for (imported_funcs run.m) reported.log.events outcome) r
              → IfOk r (λ tape. (store : Store) × NeedsTape run.m run.script turns run.supply store tape)
          go (Ok tape) is = (run.store, needs outcome reported.log reported.is_log tape is.0)
          go (Err fault) is = tt

      pub light_answer : IfOk result (λ tape. tape_weight tape ≤ MAX_TAPE_WEIGHT)
      light_answer = go result answered
        where
          go : (r : Result Tape Fault) → IsLightTape (log_for (imported_funcs run.m) reported.log.events outcome) r
              → IfOk r (λ tape. tape_weight tape ≤ MAX_TAPE_WEIGHT)
          go (Ok tape) is = is.1
          go (Err fault) is = tt

      pub heavy_answer : IfErr result (λ fault. (fault ≡ Memory) ⊎ IsUnmade run.m run.script turns fault)
      heavy_answer = go result answered
        where
          go : (r : Result Tape Fault) → IsLightTape (log_for (imported_funcs run.m) reported.log.events outcome) r
              → IfErr r (λ fault. (fault ≡ Memory) ⊎ IsUnmade run.m run.script turns fault)
          go (Ok tape) is = tt
          go (Err fault) (inl memory) = inl memory
          go (Err fault) (inr is) = inr (heavy outcome reported.log reported.is_log fault is)
