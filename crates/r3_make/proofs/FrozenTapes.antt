-- What a recorded and frozen run of an instrumented module gives for the original's run.
use Rattle.std.proofs.Common.{◌≡◌, ◌⊎◌, inl, inr, ℕ, ◌-◌, ◌^◌, ◌≤◌, ◌<◌, List, [], Option, Some, None, Result, Ok, Err, IfErr, IfOk, min, refl, sym, ◌∙◌, ap, subst, arith}
use Rattle.std.specs.Prelude.{IfNone}
use Rattle.wasm_syntax.specs.declared.modules.Module.{Module}
use Rattle.wasm_syntax.specs.Index.{imported_funcs}
use Rattle.host_script.specs.declared.scripts.Script.{Script}
use Rattle.trace_model.specs.declared.events.Event.{Event}
use Rattle.trace_model.specs.declared.events.Log.{Log}
use Rattle.trace_model.specs.declared.tapes.Tape.{Tape}
use Rattle.trace_model.specs.Balance.{IsBalanced}
use Rattle.trace_reduce.specs.Reducer.{HasTaken}
use Rattle.history_spec.specs.declared.entries.Entry.{Entry}
use Rattle.history_spec.specs.declared.entries.FaultKind.{FaultKind}
use Rattle.history_spec.specs.Budget.{IsSpent}
use Rattle.history_spec.specs.Run.{all_one, program_of, start_in_store, run_from}
use Rattle.history_spec.specs.Store.{Store}
use Rattle.record_replay_spec.specs.Known.{Known, opening_known}
use Rattle.record_replay_spec.specs.Logs.{LogState, log_start}
use Rattle.record_replay_spec.specs.Observations.{run_observations}
use Rattle.recorder.specs.FrozenViews.{FrozenView, ShowsFrozen}
use Rattle.tape_laws.specs.CallLaws.{OriginalRun, hooked_shape, calls_of_run}
use Rattle.record_replay_spec.specs.LogTapes.{IsLogTape}
use Rattle.tape_laws.specs.LogLaws.{LogsAreBalanced, log_of_run}
use Rattle.tape_laws.specs.NeededTape.{IsOneNeededTape}
use Rattle.replay_theorem.specs.RecordedRunLaws.{WeightsMeanMeters}
use Rattle.instrumented_run_laws.specs.Laws.{IsFollowed, original_run}
use Rattle.run_recorder.specs.Records.{HasTakenLog, calls_in}
use Rattle.replay_theorem.specs.RecordedOriginalLaws.{IsLogOfRun, ReportsOriginal, record_of}
use Rattle.replay_theorem.proofs.Originals.{calls_alike}
use Rattle.rest_spec.specs.AtCalls.{AtCall, at_call}
use Rattle.rest_spec.specs.KnownBefore.{known_before}
use Rattle.rest_spec.specs.Rests.{rest_of, calls_in as calls_of_history}
use Rattle.rest_spec.specs.TopEnters.{log_before, top_enters}
use Rattle.rest_laws.specs.Calls.{AtStart, InRun, IsCallOfRun, CallsAreOfRuns}
use Rattle.rest_laws.specs.Laws.{IsSameKnown, KnownBeforeIsKept, RestsAreThere}
use Rattle.rest_laws.specs.TopEnters.{LogsKnowWhatIsKnown, TopCallsAreReported, first_order, hooked_store, renumbered_known}
use Rattle.checkpoint.specs.FrozenRuns.{IsFrozenAt}
use Rattle.accepted_runs.specs.Runs.{HasOutcome, OfScript, OfTurns}
use Rattle.host_play.specs.Results.{IsFault}
use Rattle.accepted_runs.proofs.OneResult.{linked-starts}
use Rattle.r3_faults.specs.declared.faults.Fault.{Fault}
use Rattle.r3_faults.specs.declared.faults.Fault.TheVariants.{Memory, NoCall, Script as ScriptFault, Spent}
use Rattle.r3_make.specs.Answers.{IsLightTape}
use Rattle.r3_make.specs.Tapes.{NeedsTape}
use Rattle.r3_make.proofs.LogTapes.{log_for, needs, outcome_of_log, taken}
use Rattle.r3_make.specs.declared.frozen_runs.FrozenRun.{FrozenRun}
use Rattle.r3_make.specs.FrozenRuns.{HasFrozenLog}
use Rattle.r3_make.specs.FrozenTapes.{IsFrozenTape}
use Rattle.r3_make.specs.RestRefusals.{HasNoRest, OfCalls, OfRun, OfWeight}
use Rattle.r3_make.specs.TapesAtCalls.{IsTapeAt}

-- ---- what is known before a call that is there

-- the search of all observations finds what is known
found_known : (found : Option Known) (at : AtCall) → IsSameKnown found (Some at) → (known : Known) × (found ≡ Some known)
found_known None at same = absurd same
found_known (Some known) at same = (known, refl)

module _ (of_runs : CallsAreOfRuns) (kept : KnownBeforeIsKept) (m : Module) (script : Script) (store : Store)
    (count number : ℕ) (rest : List Entry)
    (is : rest_of (run_from (program_of m script) all_one (start_in_store m script store) count).history number 0
    ≡ Some rest) where
  abbrev observed : Option Known
  observed = known_before number 0 (opening_known store) []
      (run_observations (program_of m script) (start_in_store m script store) count)

  pub known_there : (known : Known) × (observed ≡ Some known)
  known_there = by (of_runs m script store count number rest is)
    where
      same : IsSameKnown observed (at_call number 0 (opening_known store)
          (run_observations (program_of m script) (start_in_store m script store) count))
      same = kept (opening_known store) (run_observations (program_of m script) (start_in_store m script store) count) number

      by : IsCallOfRun (program_of m script) (start_in_store m script store) (opening_known store) count number rest
          → (known : Known) × (observed ≡ Some known)
      by (AtStart _ seen) = found_known observed _ (subst (IsSameKnown observed) seen same)
      by (InRun _ _ _ _ _ _ _ _ _ seen) = found_known observed _ (subst (IsSameKnown observed) seen same)

-- ---- numbers of calls

few_calls : (number calls counted : ℕ) → number < 2 ^ 32 → counted ≡ min calls (2 ^ 64 - 1) → counted ≤ number
    → calls ≤ number
few_calls number calls counted small is few = grind (arith, small, is, few)

more_calls : (number calls counted : ℕ) → counted ≡ min calls (2 ^ 64 - 1) → number < counted → number < calls
more_calls number calls counted is more = grind (arith, is, more)

not_more : (number counted : ℕ) → (number < counted → ⊥) → counted ≤ number
not_more number counted not = grind (arith, not)

module _ (run : OriginalRun) (turns : ℕ) (reports : ReportsOriginal run turns) (follows : IsFollowed run)
    (meters : WeightsMeanMeters) (number : ℕ) (found : FrozenRun) (has : HasFrozenLog (record_of run turns) number found) where
  abbrev of : IsLogOfRun run turns found.outcome has.log
  of = reports.logs found.outcome has.log has.is_log

  -- the recorded hook calls are those of the original's run
  recorded_calls : calls_in (record_of run turns) has.is_log.within.count ≡ calls_of_run run of.count
  recorded_calls = calls_alike meters run turns follows found.outcome has.log has.is_log of

  abbrev calls : ℕ
  calls = calls_of_history (original_run run of.count).history 0

  counted : TopCallsAreReported → found.calls ≡ min calls (2 ^ 64 - 1)
  counted reported =
      has.counted
      ∙ ap (λ calls. min (top_enters (hooked_shape run) (first_order run) calls) (2 ^ 64 - 1)) recorded_calls
      ∙ ap (λ n. min n (2 ^ 64 - 1)) (reported run of.count)

  -- what the log knows before the call, by the hook calls of the original's run
  frozen : IsFrozenAt (hooked_shape run)
      (log_before (hooked_shape run) (first_order run) (log_start (hooked_store run)) number (calls_of_run run of.count))
      found.frozen
  frozen =
      subst
      (λ calls. IsFrozenAt (hooked_shape run)
      (log_before (hooked_shape run) (first_order run) (log_start (hooked_store run)) number calls) found.frozen)
      recorded_calls has.frozen

  reported_to : HasTakenLog HasTaken (record_of run turns) found.reducer found.outcome
  reported_to = record { log = has.log; is_log = has.is_log; taken = has.taken.has }

  -- ---- too few calls

  abbrev ends : HasOutcome run.m run.script turns (original_run run of.count) found.outcome
  ends = outcome_of_log run turns reports found.outcome has.log has.is_log

  few : TopCallsAreReported → number < 2 ^ 32 → (fault : Fault) → found.calls ≤ number
      → fault ≡ NoCall number found.calls → HasNoRest run.m run.script turns number fault
  few reported small fault less named =
      OfCalls
      (record {
        run = original_run run of.count;
        outcome = found.outcome;
        ends = ends;
        few = few_calls number calls found.calls small (counted reported) less;
        named = named ∙ ap (NoCall number) (counted reported);
      })

  -- the run needs the tape of the log
  abbrev needed : (tape : Tape) → IsLogTape (log_for (imported_funcs run.m) has.log.events found.outcome) tape
      → NeedsTape run.m run.script turns run.supply run.store tape
  needed = needs run turns reports found.outcome has.log has.is_log

  -- ---- a call that is there

  module _ (imports : ℕ) (same : imports ≡ imported_funcs run.m) where
    -- the tape of the log is that of the log for the inputs' number of imports
    light_for : (result : Result Tape Fault) → IsLightTape (log_for imports has.log.events found.outcome) result
        → IsLightTape (log_for (imported_funcs run.m) has.log.events found.outcome) result
    light_for result = subst (λ n. IsLightTape (log_for n has.log.events found.outcome) result) same

    pub balanced : LogsAreBalanced
        → (events : List Event) × HasTaken found.reducer events × IsBalanced (log_for imports events found.outcome)
    balanced law = taken run turns reports imports same found.reducer found.outcome reported_to law

    module _ (of_runs : CallsAreOfRuns) (kept : KnownBeforeIsKept) (rests : RestsAreThere)
        (reported : TopCallsAreReported) (knows : LogsKnowWhatIsKnown) where
      -- the history has a rest from the call on
      rest_at : number < found.calls
          → (rest : List Entry) × (rest_of (original_run run of.count).history number 0 ≡ Some rest)
      rest_at more =
          (rests (original_run run of.count).history number 0).there
          (more_calls number calls found.calls (counted reported) more)

      -- something is known before the call
      known_at : number < found.calls
          → (known : Known)
          × (known_before number 0 (opening_known run.store) []
          (run_observations (program_of run.m run.script) (start_in_store run.m run.script run.store) of.count)
          ≡ Some known)
      known_at more =
          let rest = rest_at more in
          known_there of_runs kept run.m run.script run.store of.count number rest.0 rest.1

      -- what is frozen shows what is known
      shown : (known : Known)
          → known_before number 0 (opening_known run.store) []
          (run_observations (program_of run.m run.script) (start_in_store run.m run.script run.store) of.count)
          ≡ Some known
          → (view : FrozenView) × (found.frozen ≡ Some view)
          × ShowsFrozen view (renumbered_known (imported_funcs run.m) known) × (view.imports ≡ imported_funcs run.m)
      shown known is =
          let log = knows run of.count number known is in
          let seen = subst (λ state. IsFrozenAt (hooked_shape run) state found.frozen) log.is_log frozen in
          (seen.0, seen.1, subst (ShowsFrozen seen.0) log.knows seen.2, seen.3)

      -- without anything frozen there are too few calls
      pub none_frozen : IfNone found.frozen (found.calls ≤ number)
      none_frozen = go found.frozen refl
        where
          go : (o : Option FrozenView) → found.frozen ≡ o → IfNone o (found.calls ≤ number)
          go None e = not_more number found.calls (λ more.
              let known = known_at more in
              let seen = shown known.0 known.1 in
              no_view seen.0 (sym e ∙ seen.1))
            where
              no_view : (view : FrozenView) → None ≡ Some view → ⊥
              no_view view e = cc e
          go (Some view) e = tt

      module _ (result : Result (Tape × FrozenView) Fault)
          (answers : (events : List Event) → HasTaken found.reducer events
          → IsTapeAt found (log_for imports events found.outcome) number result) where
        answered : IsTapeAt found (log_for imports has.log.events found.outcome) number result
        answered = answers has.log.events has.taken.has

        pub frozen_answer : IfOk result (λ made. IsFrozenTape run turns number made.0 made.1)
        frozen_answer = go result answered
          where
            same_view : (a b : FrozenView) → found.frozen ≡ Some a → found.frozen ≡ Some b → a ≡ b
            same_view a b e f = cc (sym e ∙ f)

            go : (r : Result (Tape × FrozenView) Fault)
                → IsTapeAt found (log_for imports has.log.events found.outcome) number r
                → IfOk r (λ made. IsFrozenTape run turns number made.0 made.1)
            go (Ok made) (more, light, is) =
                let tape = light_for (Ok made.0) light in
                let rest = rest_at more in
                let known = known_at more in
                let seen = shown known.0 known.1 in
                let view = same_view seen.0 made.1 seen.1 is in
                record {
                  needed = needed made.0 tape.0;
                  light = tape.1;
                  rest = rest.0;
                  is_rest = rest.1;
                  known = known.0;
                  is_known = known.1;
                  shows = subst
                      (λ view. ShowsFrozen view (renumbered_known (imported_funcs run.m) known.0)) view seen.2;
                  imports = subst (λ (view : FrozenView). view.imports ≡ imported_funcs run.m) view seen.3;
                }
            go (Err fault) is = tt

        pub no_answer : number < 2 ^ 32
            → IfErr result (λ fault. (fault ≡ Memory) ⊎ HasNoRest run.m run.script turns number fault)
        no_answer small = go result answered
          where
            heavy : (fault : Fault) → number < found.calls
                → IsLightTape (log_for (imported_funcs run.m) has.log.events found.outcome) (Err fault)
                → (fault ≡ Memory) ⊎ HasNoRest run.m run.script turns number fault
            heavy fault more (inl memory) = inl memory
            heavy fault more (inr h) =
                inr
                (OfWeight
                (record {
                  heavy = record {
                    supply = run.supply;
                    store = run.store;
                    tape = h.tape;
                    needed = needed h.tape h.is_tape;
                    heavy = h.heavy;
                    named = h.named;
                  };
                  call = more_calls number calls found.calls (counted reported) more;
                }))

            go : (r : Result (Tape × FrozenView) Fault)
                → IsTapeAt found (log_for imports has.log.events found.outcome) number r
                → IfErr r (λ fault. (fault ≡ Memory) ⊎ HasNoRest run.m run.script turns number fault)
            go (Ok made) is = tt
            go (Err fault) (inl (less, named)) = inr (few reported small fault less named)
            go (Err fault) (inr (more, light)) = heavy fault more (light_for (Err fault) light)
