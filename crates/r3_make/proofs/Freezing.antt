-- The recorded and frozen run of an instrumented module, with what it needs.
use Rattle.std.specs.Prelude.{IsErrAnd}
use Rattle.std.proofs.Common.{◌≡◌, ℕ, ◌<◌, ◌^◌, [], Ok, Err, None, Result, refl, sym, ◌∙◌, ap, subst}
use Rattle.base.specs.declared.outcomes.Outcome.{Outcome}
use Rattle.base.proofs.Results.{same_ok}
use Rattle.wasm_syntax.specs.declared.limits.TheConstants.{MAX_TAPE_WEIGHT}
use Rattle.wasm_syntax.specs.Index.{imported_funcs}
use Rattle.wasm_syntax.specs.Validity.{IsValid}
use Rattle.wasm_syntax.specs.Profile.{IsSupported}
use Rattle.wasm_flat.specs.Bounds.{IsBound}
use Rattle.wasm_flat.specs.FlatCode.{flat_of}
use Rattle.host_script.specs.Fits.{Fits}
use Rattle.host_script.specs.declared.scripts.Supply.{Supply}
use Rattle.history_spec.specs.Instantiation.{instantiate, table_length}
use Rattle.history_spec.specs.Step.{Finished}
use Rattle.history_spec.specs.Store.{Store}
use Rattle.type_safety.specs.Laws.{NewStoresAreTyped, SuppliesMatch}
use Rattle.type_safety.specs.Stores.{IsStore, func_count, global_types}
use Rattle.type_safety.specs.Values.{AreValues}
use Rattle.record_replay_spec.specs.Hooks.{renumbered_view}
use Rattle.record_replay_spec.specs.Order.{order_start, shape_of}
use Rattle.record_replay_spec.specs.Logs.{log_start, log_with}
use Rattle.recorder.specs.Recorders.{Recorded, StandsAt}
use Rattle.trace_reduce.specs.declared.reducer.Reducer.{Reducer}
use Rattle.trace_reduce.specs.Reducer.{HasTakenFor, HasTakenSince}
use Rattle.tape_laws.specs.CallLaws.{OriginalRun}
use Rattle.instrumented_module_laws.specs.Links.{InstrumentedAreFitted, InstrumentedAreInstantiated, InstrumentedAreRunnable}
use Rattle.instrumented_module_laws.specs.SizeLaws.{InstrumentedHaveStores}
use Rattle.instrumented_run_laws.specs.Laws.{instrumented_of}
use Rattle.host_play.specs.HookedResults.{IsPlayedWithHooks}
use Rattle.host_play.specs.declared.script_runs.Play.{Play}
use Rattle.host_play.specs.Starts.{CanBegin}
use Rattle.host_play.specs.declared.results.PlayFault.{PlayFault}
use Rattle.host_play.specs.declared.results.PlayFault.TheVariants as refusal
use Rattle.run_recorder.specs.Records.{RecordedRun, RefusesRecord, calls_in}
use Rattle.run_recorder.proofs.Led.{in_order}
use Rattle.replay_theorem.specs.RecordedOriginalLaws.{record_of}
use Rattle.checkpoint.specs.Freezers.{Freezing, IsFreezerStep}
use Rattle.checkpoint.specs.FrozenRuns.{IsFrozenAt, RunsAreFrozen, RunsFreeze}
use Rattle.rest_spec.specs.TopEnters.{log_before}
use Rattle.r3_make.specs.declared.recorded_runs.HookedInputs.{HookedInputs}
use Rattle.r3_make.specs.Records.{IsRecordable}
use Rattle.r3_make.proofs.Recordings.{hooked_begins, hooked_store, script_fits}
use Rattle.r3_make.specs.declared.frozen_runs.FrozenRun.{FrozenRun}
use Rattle.r3_make.specs.FrozenRuns.{IsFrozenBy, IsFrozenRecord, IsNewFreezer, log_at_start, order_at_start}

-- ---- a freezer before the run

module _ (run : OriginalRun) (inputs : HookedInputs) (supply : Supply) (is : IsRecordable run inputs supply) where
  abbrev opened : Store
  opened = renumbered_view (imported_funcs run.m) run.store

  -- the instrumented module begins with the original's store, its functions renumbered
  pub begins : InstrumentedAreInstantiated → instantiate inputs.hooked supply ≡ Ok opened
  begins law =
      ap (λ m. instantiate m supply) is.inputs_are.hooked ∙ ap (instantiate (instrumented_of run)) is.supply_is
      ∙ hooked_begins run is.original law

  pub opened_typed : InstrumentedHaveStores → SuppliesMatch → NewStoresAreTyped → IsStore (instrumented_of run) opened
  opened_typed law matches typed =
      hooked_store run is.original law
      (typed run.m run.supply run.store run.runnable (matches run.m run.script run.supply run.fits run.supplied) run.opens)

  -- a play of the instrumented module from there can begin
  pub can_begin : InstrumentedAreRunnable → InstrumentedAreFitted → InstrumentedHaveStores → SuppliesMatch
      → NewStoresAreTyped → (play : Play) → play.store ≡ opened → play.code.now ≡ inputs.hooked
      → play.script.now ≡ inputs.script → play.flat ≡ flat_of inputs.hooked → IsBound play.flat
      → CanBegin play play.script.now
  can_begin runnable fitted stores matches typed play opens code script flat bound =
      let can = runnable run.m run.digest is.original.accepted is.original.bytes run.core is.original.words in
      let same = sym (code ∙ is.inputs_are.hooked) in
      record {
        valid = subst IsValid same can.valid;
        supported = subst IsSupported same can.supported;
        flat = flat ∙ ap flat_of (sym code);
        bound = bound;
        store = subst (λ m. IsStore m play.store) same
            (subst (IsStore (instrumented_of run)) (sym opens) (opened_typed stores matches typed));
        fits = subst (λ m. Fits m play.script.now) same
            (subst (Fits (instrumented_of run)) (sym (script ∙ is.inputs_are.script))
            (script_fits run is.original fitted));
      }

  pub starts_typed : InstrumentedAreInstantiated → InstrumentedHaveStores → SuppliesMatch → NewStoresAreTyped
      → (store : Store) → instantiate inputs.hooked supply ≡ Ok store
      → AreValues (func_count inputs.hooked) (global_types inputs.hooked) store.globals
  starts_typed begin law matches typed store opens =
      let same : opened ≡ store =
      same_ok (instantiate inputs.hooked supply) opened store (begins begin) opens in
      subst (λ (s : Store). AreValues (func_count inputs.hooked) (global_types inputs.hooked) s.globals) same
      (subst (λ m. AreValues (func_count m) (global_types m) opened.globals) (sym is.inputs_are.hooked)
      (opened_typed law matches typed).globals)

  pub is_new : (turns number : ℕ) (recorder : Recorded Reducer)
      → HasTakenFor inputs.imports MAX_TAPE_WEIGHT recorder.recording.sink []
      → recorder.frozen ≡ None
      → StandsAt recorder (shape_of inputs.imports inputs.hooked) (order_start (table_length opened.table))
      (log_start opened) 0
      → (freezer : Freezing Reducer) → freezer ≡ record { recorder = recorder; number = number; calls = 0 }
      → IsNewFreezer (record_of run turns) number freezer
  is_new turns number recorder fresh none stands freezer same =
      subst (IsNewFreezer (record_of run turns) number) (sym same)
      (record {
        stands =
            subst (λ m. StandsAt recorder (shape_of (imported_funcs run.m) m) (order_start (table_length opened.table))
            (log_start opened) 0) is.inputs_are.hooked
            (subst (λ n. StandsAt recorder (shape_of n inputs.hooked) (order_start (table_length opened.table))
            (log_start opened) 0) is.inputs_are.imports stands);
        fresh = subst (λ n. HasTakenFor n MAX_TAPE_WEIGHT recorder.recording.sink []) is.inputs_are.imports fresh;
        number_is = refl;
        none_counted = refl;
        none_frozen = none;
      })

-- ---- the freezer after the run

module _ (law : RunsAreFrozen HasTakenSince) (r : RecordedRun) (number : ℕ) (before after : Freezing Reducer)
    (new : IsNewFreezer r number before) (small : number < 2 ^ 32) where
  freezes : RunsFreeze HasTakenSince before r.shape (order_at_start r) (log_at_start r) 0
  freezes =
      law before r.shape (order_at_start r) (log_at_start r) 0 new.stands new.none_counted
      (subst (λ n. n < 2 ^ 32) (sym new.number_is) small) new.none_frozen

  pub frozen_by : (answer : Result Outcome PlayFault)
      → IsPlayedWithHooks (IsFreezerStep HasTakenSince) r.run answer before after → IsFrozenBy r number answer after
  frozen_by (Ok outcome) played = λ found same reducer calls frozen.
      let all = freezes.accepted (calls_in r played.within.count) after played.hooks in
      let took =
      all.took before.recorder.recording.sink [] (record { has = new.fresh.has; imports_are = refl; most_is = refl }) in
      let known = log_before r.shape (order_at_start r) (log_at_start r) number (calls_in r played.within.count) in
      record {
        log = record { imports = r.shape.imports; events = all.reported; outcome = found.outcome };
        is_log = record {
          after = played.run;
          within = played.within;
          ends = subst (λ o. played.run.at ≡ Finished o) (sym same) played.ends;
          logged = ap (log_with r.shape.imports found.outcome) all.events;
        };
        taken = subst (λ sink. HasTakenFor r.shape.imports MAX_TAPE_WEIGHT sink all.reported) (sym reducer)
            (record {
              has = took.has;
              imports_are = took.imports_are ∙ new.fresh.imports_are;
              most_is = took.most_is ∙ new.fresh.most_is;
            });
        counted = calls ∙ all.counted;
        frozen = subst (IsFrozenAt r.shape known) (sym frozen)
            (subst (λ n. IsFrozenAt r.shape
            (log_before r.shape (order_at_start r) (log_at_start r) n (calls_in r played.within.count))
            after.recorder.frozen) new.number_is all.frozen);
      }
  frozen_by (Err (refusal.Fault turn kind)) played =
      let all = freezes.accepted (calls_in r played.within.count) after played.hooks in
      record {
        after = played.run;
        within = played.within;
        kind_is = played.kind_is;
        turn_is = played.turn_is;
        ordered =
            in_order r.shape (order_at_start r) (log_at_start r) 0 (calls_in r played.within.count) all.reported
            all.events;
      }
  frozen_by (Err refusal.Spent) played =
      let all = freezes.accepted (calls_in r played.spent.count) after played.hooks in
      record {
        spent = played.spent;
        ordered =
            in_order r.shape (order_at_start r) (log_at_start r) 0 (calls_in r played.spent.count) all.reported
            all.events;
      }
  frozen_by (Err (refusal.Hook at)) played =
      record {
        count = played.count;
        in_budget = played.in_budget;
        first = freezes.refused (calls_in r played.count) at after played.hooks;
      }
  frozen_by (Err refusal.Memory) played = tt

-- if memory is out, nothing is said of the record
pub memory_refused : (r : RecordedRun) (number : ℕ) (result : Result FrozenRun PlayFault)
    → IsErrAnd result (λ fault. fault ≡ refusal.Memory) → IsFrozenRecord r number result
memory_refused r number (Ok found) is = absurd is
memory_refused r number (Err fault) is = subst (RefusesRecord r) (sym is) tt
