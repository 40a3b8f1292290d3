-- The recorded run of an instrumented module, with what it needs.
use Rattle.std.proofs.Common.{◌≡◌, ℕ, ◌≤◌, ◌^◌, length, Some, Ok, sym, ◌∙◌, ap, subst}
use Rattle.wasm_syntax.specs.declared.modules.Module.{Module}
use Rattle.wasm_syntax.specs.Index.{all_globals, imported_funcs}
use Rattle.host_script.specs.declared.scripts.Script.{Script}
use Rattle.host_script.specs.Fits.{Fits}
use Rattle.history_spec.specs.Instantiation.{instantiate}
use Rattle.history_spec.specs.Store.{Store}
use Rattle.type_safety.specs.Stores.{IsStore}
use Rattle.wasm_flat.specs.Meters.{FitsMeter, Weighing}
use Rattle.wasm_flat.specs.Sizes.{IsShort}
use Rattle.record_replay_spec.specs.HookLaws.{InstrumentedKeepIndices}
use Rattle.record_replay_spec.specs.Hooks.{renumbered_view}
use Rattle.record_replay_spec.specs.Instrumented.{instrumented_weights}
use Rattle.host_play.specs.HookedResults.{HasHooksAfter}
use Rattle.tape_laws.specs.CallLaws.{OriginalRun}
use Rattle.hook_insert.specs.EncodingLaws.{InstrumentedMetersFit}
use Rattle.instrumented_module_laws.specs.SizeLaws.{InstrumentedAreShort, InstrumentedHaveStores, InstrumentedImportHooks}
use Rattle.instrumented_module_laws.specs.Links.{InstrumentedAreFitted, InstrumentedAreInstantiated, renumbered_link, script_with_hooks}
use Rattle.instrumented_run_laws.specs.Laws.{instrumented_of}
use Rattle.replay_theorem.specs.RecordLaws.{recorded_run}
use Rattle.replay_theorem.specs.RecordedOriginalLaws.{record_of}
use Rattle.r3_make.specs.Records.{IsOriginal}

-- the run recorded with these inputs is the record of the original's run
pub recorded_same : (run : OriginalRun) (turns : ℕ) (hooked : Module) (script : Script) (store : Store)
    (meter : Weighing) (imports : ℕ)
    → hooked ≡ instrumented_of run → script ≡ script_with_hooks run.m run.script
    → store ≡ renumbered_view (imported_funcs run.m) run.store → meter ≡ Some (instrumented_weights run.m)
    → imports ≡ imported_funcs run.m → recorded_run hooked script store meter imports turns ≡ record_of run turns
recorded_same run turns hooked script store meter imports a b c d e =
    ap (λ hooked. recorded_run hooked script store meter imports turns) a
    ∙ ap (λ script. recorded_run (instrumented_of run) script store meter imports turns) b
    ∙ ap (λ store. recorded_run (instrumented_of run) (script_with_hooks run.m run.script) store meter imports turns) c
    ∙ ap
    (λ meter. recorded_run (instrumented_of run) (script_with_hooks run.m run.script)
    (renumbered_view (imported_funcs run.m) run.store) meter imports turns) d
    ∙ ap
    (λ imports. recorded_run (instrumented_of run) (script_with_hooks run.m run.script)
    (renumbered_view (imported_funcs run.m) run.store) (Some (instrumented_weights run.m)) imports turns) e

-- ---- what holds of the instrumented module of an original

module _ (run : OriginalRun) (is : IsOriginal run) where
  pub hooked_short : InstrumentedAreShort → IsShort (instrumented_of run)
  hooked_short law = law run.m run.digest is.most is.accepted run.core is.words is.within is.few

  pub hooks_after : InstrumentedImportHooks → HasHooksAfter (instrumented_of run) (imported_funcs run.m)
  hooks_after law =
      let both = law run.m run.digest is.accepted in
      record { hooks = both.0; before = both.1 }

  pub hooked_globals : InstrumentedKeepIndices → length (all_globals (instrumented_of run)) ≤ 2 ^ 32
  hooked_globals law = subst (λ globals. length globals ≤ 2 ^ 32) (sym (law run.m run.digest).globals) is.words.globals

  pub meter_fits : InstrumentedMetersFit → FitsMeter (instrumented_of run) (Some (instrumented_weights run.m))
  meter_fits law = law run.m run.digest is.accepted.valid

  pub script_fits : InstrumentedAreFitted → Fits (instrumented_of run) (script_with_hooks run.m run.script)
  script_fits law = law run.m run.digest run.script run.fits

  pub hooked_begins : InstrumentedAreInstantiated
      → instantiate (instrumented_of run) run.supply ≡ Ok (renumbered_view (imported_funcs run.m) run.store)
  hooked_begins law = law run.m run.digest run.supply ∙ ap (renumbered_link (imported_funcs run.m)) run.opens

  pub hooked_store : InstrumentedHaveStores → IsStore run.m run.store
      → IsStore (instrumented_of run) (renumbered_view (imported_funcs run.m) run.store)
  hooked_store law typed = law run.m run.digest run.store typed
