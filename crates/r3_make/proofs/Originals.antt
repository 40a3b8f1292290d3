-- A module that can be recorded, its instrumented module, and its run in the form of the laws on instrumented modules.
use Rattle.std.proofs.Common.{◌≡◌, ℕ, ◌≤◌, List, length, Result, Ok, Err, refl, sym, ◌∙◌, ap, subst, arith}
use Rattle.base.proofs.Results.{same_ok}
use Rattle.wasm_syntax.specs.declared.limits.TheConstants.{MAX_FILE_BYTES}
use Rattle.wasm_syntax.specs.declared.modules.Module.{Module}
use Rattle.wasm_syntax.specs.Encoding.Forms.{IsCoreModule}
use Rattle.wasm_syntax.specs.Index.{imported_funcs}
use Rattle.host_script.specs.declared.scripts.LinkFault.{LinkFault}
use Rattle.host_script.specs.declared.scripts.Script.{Script}
use Rattle.host_script.specs.declared.scripts.Supply.{Supply}
use Rattle.host_script.specs.Fits.{Fits}
use Rattle.host_script.specs.Supply.{supply_of}
use Rattle.history_spec.specs.Instantiation.{instantiate}
use Rattle.history_spec.specs.Run.{run_start, start_or_fault, start_with_supply}
use Rattle.history_spec.specs.Store.{Store}
use Rattle.type_safety.specs.Supplies.{IsRunnable}
use Rattle.wasm_flat.specs.Sizes.{IsShort}
use Rattle.replay_encoding_laws.specs.Premises.{IsFromBytes}
use Rattle.record_replay_spec.specs.Hooks.{renumbered_view}
use Rattle.record_replay_spec.specs.Instrumented.{instrumented_module}
use Rattle.tape_laws.specs.CallLaws.{OriginalRun}
use Rattle.instrumented_module_laws.specs.Laws.{HasWords}
use Rattle.instrumented_module_laws.specs.Links.{InstrumentedAreFitted, InstrumentedAreInstantiated, InstrumentedAreRunnable, InstrumentedAreSupplied, renumbered_link}
use Rattle.instrumented_module_laws.specs.SizeLaws.{EncodedHaveWords, InstrumentedAreShort}
use Rattle.accepted_runs.specs.Linked.{IsLinked}
use Rattle.accepted_runs.specs.Runnable.{AreTaken, CanRun}
use Rattle.accepted_runs.specs.Unlinked.{IsUnlinkedFor}
use Rattle.r3_faults.specs.declared.faults.Fault.{Fault}
use Rattle.r3_make.specs.declared.recorded_runs.HookedInputs.{HookedInputs}
use Rattle.r3_make.specs.Records.{AreHookedInputs, IsOriginal, IsOriginalModule, IsRecordable}

-- ---- the module

module _ (m : Module) (original : IsOriginalModule m) where
  pub of_words : EncodedHaveWords → IsCoreModule m × HasWords m
  of_words words = words original.bytes m original.is_module.encoded original.small

  pub runnable : (script : Script) → CanRun m script → IsRunnable m
  runnable script can = record {
    valid = original.is_module.accepted.valid;
    supported = can.supported;
    bytes = original.has_bytes;
  }

  pub from_bytes : IsFromBytes original.bytes m
  from_bytes = record {
    encoded = original.is_module.encoded;
    valid = original.is_module.accepted.valid;
    few = original.small;
  }

-- ---- its instrumented module

module _ (words : EncodedHaveWords) (m : Module) (script : Script) (inputs : HookedInputs)
    (are : AreHookedInputs m script inputs) where
  abbrev pub core : IsCoreModule m
  core = (of_words m are.original words).0

  pub hooked_runnable : InstrumentedAreRunnable → IsRunnable inputs.hooked
  hooked_runnable law =
      subst IsRunnable (sym are.hooked)
      (law m are.digest are.original.is_module.accepted are.original.has_bytes core (of_words m are.original words).1)

  pub hooked_fits : InstrumentedAreFitted → Fits inputs.hooked inputs.script
  hooked_fits law =
      subst (λ hooked. Fits hooked inputs.script) (sym are.hooked)
      (subst (Fits (instrumented_module m are.digest)) (sym are.script_is) (law m are.digest script are.can_run.fits))

  pub inputs_short : InstrumentedAreShort → IsShort inputs.hooked
  inputs_short law =
      subst IsShort (sym are.hooked)
      (law m are.digest (length are.original.bytes) are.original.is_module.accepted core
      (of_words m are.original words).1 are.original.within are.original.small)

  -- it links as the original does

  module _ (supplied : InstrumentedAreSupplied) (instantiated : InstrumentedAreInstantiated) where
    supply_same : supply_of inputs.hooked inputs.script ≡ supply_of m script
    supply_same =
        ap (λ hooked. supply_of hooked inputs.script) are.hooked
        ∙ ap (supply_of (instrumented_module m are.digest)) are.script_is ∙ supplied m are.digest script

    store_same : (supply : Supply)
        → instantiate inputs.hooked supply ≡ renumbered_link (imported_funcs m) (instantiate m supply)
    store_same supply = ap (λ hooked. instantiate hooked supply) are.hooked ∙ instantiated m are.digest supply

    pub linked : (supply : Supply) (opened : Store) → IsLinked inputs.hooked inputs.script supply opened
        → (store : Store) × IsLinked m script supply store × (opened ≡ renumbered_view (imported_funcs m) store)
    linked supply opened is = go (instantiate m supply) refl (sym (store_same supply) ∙ is.begins)
      where
        go : (r : Result Store LinkFault) → instantiate m supply ≡ r
            → renumbered_link (imported_funcs m) r ≡ Ok opened
            → (store : Store) × IsLinked m script supply store × (opened ≡ renumbered_view (imported_funcs m) store)
        go (Ok store) e same = (
          store,
          record { supplied = sym supply_same ∙ is.supplied; begins = e },
          same_ok (renumbered_link (imported_funcs m) (Ok store)) opened
              (renumbered_view (imported_funcs m) store) same refl,
        )
        go (Err fault) e same = absurd (cc same)

    pub unlinked : (fault : Fault) → IsUnlinkedFor inputs.hooked inputs.script fault → IsUnlinkedFor m script fault
    unlinked fault u = record {
      found = u.found;
      named = u.named;
      differs = u.differs;
      unopened =
          by_supply (supply_of m script)
          (sym (ap (start_with_supply inputs.hooked inputs.script) supply_same) ∙ u.unopened);
    }
      where
        by_store : (r : Result Store LinkFault)
            → start_or_fault inputs.hooked inputs.script (renumbered_link (imported_funcs m) r) ≡ Err u.found
            → start_or_fault m script r ≡ Err u.found
        by_store (Ok store) e = absurd (cc e)
        by_store (Err other) e = e

        by_supply : (r : Result Supply LinkFault) → start_with_supply inputs.hooked inputs.script r ≡ Err u.found
            → start_with_supply m script r ≡ Err u.found
        by_supply (Ok supply) e =
            by_store (instantiate m supply)
            (sym (ap (start_or_fault inputs.hooked inputs.script) (store_same supply)) ∙ e)
        by_supply (Err other) e = e

  -- ---- the run, with all that its record needs

  module _ (supply : Supply) (store : Store) (is : IsLinked m script supply store) where
    abbrev pub original : OriginalRun
    original =
        record {
          m = m;
          digest = are.digest;
          script = script;
          supply = supply;
          store = store;
          runnable = runnable m are.original script are.can_run;
          core = core;
          fits = are.can_run.fits;
          supplied = is.supplied;
          opens = is.begins;
        }

    is_original : IsOriginal original
    is_original =
        record {
          accepted = are.original.is_module.accepted;
          bytes = are.original.has_bytes;
          words = (of_words m are.original words).1;
          most = length are.original.bytes;
          within = are.original.within;
          few = are.original.small;
        }

    pub recordable : IsRecordable original inputs supply
    recordable =
        record {
          original = is_original;
          inputs_are = record {
            hooked = are.hooked;
            meter = are.meter;
            script = are.script_is;
            imports = are.imports;
          };
          supply_is = refl;
        }

-- ---- what is read from files

-- a module that is read from a file can be recorded
pub of_file : (module_bytes script_bytes : List ℕ) (m : Module) (script : Script) → length module_bytes ≤ MAX_FILE_BYTES
    → AreTaken module_bytes script_bytes m script → IsOriginalModule m
of_file module_bytes script_bytes m script few taken = record {
  bytes = module_bytes;
  is_module = taken.inputs.is_module;
  small = omega (arith, few);
  within = taken.within;
  has_bytes = taken.bytes;
}
