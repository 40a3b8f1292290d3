-- No hook call of a run is out of order.
use Rattle.std.proofs.Common.{◌≡◌, ℕ, ◌+◌, [], length, map, Some, slice_get, refl, ap, ◌∙◌, length-append, List, Option}
use Rattle.std.proofs.lemmas.List.{length-map}
use Rattle.base.proofs.Lists.{all_at}
use Rattle.base.proofs.Options.{and_then_some}
use Rattle.wasm_syntax.specs.declared.signatures.FuncType.{FuncType}
use Rattle.wasm_syntax.specs.declared.modules.Func.{Func}
use Rattle.wasm_syntax.specs.declared.modules.Module.{Module}
use Rattle.wasm_syntax.specs.Index.{imported_funcs, func_import, of_kind, func_indices}
use Rattle.wasm_syntax.specs.Validity.{IsFuncType, IsValidOutside}
use Rattle.base.specs.declared.outcomes.Outcome.{Outcome}
use Rattle.history_spec.specs.Code.{code_of, signature}
use Rattle.history_spec.specs.Run.{start_in_store, all_one, program_of, run_from}
use Rattle.record_replay_spec.specs.Observations.{Observation}
use Rattle.record_replay_spec.specs.Known.{opening_known}
use Rattle.type_safety.specs.Stores.{func_count}
use Rattle.tape_laws.specs.Below.{LawsOfSteps, LawsOfRuns}
use Rattle.tape_laws.specs.RealReads.{observed_from}
use Rattle.tape_laws.proofs.SafeRuns.{safe_run}
use Rattle.record_replay_spec.specs.HookLaws.{IndicesAreRenumbered, InstrumentedKeepsIndices, InstrumentedKeepIndices}
use Rattle.record_replay_spec.specs.Order.{is_some_there}
use Rattle.record_replay_spec.specs.ReportedCalls.{Moment, run_moments}
use Rattle.tape_laws.specs.CallLaws.{OriginalRun, hooked_shape, HookCallsAreInOrder}
use Rattle.tape_laws.proofs.Reportable.{IsShapeOf}
use Rattle.tape_laws.proofs.TrailOrder.{in_order}
use Rattle.tape_laws.proofs.TrailRuns.{started}
use Rattle.tape_laws.proofs.TrailsOfRuns.{outcome_of}
use Rattle.tape_laws.proofs.CallOrder.{IsHooked}
use Rattle.tape_laws.proofs.Trails.{IsTrail}

-- the number of functions
pub count_is : (m : Module) → func_count m ≡ imported_funcs m + length m.funcs
count_is m =
    length-append (of_kind func_import m.imports) (map (λ (f : Func). f.ty) m.funcs)
    ∙ ap (λ k. imported_funcs m + k) (length-map m.funcs (λ (f : Func). f.ty))

-- function types are valid
pub types_are : (m : Module) → IsValidOutside m → (func : ℕ) (ty : FuncType) → signature (code_of m) func ≡ Some ty
    → IsFuncType ty
types_are m outside func ty h =
    let p = and_then_some (slice_get (func_indices m) func) (λ t. slice_get m.types t) ty h in
    all_at IsFuncType m.types p.0 ty outside.types p.2

pub shape_is : (run : OriginalRun) → InstrumentedKeepsIndices run.m run.digest → IsShapeOf run.m (hooked_shape run)
shape_is run kept =
    record {
      imports = refl;
      defined = kept.defined;
      type_of = λ func ty h. kept.type_of func ty h;
      memory = ap is_some_there kept.memories;
      globals = kept.globals;
    }

-- the facts about a run's module and the shape of its instrumented module
pub hooked_run : InstrumentedKeepIndices → IndicesAreRenumbered → (run : OriginalRun) → IsHooked run.m (hooked_shape run)
hooked_run indices renumbered run =
    record {
      is = shape_is run (indices run.m run.digest);
      counts = count_is run.m;
      numbers = types_are run.m run.runnable.valid.outside;
      indices = renumbered;
    }

-- ---- a run's trail

-- the observations of a run after its beginning
abbrev pub observed : OriginalRun → (count : ℕ) → List Observation
observed run count = observed_from (program_of run.m run.script) count (start_in_store run.m run.script run.store)

abbrev pub moments_of : OriginalRun → (count : ℕ) → List Moment
moments_of run count =
    run_moments (program_of run.m run.script) run.store (start_in_store run.m run.script run.store) count

abbrev pub IsRunTrail : OriginalRun → (count : ℕ) → Option Outcome → Type 0
IsRunTrail run count outcome =
    IsTrail run.m (hooked_shape run) outcome (moments_of run count) [] (opening_known run.store) run.store
    (observed run count)

pub run_trail : LawsOfSteps → LawsOfRuns → InstrumentedKeepIndices → (run : OriginalRun) (count : ℕ)
    → IsRunTrail run count
    (outcome_of (run_from (program_of run.m run.script) all_one (start_in_store run.m run.script run.store) count).at)
run_trail laws safety indices run count =
    let m = run.m in
    let r = safe_run safety m run.script run.supply run.store run.runnable run.fits run.supplied run.opens in
    started laws m r.heights run.runnable.valid r.typed run.core run.script.imports run.fits.imports (hooked_shape run)
    (shape_is run (indices m run.digest)) count run.script.main run.store r.is run.fits.main m.start refl

pub calls_in_order : LawsOfSteps → LawsOfRuns → InstrumentedKeepIndices → IndicesAreRenumbered → HookCallsAreInOrder
calls_in_order laws safety indices renumbered run count =
    in_order run.m (hooked_shape run) (hooked_run indices renumbered run) _ (moments_of run count) []
    (opening_known run.store) run.store (observed run count) (run_trail laws safety indices run count) 0
