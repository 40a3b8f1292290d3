-- The run of an instrumented module follows the original's.
use Rattle.std.proofs.Common.{refl, ◌≡◌, Ok, ap, ◌∙◌}
use Rattle.wasm_syntax.specs.declared.modules.Module.{Module}
use Rattle.wasm_syntax.specs.Index.{imported_funcs}
use Rattle.history_spec.specs.Budget.{RunsHaveOneResultAtMost, RunsHaveSomeResult}
use Rattle.history_spec.specs.Configuration.{Config}
use Rattle.history_spec.specs.Run.{Meter, run_start, start_with_supply, start_or_fault}
use Rattle.history_spec.specs.Step.{Program, Progress, Running, step}
use Rattle.type_safety.specs.Configurations.{IsSafe}
use Rattle.tape_laws.specs.Below.{LawsOfSteps, LawsOfRuns}
use Rattle.tape_laws.proofs.SafeRuns.{IsSafeRun, safe_run}
use Rattle.record_replay_spec.specs.Instrumented.{instrumented_meter}
use Rattle.record_replay_spec.specs.HookLaws.{BodiesAreInstrumented, HooksAreAnswered, IndicesAreRenumbered, InstrumentedKeepIndices}
use Rattle.tape_laws.specs.CallLaws.{OriginalRun, HookCallsAreInOrder}
use Rattle.tape_laws.proofs.CoreFrames.{CoreProgress, core_step, core_start}
use Rattle.instrumented_module_laws.specs.Links.{script_with_hooks, renumbered_link, InstrumentedAreSupplied, InstrumentedAreInstantiated}
use Rattle.instrumented_run_laws.specs.Laws.{original_program, original_start, instrumented_of, instrumented_program, instrumented_start, InstrumentedRunsFollow, IsFollowed}
use Rattle.instrumented_run_laws.proofs.FollowedRuns.{is_followed}
use Rattle.instrumented_run_laws.proofs.HookedProgram.{HookedFacts, hooked_facts}
use Rattle.instrumented_run_laws.proofs.Pieces.{HasHooks}
use Rattle.instrumented_run_laws.proofs.ProvedPieces.{has_pieces}
use Rattle.instrumented_run_laws.proofs.RunsAlong.{from_start}
use Rattle.instrumented_run_laws.proofs.Starts.{start_follows}
use Rattle.instrumented_run_laws.proofs.Steps.{step_follows}
use Rattle.instrumented_run_laws.proofs.PieceFacts.{HasPieces, HasProgram}

-- the laws of the crates below
pub record Below : Type 0 where
  pub steps : LawsOfSteps
  pub runs : LawsOfRuns
  pub renumbered : IndicesAreRenumbered
  pub answered : HooksAreAnswered
  pub bodies : BodiesAreInstrumented
  pub indices : InstrumentedKeepIndices
  pub in_order : HookCallsAreInOrder
  pub supplied : InstrumentedAreSupplied
  pub opened : InstrumentedAreInstantiated
  pub one_result : RunsHaveOneResultAtMost
  pub some_result : RunsHaveSomeResult

module _ (laws : Below) (run : OriginalRun) where
  abbrev m : Module
  m = run.m

  abbrev program : Program
  program = original_program run

  abbrev other : Program
  other = instrumented_program run

  abbrev meter : Meter
  meter = instrumented_meter m

  facts : HookedFacts m run.digest run.script
  facts = hooked_facts laws.renumbered laws.answered laws.bodies laws.indices m run.digest run.script

  abbrev has : HasHooks (imported_funcs m) other meter
  has = facts.has meter

  pieces : HasPieces m other meter has
  pieces = has_pieces m run.digest run.script facts laws.bodies

  knows : HasProgram m run.script.imports other
  knows = record { own = facts.own; answered = facts.answers }

  safe : IsSafeRun m run.script run.store
  safe = safe_run laws.runs m run.script run.supply run.store run.runnable run.fits run.supplied run.opens

  abbrev IsFine : Progress → Type 0
  IsFine at = IsSafe m safe.heights at × CoreProgress at

  keeps : (config : Config) → IsFine (Running config) → IsFine (step program config).next
  keeps config fine = (
    laws.steps.steps m safe.heights program config run.runnable.valid safe.typed
        (record { code = refl; answers = run.fits.imports }) fine.0,
    core_step m run.core program refl config fine.1,
  )

  fine_start : IsFine (original_start run).next
  fine_start = (
    safe.safe,
    core_start m run.core program refl m.start run.store _ run.script.main,
  )

  -- the instrumented module links, and its run begins with the instrumented start
  begins : run_start (instrumented_of run) (script_with_hooks m run.script) ≡ Ok (instrumented_start run)
  begins =
      ap (start_with_supply (instrumented_of run) (script_with_hooks m run.script))
      (laws.supplied m run.digest run.script ∙ run.supplied)
      ∙ ap (start_or_fault (instrumented_of run) (script_with_hooks m run.script))
      (laws.opened m run.digest run.supply ∙ ap (renumbered_link (imported_funcs m)) run.opens)

  followed : IsFollowed run
  followed =
      is_followed run _
      (λ count. from_start m program other meter IsFine keeps
      (λ config waiting from fine beside. step_follows m safe.heights run.runnable.valid safe.typed run.script.imports
      run.fits.imports other meter has pieces knows refl laws.steps.rules laws.steps.actions config waiting from fine.0 fine.1
      beside)
      run.store (original_start run) (instrumented_start run).next fine_start
      (start_follows m safe.heights run.runnable.valid safe.typed run.script.imports run.fits.imports other meter has pieces
      knows
      facts.imported run.store run.script.main run.fits.main m.start run.runnable.valid.outside.start)
      count)
      begins laws.one_result laws.some_result laws.in_order

pub runs_follow : Below → InstrumentedRunsFollow
runs_follow laws run = followed laws run
