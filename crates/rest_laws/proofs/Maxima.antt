-- A run's configurations are well typed, and their stores have the maxima of the store in which the run began.
use Rattle.std.proofs.Common.{◌≡◌, ℕ, refl, ap, ◌∙◌}
use Rattle.wasm_syntax.specs.declared.modules.Module.{Module}
use Rattle.host_script.specs.declared.scripts.Script.{Script}
use Rattle.host_script.specs.Fits.{Fits}
use Rattle.history_spec.specs.Code.{code_of}
use Rattle.history_spec.specs.Configuration.{Config}
use Rattle.history_spec.specs.Run.{all_one, program_of, start_in_store, run_from}
use Rattle.history_spec.specs.Step.{Running}
use Rattle.history_spec.specs.Store.{Store}
use Rattle.record_replay_spec.specs.Known.{Known}
use Rattle.record_replay_spec.specs.ObservedStepLaws.{observed}
use Rattle.type_safety.specs.Heights.{Heights}
use Rattle.type_safety.specs.Supplies.{IsRunnable}
use Rattle.tape_laws.specs.Below.{LawsOfSteps}
use Rattle.tape_laws.specs.RealReads.{known_so_far}
use Rattle.tape_laws.proofs.HostStores.{host_change}
use Rattle.tape_laws.proofs.KeptInRuns.{IsKeptInRuns, IsReached, kept_so_far}
use Rattle.tape_laws.proofs.KeptSteps.{left_is}
use Rattle.tape_laws.proofs.SafeRuns.{IsSafeRun}
use Rattle.tape_laws.proofs.StepItems.{same_maxima_all}
use Rattle.tape_laws.proofs.Stores.{Maxima, maxima}

-- a store has these maxima, whatever is known
abbrev pub HasMaxima : Maxima → Known → Store → Type 0
HasMaxima most known store = maxima store ≡ most

maxima_are_kept : LawsOfSteps → (m : Module) (heights : Heights) (most : Maxima)
    → IsKeptInRuns m heights (HasMaxima most)
maxima_are_kept laws m heights most =
    record {
      instruction = λ known store frame ty body operands results found control is next fine e same.
          ap maxima
          (left_is laws.own laws.answers m (code_of m) store is frame known operands results found control e)
          ∙ same_maxima_all store (observed store frame) ∙ same;
      action = λ known store params args action after is next fits e same.
          (host_change (code_of m) store args action after e).same ∙ same;
    }

pub reached_safely : LawsOfSteps → (m : Module) (script : Script) (store : Store) → IsRunnable m → Fits m script
    → (run : IsSafeRun m script store) (so_far : ℕ) (config : Config)
    → (run_from (program_of m script) all_one (start_in_store m script store) so_far).at ≡ Running config
    → IsReached m run.heights (HasMaxima (maxima store)) (known_so_far m script store so_far) config
reached_safely laws m script store runnable fits run =
    kept_so_far laws m script store runnable fits run (HasMaxima (maxima store))
    (maxima_are_kept laws m run.heights (maxima store)) refl
