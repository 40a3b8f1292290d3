-- The run of a module of the form Core observes what a module of this form can observe.
use Rattle.std.proofs.Common.{◌≡◌, ℕ, suc, List, [], ◌∷◌, Option}
use Rattle.std.specs.List.{AllByRecursion}
use Rattle.base.specs.declared.outcomes.Outcome.TheVariants.{Ended}
use Rattle.base.proofs.Lists.{joined_all}
use Rattle.wasm_syntax.specs.declared.modules.Module.{Module}
use Rattle.wasm_syntax.specs.Encoding.Forms.{IsCoreModule}
use Rattle.host_script.specs.declared.scripts.Action.{Action}
use Rattle.history_spec.specs.declared.entries.Entry.{Entry}
use Rattle.history_spec.specs.declared.entries.Entry.TheVariants.{HostCall, HostReturn, ImportCall, ImportReturn, HostTrap}
use Rattle.history_spec.specs.Store.{Store}
use Rattle.history_spec.specs.Code.{code_of}
use Rattle.history_spec.specs.Configuration.{Activation, InModule}
use Rattle.history_spec.specs.Step.{Program, Progress, Running, Finished, step, start}
use Rattle.record_replay_spec.specs.Observations.{stack_observations, activity_observations, end_observations, observations, run_observations}
use Rattle.tape_laws.proofs.CoreFrames.{CoreStack, CoreProgress, core_step, core_start}
use Rattle.tape_laws.proofs.ModuleFacts.{nest_of_core}
use Rattle.tape_laws.proofs.Trails.{IsOfCore}

activity_of_core : (entries : List Entry) → AllByRecursion IsOfCore (activity_observations entries)
activity_of_core [] = tt
activity_of_core (HostCall func args ∷ later) = (tt, activity_of_core later)
activity_of_core (HostReturn func results ∷ later) = (tt, activity_of_core later)
activity_of_core (ImportCall import args ∷ later) = (tt, activity_of_core later)
activity_of_core (ImportReturn import results ∷ later) = (tt, activity_of_core later)
activity_of_core (HostTrap ∷ later) = (tt, activity_of_core later)
activity_of_core (entry ∷ later) = activity_of_core later

end_of_core : (at : Progress) → AllByRecursion IsOfCore (end_observations at)
end_of_core (Finished Ended) = (tt, tt)
end_of_core at = tt

stack_of_core : (store : Store) (stack : List Activation) → CoreStack stack
    → AllByRecursion IsOfCore (stack_observations store stack)
stack_of_core store (InModule frame ∷ below) c = nest_of_core store frame.values frame.at.rest c.0.rest
stack_of_core store stack c = tt

module _ (m : Module) (core : IsCoreModule m) (program : Program) (same : program.code ≡ code_of m) where
  steps_of_core : (k : ℕ) (at : Progress) → CoreProgress at → AllByRecursion IsOfCore (observations program k at)
  steps_of_core (suc k) (Running config) c =
      let s = step program config in
      joined_all IsOfCore (stack_observations config.store config.stack) _ (stack_of_core config.store config.stack c)
      (joined_all IsOfCore (activity_observations s.entries) (observations program k s.next)
      (activity_of_core s.entries) (steps_of_core k s.next (core_step m core program same config c)))
  steps_of_core k at c = end_of_core at

  -- from its start on
  pub run_of_core : (count : ℕ) (func : Option ℕ) (store : Store) (counts : List ℕ) (main : List Action)
      → AllByRecursion IsOfCore (run_observations program (start program func store counts main) count)
  run_of_core count func store counts main =
      let s = start program func store counts main in (
        tt,
        joined_all IsOfCore (activity_observations s.entries) (observations program count s.next)
            (activity_of_core s.entries)
            (steps_of_core count s.next (core_start m core program same func store counts main)),
      )
