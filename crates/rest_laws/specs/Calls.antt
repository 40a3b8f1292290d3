-- Where a run makes a top-level call, and what its observations have there.
use Rattle.std.specs.Prelude.{◌≡◌, ℕ, ◌+◌, List, [], ◌∷◌, Some}
use Rattle.wasm_syntax.specs.declared.modules.Module.{Module}
use Rattle.host_script.specs.declared.scripts.Action.{Action}
use Rattle.host_script.specs.declared.scripts.Script.{Script}
use Rattle.history_spec.specs.declared.entries.Entry.{Entry}
use Rattle.history_spec.specs.Store.{Store}
use Rattle.history_spec.specs.Configuration.{InMain, Config}
use Rattle.history_spec.specs.Step.{Program, StepResult, Running}
use Rattle.history_spec.specs.Run.{all_one, program_of, start_in_store, steps, run_from}
use Rattle.record_replay_spec.specs.Observations.{observations, run_observations}
use Rattle.record_replay_spec.specs.Known.{Known, opening_known, known_after_all}
use Rattle.rest_spec.specs.Rests.{rest_of}
use Rattle.rest_spec.specs.AtCalls.{at_call}
use Rattle.tape_laws.specs.RealReads.{observed_from}

-- A run of `count` steps makes the top-level call of a number, from which on its history has this rest: at its start,
-- as the call of the start function; or after some steps, where only the host's own actions are on the stack.
-- There the observations have what is known after those steps, and the observations of the steps that are left.
pub data IsCallOfRun (program : Program) (initial : StepResult) (opening : Known) (count number : ℕ)
    (rest : List Entry) : Type 0 where
  AtStart : (is : rest ≡ (run_from program all_one initial count).history)
      (seen : at_call number 0 opening (run_observations program initial count)
      ≡ Some (record { known = opening; later = observed_from program count initial }))
      → IsCallOfRun program initial opening count number rest
  InRun : (before later : ℕ) (config : Config) (action : Action) (actions : List Action) (all : count ≡ before + later)
      (reached : (run_from program all_one initial before).at ≡ Running config)
      (alone : config.stack ≡ InMain (action ∷ actions) ∷ [])
      (is : rest ≡ (steps program all_one later (Running config)).history)
      (seen : at_call number 0 opening (run_observations program initial count)
      ≡ Some (record {
        known = known_after_all opening (run_observations program initial before);
        later = observations program later (Running config);
      }))
      → IsCallOfRun program initial opening count number rest

-- a run whose history has a rest from a top-level call on makes this call
abbrev pub CallsAreOfRuns : Type 0
CallsAreOfRuns =
    (m : Module) (script : Script) (store : Store) (count number : ℕ) (rest : List Entry)
    → rest_of (run_from (program_of m script) all_one (start_in_store m script store) count).history number 0
    ≡ Some rest
    → IsCallOfRun (program_of m script) (start_in_store m script store) (opening_known store) count number rest
