-- The module that begins with what is known before a top-level call of a run, and the cut of the run's tape there.
use Rattle.std.specs.Prelude.{◌≡◌, ℕ, ◌≤◌, List, [], Some}
use Rattle.wasm_syntax.specs.declared.limits.TheConstants.{MAX_TAPE_WEIGHT}
use Rattle.wasm_syntax.specs.declared.modules.Module.{Module}
use Rattle.host_script.specs.declared.scripts.Script.{Script}
use Rattle.host_script.specs.declared.scripts.Supply.{Supply}
use Rattle.trace_model.specs.declared.tapes.Tape.{Tape}
use Rattle.trace_model.specs.Weight.{tape_weight}
use Rattle.history_spec.specs.declared.entries.Entry.{Entry}
use Rattle.history_spec.specs.Run.{program_of, start_in_store}
use Rattle.history_spec.specs.Store.{Store}
use Rattle.record_replay_spec.specs.Known.{Known, opening_known}
use Rattle.record_replay_spec.specs.Observations.{run_observations}
use Rattle.rest_spec.specs.Cuts.{cut_of}
use Rattle.rest_spec.specs.KnownBefore.{known_before}
use Rattle.rest_spec.specs.Rests.{rest_of}
use Rattle.rest_spec.specs.StateModules.{state_module_of, state_supply_of}
use Rattle.rest_theorem.specs.States.{state_at}
use Rattle.r3_make.specs.Tapes.{NeedsTape}

-- The run of the module under the script has an outcome within the turns, needs a tape that is no heavier than the tape
-- of a replay module may be, and has this rest from the top-level call of this number on. The other module, with its
-- supply, begins with just what is known before that call, and the cut is that of the run's tape.
pub record AreStateAndCut (m : Module) (script : Script) (turns number : ℕ) (supply : Supply) (other : Module)
    (other_supply : Supply) (cut : Tape) : Type 0 where
  pub store : Store
  pub tape : Tape
  pub needed : NeedsTape m script turns supply store tape
  pub light : tape_weight tape ≤ MAX_TAPE_WEIGHT
  pub rest : List Entry
  pub is_rest : rest_of needed.run.history number 0 ≡ Some rest
  pub known : Known
  pub is_known : known_before number 0 (opening_known store) []
      (run_observations (program_of m script) (start_in_store m script store) needed.ends.within.count) ≡ Some known
  pub module_is : other ≡ state_module_of m (state_at m known)
  pub supply_is : other_supply ≡ state_supply_of supply (state_at m known)
  pub is_cut : cut_of number 0 tape.segments ≡ Some cut.segments
