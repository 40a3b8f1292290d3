-- What `from` prints: a replay module of a run from a top-level call on.
use Rattle.std.specs.Prelude.{◌≡◌, ℕ, List, Ok}
use Rattle.wasm_syntax.specs.declared.modules.Module.{Module}
use Rattle.host_script.specs.declared.scripts.Script.{Script}
use Rattle.host_script.specs.declared.scripts.Supply.{Supply}
use Rattle.trace_model.specs.declared.tapes.Tape.{Tape}
use Rattle.history_spec.specs.Instantiation.{instantiate}
use Rattle.history_spec.specs.Replay.{Replays}
use Rattle.history_spec.specs.Store.{Store}
use Rattle.replay_module_spec.specs.Fragments.{start_index}
use Rattle.replay_module_spec.specs.Merge.{layout_of}
use Rattle.replay_module_laws.specs.Standing.{KeepsOriginals}
use Rattle.generated_code_laws.specs.Playable.{replay_of}
use Rattle.r3_inputs.specs.Inputs.{AreInputs}
use Rattle.replay_laws.specs.EncodedReplays.{IsReplayOf}
use Rattle.r3_make.specs.StatesAndCuts.{AreStateAndCut}

-- The run of the module under the script has an outcome within the turns, and a top-level call of this number. The
-- printed bytes encode the replay module of the run's cut tape, for a module that begins with just what is known before
-- that call. The replay module is valid, imports nothing and keeps the original's functions; its run shows exactly the
-- rest of the run's history, from the call on, and the run's outcome.
pub record IsRestFor (m : Module) (script : Script) (turns number : ℕ) (printed : List ℕ) : Type 0 where
  pub supply : Supply
  pub other : Module
  pub other_supply : Supply
  pub cut : Tape
  pub parts : AreStateAndCut m script turns number supply other other_supply cut
  pub first : Store
  pub begins : instantiate other other_supply ≡ Ok first
  pub replay : IsReplayOf other other_supply first cut printed
  pub keeps : KeepsOriginals m (replay_of other other_supply cut)
  pub shows : Replays (replay_of other other_supply cut) (layout_of m) (start_index m) parts.rest parts.needed.outcome

-- `from` prints this for the bytes of a module and a script
pub record IsRestPrinted (module_bytes script_bytes : List ℕ) (turns number : ℕ) (printed : List ℕ) : Type 0 where
  pub m : Module
  pub script : Script
  pub inputs : AreInputs module_bytes script_bytes m script
  pub replay : IsRestFor m script turns number printed
