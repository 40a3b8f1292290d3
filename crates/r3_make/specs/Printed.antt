-- What `make` prints.
use Rattle.std.specs.Prelude.{ℕ, ◌≤◌, List}
use Rattle.wasm_syntax.specs.declared.limits.TheConstants.{MAX_TAPE_WEIGHT}
use Rattle.wasm_syntax.specs.declared.modules.Module.{Module}
use Rattle.host_script.specs.declared.scripts.Script.{Script}
use Rattle.host_script.specs.declared.scripts.Supply.{Supply}
use Rattle.trace_model.specs.declared.tapes.Tape.{Tape}
use Rattle.trace_model.specs.Weight.{tape_weight}
use Rattle.history_spec.specs.Replay.{Replays}
use Rattle.history_spec.specs.Store.{Store}
use Rattle.tape_laws.specs.Dropped.{HasNothingToSpare}
use Rattle.replay_module_spec.specs.Fragments.{start_index}
use Rattle.replay_module_spec.specs.Merge.{layout_of}
use Rattle.generated_code_laws.specs.Playable.{replay_of}
use Rattle.replay_theorem.specs.Laws.{MakesEffectsOf}
use Rattle.replay_laws.specs.EncodedReplays.{IsReplayOf}
use Rattle.r3_inputs.specs.Inputs.{AreInputs}
use Rattle.r3_make.specs.Tapes.{NeedsTape}

-- The run of the module under the script has an outcome within the turns, and the printed bytes encode the
-- replay module of the one tape that it needs; no part of that tape can be left out. The replay module is a
-- valid module without imports that keeps the original's functions; its run shows exactly the history and the
-- outcome of that run, and makes exactly the effects of the tape.
pub record IsReplayFor (m : Module) (script : Script) (turns : ℕ) (printed : List ℕ) : Type 0 where
  pub supply : Supply
  pub store : Store
  pub tape : Tape
  pub needed : NeedsTape m script turns supply store tape
  pub light : tape_weight tape ≤ MAX_TAPE_WEIGHT
  pub nothing_spare : HasNothingToSpare m script store tape.segments needed.is_one.is_needed
  pub replay : IsReplayOf m supply store tape printed
  pub shows : Replays (replay_of m supply tape) (layout_of m) (start_index m) needed.run.history needed.outcome
  pub makes : MakesEffectsOf m supply tape

-- `make` prints this for the bytes of a module and a script
pub record IsPrinted (module_bytes script_bytes : List ℕ) (turns : ℕ) (printed : List ℕ) : Type 0 where
  pub m : Module
  pub script : Script
  pub inputs : AreInputs module_bytes script_bytes m script
  pub replay : IsReplayFor m script turns printed
