-- The replay module of a run that is defined by a start and a world, or why none is made. The run is recorded as that
-- of one module.
use Rattle.std.specs.Prelude.{◌≡◌, ℕ, ◌+◌, List, Some, slice_get}
use Rattle.wasm_syntax.specs.declared.modules.Module.{Module}
use Rattle.wasm_syntax.specs.declared.modules.Func.{Func}
use Rattle.host_script.specs.declared.scripts.Script.{Script}
use Rattle.history_spec.specs.Projection.{Layout}
use Rattle.history_spec.specs.Replay.{Replays}
use Rattle.replay_module_spec.specs.Fragments.{start_index}
use Rattle.generated_code_laws.specs.Playable.{replay_of}
use Rattle.r3_faults.specs.declared.faults.Fault.{Fault}
use Rattle.r3_make.specs.Printed.{IsReplayFor}
use Rattle.r3_make.specs.Tapes.{NeedsHeavyTape}
use Rattle.r3_instances.specs.WorldRuns.{WorldRun, IsWorldUnlinked, HasWorldOutcome, HasNoWorldOutcome}

-- a module has each of these functions, changed in this way, behind a number of others
abbrev pub KeepsChanged : (change : Func → Func) → List Func → (before : ℕ) → Module → Type 0
KeepsChanged change funcs before m =
    (place : ℕ) (func : Func) → slice_get funcs place ≡ Some func
    → slice_get m.funcs (before + place) ≡ Some (change func)

module _ (m : Module) (script : Script) (r : WorldRun) (turns : ℕ) where
  -- The run has an outcome within the turns. The printed bytes encode the replay module of the one tape that the run of
  -- the recorded module needs; it is valid, imports nothing, and no part of the tape can be left out. With a layout of
  -- functions, its run shows exactly the history and the outcome of the run.
  pub record IsWorldReplayFor (layout : Layout) (printed : List ℕ) : Type 0 where
    pub made : IsReplayFor m script turns printed
    pub ends : HasWorldOutcome r turns made.needed.run made.needed.outcome
    pub shows : Replays (replay_of m made.supply made.tape) layout (start_index m) made.needed.run.history
        made.needed.outcome

  -- why the run has no replay module: the modules do not link with the script, the run has no outcome within the turns,
  -- or the recorded module's run needs a tape that is too heavy
  pub data IsWorldUnmade (fault : Fault) : Type 0 where
    OfLink : (unlinked : IsWorldUnlinked r fault) → IsWorldUnmade fault
    OfOutcome : (none : HasNoWorldOutcome r turns fault) → IsWorldUnmade fault
    OfWeight : (heavy : NeedsHeavyTape m script turns fault) → IsWorldUnmade fault
