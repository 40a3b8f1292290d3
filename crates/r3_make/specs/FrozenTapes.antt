-- The tape that a run needs, with what is known before a top-level call of the run.
use Rattle.std.specs.Prelude.{◌≡◌, ℕ, ◌≤◌, List, [], Some}
use Rattle.wasm_syntax.specs.declared.limits.TheConstants.{MAX_TAPE_WEIGHT}
use Rattle.wasm_syntax.specs.Index.{imported_funcs}
use Rattle.trace_model.specs.declared.tapes.Tape.{Tape}
use Rattle.trace_model.specs.Weight.{tape_weight}
use Rattle.history_spec.specs.declared.entries.Entry.{Entry}
use Rattle.history_spec.specs.Run.{program_of, start_in_store}
use Rattle.record_replay_spec.specs.Known.{Known, opening_known}
use Rattle.record_replay_spec.specs.Observations.{run_observations}
use Rattle.recorder.specs.FrozenViews.{FrozenView, ShowsFrozen}
use Rattle.tape_laws.specs.CallLaws.{OriginalRun}
use Rattle.rest_spec.specs.KnownBefore.{known_before}
use Rattle.rest_spec.specs.Rests.{rest_of}
use Rattle.rest_laws.specs.TopEnters.{renumbered_known}
use Rattle.r3_make.specs.Tapes.{NeedsTape}

-- the run needs this tape, which is no heavier than the tape of a replay module may be, and has a top-level call of
-- this number; what is frozen is known before the call, with the functions of table entries as the instrumented module
-- numbers them
pub record IsFrozenTape (run : OriginalRun) (turns number : ℕ) (tape : Tape) (view : FrozenView) : Type 0 where
  pub needed : NeedsTape run.m run.script turns run.supply run.store tape
  pub light : tape_weight tape ≤ MAX_TAPE_WEIGHT
  pub rest : List Entry
  pub is_rest : rest_of needed.run.history number 0 ≡ Some rest
  pub known : Known
  pub is_known : known_before number 0 (opening_known run.store) []
      (run_observations (program_of run.m run.script) (start_in_store run.m run.script run.store)
      needed.ends.within.count) ≡ Some known
  pub shows : ShowsFrozen view (renumbered_known (imported_funcs run.m) known)
  pub imports : view.imports ≡ imported_funcs run.m
