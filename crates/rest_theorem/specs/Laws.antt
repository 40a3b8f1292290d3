-- The replay theorem for rests of runs: the replay module of a cut, for a module that begins with what is known before
-- a top-level call, shows the rest of the run.
use Rattle.std.specs.Prelude.{◌≡◌, ℕ, List, [], Some, Ok}
use Rattle.wasm_syntax.specs.declared.modules.Module.{Module}
use Rattle.host_script.specs.declared.scripts.Script.{Script}
use Rattle.host_script.specs.declared.scripts.Supply.{Supply}
use Rattle.host_script.specs.Fits.{Fits}
use Rattle.host_script.specs.Supply.{supply_of}
use Rattle.base.specs.declared.outcomes.Outcome.{Outcome}
use Rattle.trace_model.specs.declared.tapes.Segment.{Segment}
use Rattle.trace_model.specs.declared.tapes.Tape.{Tape}
use Rattle.history_spec.specs.declared.entries.Entry.{Entry}
use Rattle.history_spec.specs.Replay.{Replays}
use Rattle.history_spec.specs.Store.{Store}
use Rattle.history_spec.specs.Step.{Finished}
use Rattle.history_spec.specs.Run.{all_one, program_of, start_in_store, run_from}
use Rattle.record_replay_spec.specs.Observations.{run_observations}
use Rattle.record_replay_spec.specs.Known.{Known, opening_known}
use Rattle.record_replay_spec.specs.Needed.{IsNeededTape}
use Rattle.replay_module_spec.specs.Fragments.{start_index}
use Rattle.replay_module_spec.specs.Merge.{layout_of}
use Rattle.generated_code_laws.specs.Playable.{IsPlayable, replay_of}
use Rattle.rest_spec.specs.Rests.{rest_of}
use Rattle.rest_spec.specs.KnownBefore.{known_before}
use Rattle.rest_spec.specs.Cuts.{cut_of}
use Rattle.rest_laws.specs.Replays.{HaveSameMaxima, HoldsKnown}
use Rattle.rest_theorem.specs.Cuts.{BeginsIn}

-- A run of a module under a script from a store has a top-level call of this number: something is known before it, and
-- the run's tape has a cut there. Another module has the module's code and begins in a store that holds just what is
-- known, with the maxima of the first store. Its replay module of the cut shows exactly this rest of the history and
-- this outcome.
pub record IsRestShown (m : Module) (script : Script) (store : Store) (count number : ℕ) (tape : Tape)
    (rest : List Entry) (outcome : Outcome) : Type 0 where
  pub known : Known
  pub is_known : known_before number 0 (opening_known store) []
      (run_observations (program_of m script) (start_in_store m script store) count) ≡ Some known
  pub cut : List Segment
  pub is_cut : cut_of number 0 tape.segments ≡ Some cut
  pub shows : (other : Module) (supply : Supply) (first : Store)
      → BeginsIn m other supply first → HaveSameMaxima store first → HoldsKnown known first
      → Replays (replay_of other supply (record { segments = cut })) (layout_of m) (start_index m) rest outcome

-- for each script that fits a module and links with it, and the tape that the run needs, if a replay module can be made
-- from the tape: if the run has an outcome and its history has a rest from a top-level call on, the replay module of
-- the cut shows this rest
abbrev pub RestsAreReplayed : Type 0
RestsAreReplayed =
    (m : Module) (script : Script) (supply : Supply) (store : Store) (tape : Tape) (count : ℕ)
    (outcome : Outcome) (number : ℕ) (rest : List Entry)
    → IsPlayable m supply store tape → Fits m script → supply_of m script ≡ Ok supply
    → IsNeededTape (program_of m script) (start_in_store m script store) store tape.segments
    → (run_from (program_of m script) all_one (start_in_store m script store) count).at ≡ Finished outcome
    → rest_of (run_from (program_of m script) all_one (start_in_store m script store) count).history number 0
    ≡ Some rest
    → IsRestShown m script store count number tape rest outcome
