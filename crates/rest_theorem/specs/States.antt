-- The replay theorem for rests of runs: the replay module of a cut tape, for the module that begins with what is known
-- before a top-level call, shows the rest of the run from this call on.
use Rattle.std.specs.Prelude.{◌≡◌, ℕ, List, [], length, Some, Ok}
use Rattle.wasm_syntax.specs.declared.modules.Module.{Module}
use Rattle.wasm_syntax.specs.Encoding.Forms.{IsCoreModule}
use Rattle.wasm_syntax.specs.Index.{all_globals}
use Rattle.host_script.specs.declared.scripts.Script.{Script}
use Rattle.host_script.specs.declared.scripts.Supply.{Supply}
use Rattle.host_script.specs.Fits.{Fits}
use Rattle.host_script.specs.Supply.{supply_of}
use Rattle.base.specs.declared.outcomes.Outcome.{Outcome}
use Rattle.trace_model.specs.declared.tapes.Segment.{Segment}
use Rattle.trace_model.specs.declared.tapes.Tape.{Tape}
use Rattle.history_spec.specs.declared.entries.Entry.{Entry}
use Rattle.history_spec.specs.Instantiation.{instantiate}
use Rattle.history_spec.specs.Replay.{Replays}
use Rattle.history_spec.specs.Store.{Store}
use Rattle.history_spec.specs.Step.{Finished}
use Rattle.history_spec.specs.Run.{all_one, program_of, start_in_store, run_from}
use Rattle.record_replay_spec.specs.Observations.{run_observations}
use Rattle.record_replay_spec.specs.Known.{Known, opening_known}
use Rattle.record_replay_spec.specs.Needed.{IsNeededTape}
use Rattle.replay_module_spec.specs.Fragments.{start_index}
use Rattle.replay_module_spec.specs.Merge.{layout_of}
use Rattle.replay_module_laws.specs.Standing.{KeepsOriginals}
use Rattle.generated_code_laws.specs.Playable.{IsPlayable, replay_of}
use Rattle.rest_spec.specs.Rests.{rest_of}
use Rattle.rest_spec.specs.KnownBefore.{known_before}
use Rattle.rest_spec.specs.KnownStates.{KnownState, state_of_known}
use Rattle.rest_spec.specs.Cuts.{cut_of}
use Rattle.rest_spec.specs.StateModules.{state_module_of, state_supply_of}
use Rattle.rest_laws.specs.KnownStores.{known_store}
use Rattle.state_laws.specs.Valid.{IsRunnableWith, IsStateOf}

-- the state of a module of which this is known
abbrev pub state_at : Module → Known → KnownState
state_at m known = state_of_known (length (all_globals m)) known

-- The module that begins in a state, with its supply, can be run and begins in this store. A replay module can be made
-- of it and of this tape. It keeps the original's types and functions, and shows exactly these entries and this
-- outcome.
pub record ReplaysFrom (m : Module) (supply : Supply) (state : KnownState) (first : Store) (tape : Tape)
    (entries : List Entry) (outcome : Outcome) : Type 0 where
  pub is_state : IsStateOf m supply state
  pub runs : IsRunnableWith (state_module_of m state) (state_supply_of supply state)
  pub begins : instantiate (state_module_of m state) (state_supply_of supply state) ≡ Ok first
  pub playable : IsPlayable (state_module_of m state) (state_supply_of supply state) first tape
  pub keeps : KeepsOriginals m (replay_of (state_module_of m state) (state_supply_of supply state) tape)
  pub shows : Replays (replay_of (state_module_of m state) (state_supply_of supply state) tape) (layout_of m)
      (start_index m) entries outcome

-- Something is known before the top-level call of this number, and the run's tape has a cut there. The module that
-- begins with just what is known replays the rest of the run by this cut.
pub record IsRestOfStates (m : Module) (script : Script) (supply : Supply) (store : Store) (count number : ℕ)
    (tape : Tape) (rest : List Entry) (outcome : Outcome) : Type 0 where
  pub known : Known
  pub is_known : known_before number 0 (opening_known store) []
      (run_observations (program_of m script) (start_in_store m script store) count) ≡ Some known
  pub cut : List Segment
  pub is_cut : cut_of number 0 tape.segments ≡ Some cut
  pub replays : ReplaysFrom m supply (state_at m known) (known_store m store known) (record { segments = cut }) rest
      outcome

-- for each module of the form Core, each script that fits it and links with it, and the tape that the run needs, if a
-- replay module can be made from the tape: if the run has an outcome and its history has a rest from a top-level call
-- on, the module that begins with what is known before the call replays this rest
abbrev pub RestsAreReplayedFromStates : Type 0
RestsAreReplayedFromStates =
    (m : Module) (script : Script) (supply : Supply) (store : Store) (tape : Tape) (count : ℕ)
    (outcome : Outcome) (number : ℕ) (rest : List Entry)
    → IsPlayable m supply store tape → IsCoreModule m → Fits m script → supply_of m script ≡ Ok supply
    → IsNeededTape (program_of m script) (start_in_store m script store) store tape.segments
    → (run_from (program_of m script) all_one (start_in_store m script store) count).at ≡ Finished outcome
    → rest_of (run_from (program_of m script) all_one (start_in_store m script store) count).history number 0
    ≡ Some rest
    → IsRestOfStates m script supply store count number tape rest outcome
