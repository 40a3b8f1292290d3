-- The law of cut tapes: the cut of the tape that a run needs replays the rest of the run, from each store that holds
-- what is known before the call.
use Rattle.std.specs.Prelude.{◌≡◌, ℕ, ◌*◌, List, [], length, Some, Ok, IfSome, option_map, slice_get}
use Rattle.wasm_syntax.specs.declared.limits.TheConstants.{PAGE_SIZE}
use Rattle.wasm_syntax.specs.declared.modules.Module.{Module}
use Rattle.host_script.specs.declared.scripts.Script.{Script}
use Rattle.host_script.specs.declared.scripts.Supply.{Supply}
use Rattle.host_script.specs.Fits.{Fits}
use Rattle.host_script.specs.Supply.{supply_of}
use Rattle.base.specs.declared.outcomes.Outcome.{Outcome}
use Rattle.trace_model.specs.declared.tapes.Segment.{Segment}
use Rattle.history_spec.specs.declared.entries.Entry.{Entry}
use Rattle.history_spec.specs.Store.{Store}
use Rattle.history_spec.specs.Code.{code_of}
use Rattle.history_spec.specs.Instantiation.{instantiate}
use Rattle.history_spec.specs.Step.{Finished}
use Rattle.history_spec.specs.Run.{all_one, program_of, start_in_store, run_from}
use Rattle.record_replay_spec.specs.Observations.{run_observations}
use Rattle.record_replay_spec.specs.Known.{Known, byte_of, entry_of, opening_known}
use Rattle.record_replay_spec.specs.Needed.{IsNeededTape}
use Rattle.rest_spec.specs.Rests.{rest_of}
use Rattle.rest_spec.specs.KnownBefore.{known_before}
use Rattle.rest_spec.specs.Cuts.{cut_of}
use Rattle.tape_laws.specs.Laws.{IsReplayed}
use Rattle.type_safety.specs.Supplies.{IsRunnable}

-- a store holds just what is known: its memory and its table have the known sizes, and each byte, entry and global is
-- the known one
pub record HoldsKnown (known : Known) (store : Store) : Type 0 where
  pub pages : IfSome store.memory (λ memory. length memory.bytes ≡ known.pages * PAGE_SIZE)
  pub entries : IfSome store.table (λ table. length table.entries ≡ known.entries)
  pub byte : (at : ℕ) → byte_of store.memory at ≡ known.byte at
  pub entry : (at : ℕ) → entry_of store.table at ≡ known.entry at
  pub global : (at : ℕ) → slice_get store.globals at ≡ known.global at

-- two stores have a memory and a table both or neither, with the same maxima
pub record HaveSameMaxima (store other : Store) : Type 0 where
  pub memory : option_map (λ memory. memory.max) other.memory ≡ option_map (λ memory. memory.max) store.memory
  pub table : option_map (λ table. table.max) other.table ≡ option_map (λ table. table.max) store.table

-- A run of a module under a script from a store has a top-level call of this number: something is known before it, and
-- the run's tape has a cut there. The run of the cut tape, from each store that holds just what is known and has the
-- maxima of the first store, ends with this outcome and exactly this rest of the history, and never disagrees.
pub record IsRestReplayed (m : Module) (script : Script) (store : Store) (count number : ℕ) (segments : List Segment)
    (rest : List Entry) (outcome : Outcome) : Type 0 where
  pub known : Known
  pub is_known : known_before number 0 (opening_known store) []
      (run_observations (program_of m script) (start_in_store m script store) count) ≡ Some known
  pub cut : List Segment
  pub is_cut : cut_of number 0 segments ≡ Some cut
  pub replays : (other : Store) → HaveSameMaxima store other → HoldsKnown known other
      → IsReplayed (code_of m) other cut rest outcome

-- for each module that can be run, and each script that fits it and links with it: if the run has an outcome and its
-- history has a rest from a top-level call on, the cut of the needed tape replays this rest
abbrev pub CutTapesReplayRests : Type 0
CutTapesReplayRests =
    (m : Module) (script : Script) (supply : Supply) (store : Store) (segments : List Segment) (count : ℕ)
    (outcome : Outcome) (number : ℕ) (rest : List Entry)
    → IsRunnable m → Fits m script → supply_of m script ≡ Ok supply → instantiate m supply ≡ Ok store
    → IsNeededTape (program_of m script) (start_in_store m script store) store segments
    → (run_from (program_of m script) all_one (start_in_store m script store) count).at ≡ Finished outcome
    → rest_of (run_from (program_of m script) all_one (start_in_store m script store) count).history number 0
    ≡ Some rest
    → IsRestReplayed m script store count number segments rest outcome
