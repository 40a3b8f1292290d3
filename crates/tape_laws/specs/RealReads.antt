-- What a window of a run reads first is what the store holds where the window begins.
use Rattle.std.specs.Prelude.{◌≡◌, ℕ, ◌*◌, ◌<◌, ◌≤◌, List, [], ◌∷◌, ◌++◌, Option, None, Some, Ok, option_map, slice_get}
use Rattle.wasm_syntax.specs.declared.limits.TheConstants.{PAGE_SIZE}
use Rattle.wasm_syntax.specs.declared.values.Val.{Val}
use Rattle.wasm_syntax.specs.declared.modules.Module.{Module}
use Rattle.wasm_syntax.specs.Validity.{IsValid}
use Rattle.host_script.specs.declared.scripts.Script.{Script}
use Rattle.host_script.specs.declared.scripts.Supply.{Supply}
use Rattle.host_script.specs.Fits.{Fits}
use Rattle.host_script.specs.Supply.{supply_of}
use Rattle.history_spec.specs.Store.{Store}
use Rattle.history_spec.specs.Instantiation.{table_length, instantiate}
use Rattle.history_spec.specs.Configuration.{Activation, InModule, InMain, InImport, Config}
use Rattle.history_spec.specs.Settle.{deliver}
use Rattle.history_spec.specs.Step.{Program, Running, StepResult, after_settling}
use Rattle.history_spec.specs.Run.{all_one, program_of, start_in_store, run_from}
use Rattle.record_replay_spec.specs.Observations.{Observation, activity_observations, observations, run_observations}
use Rattle.record_replay_spec.specs.Known.{Known, byte_of, entry_of, pages_of, opening_known, known_after_all}
use Rattle.record_replay_spec.specs.Windows.{window, first_byte, first_entry, first_global, found_pages, found_entries}
use Rattle.record_replay_spec.specs.Changes.{global_type}
use Rattle.type_safety.specs.Configurations.{IsConfig, IsProgram, IsSafe, IsTypedCode}
use Rattle.type_safety.specs.Heights.{Heights}
use Rattle.type_safety.specs.Stores.{IsStore}
use Rattle.type_safety.specs.Supplies.{IsRunnable}

-- ---- what is known

-- what is known fits a store: the known sizes are at most those of the store, bytes past the known pages are known to
-- be zero, entries past the known ones to be empty, and globals are known with their types
pub record IsKnownOf (known : Known) (store : Store) : Type 0 where
  pub pages : known.pages ≤ pages_of store.memory
  pub entries : known.entries ≤ table_length store.table
  pub past_pages : (at : ℕ) → known.pages * PAGE_SIZE ≤ at → known.byte at ≡ 0
  pub past_entries : (at : ℕ) → known.entries ≤ at → known.entry at ≡ None
  pub types : (at : ℕ) → option_map (λ value. value.ty) (known.global at) ≡ global_type store at

-- ---- what a window reads first

-- the size that a window finds is the store's, or it is the known one and all that the window reads first is within it
pub data IsSize (known real found : ℕ) (within : Type 0) : Type 0 where
  Seen : (is : found ≡ real) → IsSize known real found within
  Unseen : (is : found ≡ known) (fits : within) → IsSize known real found within

-- what a window reads first is what the store holds where the window begins, and the sizes that it finds are the
-- store's
pub record IsReadOf (known : Known) (window : List Observation) (store : Store) : Type 0 where
  pub byte : (at x : ℕ) → first_byte window at ≡ Some x → byte_of store.memory at ≡ x
  pub entry : (at : ℕ) (x : Option ℕ) → first_entry window at ≡ Some x → entry_of store.table at ≡ x
  pub global : (at : ℕ) (x : Option Val) → first_global window at ≡ Some x → slice_get store.globals at ≡ x
  pub pages : IsSize known.pages (pages_of store.memory) (found_pages known.pages window)
      ((at x : ℕ) → first_byte window at ≡ Some x → at < known.pages * PAGE_SIZE)
  pub entries : IsSize known.entries (table_length store.table) (found_entries known.entries window)
      ((at : ℕ) (x : Option ℕ) → first_entry window at ≡ Some x → at < known.entries)

-- ---- which activation runs

-- the topmost activation is one of the module
abbrev pub IsModule : List Activation → Type 0
IsModule (InModule frame ∷ below) = Unit {0}
IsModule stack = ⊥

-- each activation of an import is directly above one of the module, and the host's own work is at the bottom
abbrev pub AreNested : List Activation → Type 0
AreNested [] = Unit {0}
AreNested (InModule frame ∷ below) = AreNested below
AreNested (InMain actions ∷ below) = below ≡ []
AreNested (InImport import args actions end ∷ below) = IsModule below × AreNested below

-- ---- the laws

-- the observations of a step's activities, and of `k` steps after it
abbrev pub observed_from : Program → ℕ → StepResult → List Observation
observed_from program k s = activity_observations s.entries ++ observations program k s.next

-- what is known after `so_far` steps of the run of a module under a script, from the store in which it begins
abbrev pub known_so_far : Module → Script → Store → ℕ → Known
known_so_far m script store so_far =
    known_after_all (opening_known store)
    (run_observations (program_of m script) (start_in_store m script store) so_far)

-- for a well-typed configuration within the module, in a store that fits what is known: what the rest of the window
-- reads first is what the store holds, and the sizes that it finds are the store's
abbrev pub ReadsAreReal : Type 0
ReadsAreReal =
    (m : Module) (heights : Heights) (program : Program) (known : Known) (config : Config) (k : ℕ)
    → IsValid m → IsTypedCode m heights → IsProgram m program → IsConfig m heights config → AreNested config.stack
    → IsModule config.stack → IsKnownOf known config.store
    → IsReadOf known (window (observations program k (Running config))) config.store

-- if results are delivered to activations of the module, and what follows without a turn is safe: what the rest of the
-- window reads first is what the store holds, and the sizes that it finds are the store's
abbrev pub ReadsAreRealAfterSettling : Type 0
ReadsAreRealAfterSettling =
    (m : Module) (heights : Heights) (program : Program) (known : Known) (store : Store) (counts : List ℕ)
    (stack : List Activation) (results : List Val) (k : ℕ)
    → IsValid m → IsTypedCode m heights → IsProgram m program → IsStore m store → AreNested stack → IsModule stack
    → IsKnownOf known store → IsSafe m heights (after_settling store counts (deliver stack results)).next
    → IsReadOf known (window (observed_from program k (after_settling store counts (deliver stack results)))) store

-- for each module that can be run, and each script that fits it and links with it, at each step at which the run goes
-- on: what is known from the observations so far fits the store; and if control is within the module, what the rest of
-- the window reads first is what the store holds
abbrev pub RunsReadWhatIsThere : Type 0
RunsReadWhatIsThere =
    (m : Module) (script : Script) (supply : Supply) (store : Store) (so_far : ℕ) (config : Config)
    → IsRunnable m → Fits m script → supply_of m script ≡ Ok supply → instantiate m supply ≡ Ok store
    → (run_from (program_of m script) all_one (start_in_store m script store) so_far).at ≡ Running config
    → IsKnownOf (known_so_far m script store so_far) config.store
    × (IsModule config.stack → (k : ℕ)
    → IsReadOf (known_so_far m script store so_far)
    (window (observations (program_of m script) k (Running config))) config.store)
