-- Laws of state modules: they are valid and link with their supplies, if the state is one in which the module may be.
use Rattle.std.specs.Prelude.{◌≡◌, ℕ, ◌*◌, ◌<◌, ◌≤◌, List, [], ◌∷◌, length, Option, Some, None, Ok, IsTrue, IfSome, All}
use Rattle.wasm_syntax.specs.declared.limits.TheConstants.{MAX_ENTRIES, MAX_PAGES, PAGE_SIZE}
use Rattle.wasm_syntax.specs.declared.signatures.Limits.{Limits}
use Rattle.wasm_syntax.specs.declared.modules.Module.{Module}
use Rattle.wasm_syntax.specs.Encoding.Forms.{IsCoreModule}
use Rattle.wasm_syntax.specs.Index.{all_globals, all_memories, all_tables}
use Rattle.host_script.specs.declared.scripts.Supply.{Supply}
use Rattle.host_script.specs.Supply.{is_within}
use Rattle.history_spec.specs.Store.{Store}
use Rattle.history_spec.specs.Instantiation.{instantiate, memory_limits, table_limits}
use Rattle.record_replay_spec.specs.Known.{Known}
use Rattle.rest_spec.specs.KnownStates.{KnownState, state_of_known}
use Rattle.rest_spec.specs.StateModules.{state_module_of, state_pages, state_supply_of}
use Rattle.rest_laws.specs.KnownStores.{IsKnownStore}
use Rattle.rest_laws.specs.Replays.{HaveSameMaxima}
use Rattle.type_safety.specs.Stores.{IsStore, func_count, global_types}
use Rattle.type_safety.specs.Supplies.{IsRunnable, IsSupply}
use Rattle.type_safety.specs.Values.{AreValues}
use Rattle.state_laws.specs.Opens.{state_of_store}

-- ---- states

-- a size that a memory or table may have: 0 if there is none, else at least the declared minimum, within the maximum of
-- the limits with which the run begins, and at most `most`
abbrev pub IsSize : (most : ℕ) → (declared : List Limits) → (first : Option Limits) → (size : ℕ) → Type 0
IsSize most [] first size = size ≡ 0
IsSize most (declared ∷ more) None size = ⊥
IsSize most (declared ∷ more) (Some first) size =
    (declared.min ≤ size) × IsTrue (is_within size first.max) × (size ≤ most)

-- a state in which a module with this supply may be: its memory is whole pages of bytes, each entry of its table is
-- empty or names a function, both have sizes within their limits, and each global has a value of its type
pub record IsStateOf (m : Module) (supply : Supply) (state : KnownState) : Type 0 where
  pub bytes : All (λ byte. byte < 256) state.bytes
  pub whole : length state.bytes ≡ state_pages state * PAGE_SIZE
  pub pages : IsSize MAX_PAGES (all_memories m) (memory_limits m supply) (state_pages state)
  pub entries : All (λ entry. IfSome entry (λ func. func < func_count m)) state.entries
  pub size : IsSize MAX_ENTRIES (all_tables m) (table_limits m supply) (length state.entries)
  pub globals : AreValues (func_count m) (global_types m) state.globals

-- the state of each well-typed store that has the maxima of the store in which a module begins is one in which the
-- module may be
abbrev pub StoresHaveStates : Type 0
StoresHaveStates =
    (m : Module) (supply : Supply) (store other : Store) → instantiate m supply ≡ Ok store → IsStore m other
    → HaveSameMaxima store other → IsStateOf m supply (state_of_store other)

-- the state of what is known before a call is one in which the module may be
abbrev pub KnownStoresHaveStates : Type 0
KnownStoresHaveStates =
    (m : Module) (supply : Supply) (store : Store) (known : Known) → instantiate m supply ≡ Ok store
    → IsKnownStore m store known → IsStateOf m supply (state_of_known (length (all_globals m)) known)

-- ---- modules

-- a module of the form Core that can be run, and a supply that matches its imports
pub record IsRunnableWith (m : Module) (supply : Supply) : Type 0 where
  pub runnable : IsRunnable m
  pub core : IsCoreModule m
  pub supplied : IsSupply m supply

-- the module that begins in a state, with its supply, can be run, if the original can and may be in the state
abbrev pub StateModulesAreValid : Type 0
StateModulesAreValid =
    (m : Module) (supply : Supply) (state : KnownState) → IsRunnableWith m supply → IsStateOf m supply state
    → IsRunnableWith (state_module_of m state) (state_supply_of supply state)
