-- What is known during a run is typed.
use Rattle.std.specs.Prelude.{◌≡◌, ℕ, ◌<◌, ◌≤◌, Some, Ok, false, slice_get}
use Rattle.wasm_syntax.specs.declared.values.ValType.{ValType}
use Rattle.wasm_syntax.specs.declared.values.Val.{Val}
use Rattle.wasm_syntax.specs.declared.signatures.Limits.{Limits}
use Rattle.wasm_syntax.specs.declared.signatures.GlobalType.{GlobalType}
use Rattle.wasm_syntax.specs.declared.modules.Module.{Module}
use Rattle.wasm_syntax.specs.Index.{all_tables, all_memories, all_globals}
use Rattle.host_script.specs.declared.scripts.Script.{Script}
use Rattle.host_script.specs.declared.scripts.Supply.{Supply}
use Rattle.host_script.specs.Fits.{Fits}
use Rattle.host_script.specs.Supply.{supply_of}
use Rattle.history_spec.specs.Store.{Store}
use Rattle.history_spec.specs.Configuration.{Config}
use Rattle.history_spec.specs.Instantiation.{instantiate}
use Rattle.history_spec.specs.Run.{all_one, program_of, start_in_store, run_from}
use Rattle.history_spec.specs.Step.{Running}
use Rattle.record_replay_spec.specs.Known.{Known}
use Rattle.tape_laws.specs.RealReads.{known_so_far}
use Rattle.type_safety.specs.Stores.{func_count, global_types}
use Rattle.type_safety.specs.Supplies.{IsRunnable}
use Rattle.type_safety.specs.Values.{IsValue}

-- what is known is typed as a store of the module is (Core 1.0, appendix 7.5, "Store Validity"): bytes, entries that
-- name functions, globals with values of their types, and sizes that are at least the declared ones
pub record AreTypedKnown (m : Module) (known : Known) : Type 0 where
  pub byte : (at : ℕ) → known.byte at < 256
  pub entry : (at func : ℕ) → known.entry at ≡ Some func → func < func_count m
  pub global : (at : ℕ) (ty : ValType) (value : Val) → slice_get (global_types m) at ≡ Some ty
      → known.global at ≡ Some value → IsValue (func_count m) ty value
  pub pages : (limits : Limits) → slice_get (all_memories m) 0 ≡ Some limits → limits.min ≤ known.pages
  pub entries : (limits : Limits) → slice_get (all_tables m) 0 ≡ Some limits → limits.min ≤ known.entries

-- each immutable global is known with the value that it has in a store
abbrev pub KnowsImmutable : Module → Known → Store → Type 0
KnowsImmutable m known store =
    (at : ℕ) (ty : GlobalType) → slice_get (all_globals m) at ≡ Some ty → ty.mutable ≡ false
    → known.global at ≡ slice_get store.globals at

-- what is known is typed, and has the values of the immutable globals in the store in which the run begins
pub record AreKnownValues (m : Module) (first : Store) (known : Known) : Type 0 where
  pub typed : AreTypedKnown m known
  pub immutable : KnowsImmutable m known first

-- for each module that can be run, and each script that fits it and links with it, at each step at which the run goes
-- on: what is known from the observations so far is typed, and immutable globals are known with their first values
abbrev pub KnownValuesAreTyped : Type 0
KnownValuesAreTyped =
    (m : Module) (script : Script) (supply : Supply) (store : Store) (so_far : ℕ) (config : Config)
    → IsRunnable m → Fits m script → supply_of m script ≡ Ok supply → instantiate m supply ≡ Ok store
    → (run_from (program_of m script) all_one (start_in_store m script store) so_far).at ≡ Running config
    → AreKnownValues m store (known_so_far m script store so_far)
