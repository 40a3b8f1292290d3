-- What a replay module shares with its original, and what it lacks.
use Rattle.std.specs.Prelude.{◌≡◌, ℕ, ◌+◌, [], Some, None, slice_get}
use Rattle.wasm_syntax.specs.declared.signatures.FuncType.{FuncType}
use Rattle.wasm_syntax.specs.declared.modules.Module.{Module}
use Rattle.wasm_syntax.specs.declared.modules.Func.{Func}
use Rattle.wasm_syntax.specs.Index.{imported_funcs, type_at, func_type}
use Rattle.history_spec.specs.Replay.{entry_function}
use Rattle.replay_module_spec.specs.Fragments.{start_index}
use Rattle.replay_module_spec.specs.Functions.{start_type}

-- types and functions keep their indices; a defined function keeps its type index, locals and body
pub record KeepsOriginals (m replay : Module) : Type 0 where
  pub types : (t : ℕ) (ty : FuncType) → type_at m t ≡ Some ty → type_at replay t ≡ Some ty
  pub signatures : (f : ℕ) (ty : FuncType) → func_type m f ≡ Some ty → func_type replay f ≡ Some ty
  pub funcs : (place : ℕ) (func : Func) → slice_get m.funcs place ≡ Some func
      → slice_get replay.funcs (imported_funcs m + place) ≡ Some func

-- the replay module has no imports and no start function, and its one export is `_start`, without parameters and
-- results
pub record StandsAlone (m replay : Module) : Type 0 where
  pub imports : replay.imports ≡ []
  pub start : replay.start ≡ None
  pub entry : entry_function replay ≡ Some (start_index m)
  pub entry_type : func_type replay (start_index m) ≡ Some start_type
