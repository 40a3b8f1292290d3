-- The form of a module whose run shows an original: it declares the numbers of functions that the original
-- imports and defines, has no imports itself, and exports one function without parameters and results. A guarded
-- replay, which a custom section marks, exports globals besides.
use Rattle.std.specs.Prelude.{◌≡◌, ℕ, ◌+◌, ◌^◌, ◌<◌, ◌≤◌, List, [], ◌∷◌, ◌++◌, length, filter, Option, Some, Bool, true, false, codes, bytes_eq}
use Rattle.std.specs.List.{list_any}
use Rattle.leb_bytes.specs.Unsigned.{u32_bytes}
use Rattle.wasm_syntax.specs.declared.modules.Custom.{Custom}
use Rattle.wasm_syntax.specs.declared.modules.Export.{Export}
use Rattle.wasm_syntax.specs.declared.modules.ExportKind.{ExportKind}
use Rattle.wasm_syntax.specs.declared.modules.ExportKind.TheVariants.{Global}
use Rattle.wasm_syntax.specs.declared.modules.Module.{Module}
use Rattle.wasm_syntax.specs.Index.{func_indices, func_type}
use Rattle.history_spec.specs.Projection.{Layout}
use Rattle.history_spec.specs.Replay.{func_of_exports}

-- a custom section has the layout's name
abbrev pub has_layout_name : Custom → Bool
has_layout_name custom = bytes_eq custom.name (codes "r3.layout")

-- the custom sections with the layout's name, in the order of the module
abbrev pub layout_sections : Module → List Custom
layout_sections m = filter has_layout_name m.customs

-- bytes are the shortest encodings of two numbers, and nothing else
pub record AreLayoutBytes (bytes : List ℕ) (layout : Layout) : Type 0 where
  pub small_imports : layout.imports < 2 ^ 32
  pub small_defined : layout.defined < 2 ^ 32
  pub written : bytes ≡ u32_bytes layout.imports ++ u32_bytes layout.defined

-- the only custom section with the layout's name has these numbers, and the module has at least their sum of
-- functions
pub record HasLayout (m : Module) (layout : Layout) : Type 0 where
  pub section : Custom
  pub only : layout_sections m ≡ section ∷ []
  pub bytes : AreLayoutBytes section.bytes layout
  pub within : layout.imports + layout.defined ≤ length (func_indices m)

-- a custom section has the name that marks a guarded replay
abbrev pub has_guard_name : Custom → Bool
has_guard_name custom = bytes_eq custom.name (codes "r3.guard")

-- a module is marked as a guarded replay; what the section contains does not matter
abbrev pub is_guarded : Module → Bool
is_guarded m = list_any has_guard_name m.customs

-- an export is none of a global
abbrev pub is_no_global : ExportKind → Bool
is_no_global (Global index) = false
is_no_global kind = true

-- the exports without those of globals
abbrev pub exports_but_globals : List Export → List Export
exports_but_globals exports = filter (λ (e : Export). is_no_global e.kind) exports

-- the exports among which that of the entry is the only one: those that are not of globals, if the module is guarded
abbrev pub entry_exports : (guarded : Bool) → List Export → List Export
entry_exports true exports = exports_but_globals exports
entry_exports false exports = exports

-- the function that a module exports as `_start`, if this is its only export, apart from those of globals if the module
-- is a guarded replay
abbrev pub exported_entry : Module → Option ℕ
exported_entry m = func_of_exports (entry_exports (is_guarded m) m.exports)

-- the exported function is this one under the name `_start`, which has no parameters and results
pub record HasEntry (m : Module) (entry : ℕ) : Type 0 where
  pub exported : exported_entry m ≡ Some entry
  pub typed : func_type m entry ≡ Some (record { params = []; results = [] })

-- a module has a layout, no imports, and an entry
pub record IsReplayable (m : Module) (layout : Layout) (entry : ℕ) : Type 0 where
  pub laid : HasLayout m layout
  pub alone : m.imports ≡ []
  pub enters : HasEntry m entry
