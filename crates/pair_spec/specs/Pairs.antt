-- Two modules, of which each may import what the other exports.
use Rattle.std.specs.Prelude.{ℕ, List, Option, Some, None, Bool, true, false, not, length, filter, find, bytes_eq, codes, option_and_then}
use Rattle.wasm_syntax.specs.declared.modules.Module.{Module}
use Rattle.wasm_syntax.specs.declared.modules.Import.{Import}
use Rattle.wasm_syntax.specs.declared.modules.ImportKind.{ImportKind}
use Rattle.wasm_syntax.specs.declared.modules.ImportKind.TheVariants as import
use Rattle.wasm_syntax.specs.declared.modules.Export.{Export}
use Rattle.wasm_syntax.specs.declared.modules.ExportKind.{ExportKind}
use Rattle.wasm_syntax.specs.declared.modules.ExportKind.TheVariants as export
use Rattle.instance_spec.specs.declared.sides.Side.{Side}
use Rattle.instance_spec.specs.declared.sides.Side.TheVariants.{Left, Right}

-- the modules of a pair, one on each side
pub record ModulePair : Type 0 where
  pub left : Module
  pub right : Module

-- the module on a side
abbrev pub module_of : ModulePair → Side → Module
module_of pair Left = pair.left
module_of pair Right = pair.right

-- the other side
abbrev pub other_side : Side → Side
other_side Left = Right
other_side Right = Left

-- the module name with which a side imports what the other side exports
abbrev pub other_name : Side → List ℕ
other_name Left = codes "right"
other_name Right = codes "left"

-- whether an import of a side is one from the other side; each other import is the host's
abbrev pub is_from_other : Side → Import → Bool
is_from_other side i = bytes_eq i.«module» (other_name side)

-- the host's imports, among imports of a side
abbrev pub host_imports : Side → List Import → List Import
host_imports side imports = filter (λ i. not (is_from_other side i)) imports

-- ---- index spaces

-- the index spaces of what is imported and exported (Core 1.0, 2.5.1)
pub data Space : Type 0 where
  Funcs : Space
  Tables : Space
  Memories : Space
  Globals : Space

-- the index space of an import
abbrev pub space_of : ImportKind → Space
space_of (import.Func ty) = Funcs
space_of (import.Table limits) = Tables
space_of (import.Memory limits) = Memories
space_of (import.Global ty) = Globals

-- whether an import has its index in a space
abbrev pub is_in : Space → ImportKind → Bool
is_in Funcs (import.Func ty) = true
is_in Tables (import.Table limits) = true
is_in Memories (import.Memory limits) = true
is_in Globals (import.Global ty) = true
is_in space kind = false

-- the imports of a module that have their indices in a space, in order
abbrev pub imports_in : Space → Module → List Import
imports_in space m = filter (λ i. is_in space i.kind) m.imports

-- the number of definitions of a module in a space
abbrev pub defined_in : Space → Module → ℕ
defined_in Funcs m = length m.funcs
defined_in Tables m = length m.tables
defined_in Memories m = length m.memories
defined_in Globals m = length m.globals

-- the index that an export names, if it is in a space
abbrev pub index_in : Space → ExportKind → Option ℕ
index_in Funcs (export.Func x) = Some x
index_in Tables (export.Table x) = Some x
index_in Memories (export.Memory x) = Some x
index_in Globals (export.Global x) = Some x
index_in space kind = None

-- the index that the export of a name names, if there is one and it is in a space (Core 1.0, 2.5.10)
abbrev pub exported_index : Space → Module → List ℕ → Option ℕ
exported_index space m name =
    option_and_then (λ e. index_in space e.kind) (find (λ (e : Export). bytes_eq e.name name) m.exports)
