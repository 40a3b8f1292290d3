-- The linked module: one module that has all of both modules of a pair, with each index resolved.
use Rattle.std.specs.Prelude.{ℕ, List, [], ◌∷◌, ◌++◌, map, Option, Some, None, codes}
use Rattle.wasm_syntax.specs.declared.instructions.Instr.{Instr}
use Rattle.wasm_syntax.specs.declared.instructions.Instr.TheVariants.{End, GlobalGet}
use Rattle.wasm_syntax.specs.declared.modules.Module.{Module}
use Rattle.wasm_syntax.specs.declared.modules.Func.{Func}
use Rattle.wasm_syntax.specs.declared.modules.Global.{Global}
use Rattle.wasm_syntax.specs.declared.modules.Import.{Import}
use Rattle.wasm_syntax.specs.declared.modules.ImportKind.{ImportKind}
use Rattle.wasm_syntax.specs.declared.modules.ImportKind.TheVariants as import
use Rattle.wasm_syntax.specs.declared.modules.Export.{Export}
use Rattle.wasm_syntax.specs.declared.modules.ExportKind.{ExportKind}
use Rattle.wasm_syntax.specs.declared.modules.ExportKind.TheVariants as export
use Rattle.wasm_syntax.specs.declared.modules.ElemSeg.{ElemSeg}
use Rattle.wasm_syntax.specs.declared.modules.ElemSeg.TheVariants.{Active, Declared}
use Rattle.wasm_syntax.specs.declared.modules.DataSeg.{DataSeg}
use Rattle.instance_spec.specs.declared.sides.Side.{Side}
use Rattle.instance_spec.specs.declared.sides.Side.TheVariants.{Left, Right}
use Rattle.instance_spec.specs.Instances.{Instance, resolved_instr}
use Rattle.pair_spec.specs.Pairs.{ModulePair, host_imports, Globals}
use Rattle.pair_spec.specs.Chains.{ChainEnd, Defined, HostImport, end_of}
use Rattle.pair_spec.specs.Numbers.{number_of, side_instance}
use Rattle.pair_spec.specs.PairRuns.{init_at, pair_start_func}

-- what an import of the host brings in, with the number of its type
abbrev pub linked_import_kind : Instance → ImportKind → ImportKind
linked_import_kind i (import.Func ty) = import.Func (i.types ty)
linked_import_kind i kind = kind

-- an import of the host
abbrev pub linked_import : Instance → Import → Import
linked_import i imported = record imported { kind = linked_import_kind i imported.kind }

-- a function with the number of its type, and with all indices in its body resolved
abbrev pub linked_func : Instance → Func → Func
linked_func i f = record f { ty = i.types f.ty; body = map (resolved_instr i) f.body }

-- a constant expression that names a global, by the end of the global's chain: it names the host's import by its
-- number, and is the constant of a defined one
abbrev pub constant_by : ModulePair → (body : List Instr) → Option ChainEnd → List Instr
constant_by pair body None = body
constant_by pair body (Some (HostImport side index)) =
    GlobalGet (number_of pair Globals (HostImport side index)) ∷ End ∷ []
constant_by pair body (Some (Defined side index)) = init_at pair side index

-- a constant expression of a side
abbrev pub linked_constant : ModulePair → Side → List Instr → List Instr
linked_constant pair side (GlobalGet x ∷ End ∷ []) =
    constant_by pair (GlobalGet x ∷ End ∷ []) (end_of pair Globals side x)
linked_constant pair side body = body

-- a global of a side
abbrev pub linked_global : ModulePair → Side → Global → Global
linked_global pair side g = record g { init = linked_constant pair side g.init }

-- what an export names, by its number; there is one table and one memory
abbrev pub linked_export_kind : Instance → ExportKind → ExportKind
linked_export_kind i (export.Func x) = export.Func (i.funcs x)
linked_export_kind i (export.Global x) = export.Global (i.globals x)
linked_export_kind i (export.Table x) = export.Table 0
linked_export_kind i (export.Memory x) = export.Memory 0

-- the beginning of the names of a side's exports
abbrev pub side_prefix : Side → List ℕ
side_prefix Left = codes "left."
side_prefix Right = codes "right."

-- an export of a side
abbrev pub linked_export : ModulePair → Side → Export → Export
linked_export pair side e =
    record { name = side_prefix side ++ e.name; kind = linked_export_kind (side_instance pair side) e.kind }

-- an element segment of a side
abbrev pub linked_elem : ModulePair → Side → ElemSeg → ElemSeg
linked_elem pair side (Active table offset funcs) =
    Active table (linked_constant pair side offset) (map ((side_instance pair side).funcs) funcs)
linked_elem pair side (Declared funcs) = Declared (map ((side_instance pair side).funcs) funcs)

-- a data segment of a side
abbrev pub linked_data : ModulePair → Side → DataSeg → DataSeg
linked_data pair side d = record d { offset = linked_constant pair side d.offset }

-- the items of both modules, each made from that of its side
abbrev pub of_both : {A B : Type 0} → ModulePair → (Side → A → B) → (Module → List A) → List B
of_both pair make items = map (make Left) (items pair.left) ++ map (make Right) (items pair.right)

-- The linked module. Its imports are the host's. In each list the left module's items come before the right one's, and
-- what an export of a side names is exported under the name of the side with that of the export.
abbrev pub linked : ModulePair → Module
linked pair =
    record {
      types = pair.left.types ++ pair.right.types;
      imports = map (linked_import (side_instance pair Left)) (host_imports Left pair.left.imports)
          ++ map (linked_import (side_instance pair Right)) (host_imports Right pair.right.imports);
      funcs = of_both pair (λ side. linked_func (side_instance pair side)) (λ (m : Module). m.funcs);
      tables = pair.left.tables ++ pair.right.tables;
      memories = pair.left.memories ++ pair.right.memories;
      globals = of_both pair (linked_global pair) (λ (m : Module). m.globals);
      exports = of_both pair (linked_export pair) (λ (m : Module). m.exports);
      start = pair_start_func pair;
      elems = of_both pair (linked_elem pair) (λ (m : Module). m.elems);
      datas = of_both pair (linked_data pair) (λ (m : Module). m.datas);
      customs = [];
    }
