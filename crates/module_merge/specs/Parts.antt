-- A replay module by its parts.
use Rattle.std.specs.Prelude.{ℕ, List, [], ◌∷◌, ◌++◌, map, None, codes}
use Rattle.std.specs.List.{zip}
use Rattle.wasm_syntax.specs.declared.values.Val.{Val}
use Rattle.wasm_syntax.specs.declared.modules.Export.{Export}
use Rattle.wasm_syntax.specs.declared.modules.ExportKind.TheVariants.{Func as FuncExport}
use Rattle.wasm_syntax.specs.declared.modules.Global.{Global}
use Rattle.wasm_syntax.specs.declared.modules.Module.{Module}
use Rattle.wasm_syntax.specs.Index.{imported_globals}
use Rattle.replay_module_spec.specs.Merge.{constant_data, constant_elem, constant_global, declaration, supplied_global}
use Rattle.replay_module_spec.specs.declared.fragments.Fragment.{Fragment}
use Rattle.module_merge.specs.declared.modules.Code.{Code}
use Rattle.module_merge.specs.declared.modules.Segments.{Segments}
use Rattle.module_merge.specs.declared.modules.Outline.{Outline}

-- the export of a function as the start of a replay
abbrev pub start_export : ℕ → Export
start_export entry = record { name = codes "_start"; kind = FuncExport entry }

-- the globals of an original, with the values that the supply gives or that they begin with
abbrev pub kept_globals : Module → List Val → List Global
kept_globals m imported =
    map supplied_global (zip (imported_globals m) imported) ++ map (constant_global imported) m.globals

-- a module with these sections, without imports and without a start function
abbrev pub module_of_sections : Outline → (globals : List Global) → Code → Segments → (entry : ℕ) → Module
module_of_sections outline globals code segments entry =
    record {
      types = code.types;
      imports = [];
      funcs = code.funcs;
      tables = outline.tables;
      memories = outline.memories;
      globals = outline.globals ++ globals;
      exports = start_export entry ∷ [];
      start = None;
      elems = segments.elems;
      datas = segments.datas;
      customs = outline.customs;
    }

-- the replay module of what is kept of the original and of the generated part
abbrev pub module_of_parts : Outline → Code → Segments → (imported : List Val) → Fragment → Module
module_of_parts outline code segments imported fragment =
    record {
      types = code.types ++ fragment.types;
      imports = [];
      funcs = fragment.bodies ++ (code.funcs ++ fragment.helpers);
      tables = outline.tables;
      memories = outline.memories;
      globals = outline.globals ++ fragment.globals;
      exports = start_export fragment.entry ∷ [];
      start = None;
      elems = map (constant_elem imported) segments.elems ++ declaration fragment.declared;
      datas = map (constant_data imported) segments.datas;
      customs = outline.customs;
    }
