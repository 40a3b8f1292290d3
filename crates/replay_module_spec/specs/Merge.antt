-- The replay module of any module, from a supply and a generated part: it has no imports, and keeps the index of
-- every function, type, table, memory and global of the original.
use Rattle.std.specs.Prelude.{ℕ, List, [], ◌∷◌, ◌++◌, length, map, min, None, option_map, option_to_list, codes}
use Rattle.std.specs.List.{zip}
use Rattle.leb_bytes.specs.Unsigned.{u32_bytes}
use Rattle.wasm_syntax.specs.declared.limits.TheConstants.{MAX_DECLARED_PAGES}
use Rattle.wasm_syntax.specs.declared.values.Val.{Val}
use Rattle.wasm_syntax.specs.declared.values.ValType.TheVariants.{I32}
use Rattle.wasm_syntax.specs.declared.signatures.Limits.{Limits}
use Rattle.wasm_syntax.specs.declared.signatures.GlobalType.{GlobalType}
use Rattle.wasm_syntax.specs.declared.instructions.Instr.{Instr}
use Rattle.wasm_syntax.specs.declared.instructions.Instr.TheVariants.{End, Const}
use Rattle.wasm_syntax.specs.declared.modules.ExportKind.TheVariants.{Func as FuncExport}
use Rattle.wasm_syntax.specs.declared.modules.Global.{Global}
use Rattle.wasm_syntax.specs.declared.modules.ElemSeg.{ElemSeg}
use Rattle.wasm_syntax.specs.declared.modules.ElemSeg.TheVariants.{Active, Declared}
use Rattle.wasm_syntax.specs.declared.modules.DataSeg.{DataSeg}
use Rattle.wasm_syntax.specs.declared.modules.Custom.{Custom}
use Rattle.wasm_syntax.specs.declared.modules.Module.{Module}
use Rattle.wasm_syntax.specs.Index.{imported_funcs, imported_globals}
use Rattle.host_script.specs.declared.scripts.Supply.{Supply}
use Rattle.history_spec.specs.Code.{zero_of}
use Rattle.history_spec.specs.Instantiation.{constant, global_value, memory_limits, table_limits}
use Rattle.history_spec.specs.Projection.{Layout}
use Rattle.replay_module_spec.specs.declared.fragments.Fragment.{Fragment}

-- the expression of one constant
abbrev pub constant_body : Val → List Instr
constant_body value = Const value ∷ End ∷ []

-- limits with a maximum that a valid memory may declare, as in `IsMemory`; lowering a greater one to it changes no
-- growth
abbrev pub memory_written : Limits → Limits
memory_written limits = record limits { max = option_map (λ max. min max MAX_DECLARED_PAGES) limits.max }

-- an imported global, defined with the value that the supply gives
abbrev pub supplied_global : GlobalType × Val → Global
supplied_global g = record { ty = g.0; init = constant_body g.1 }

-- a defined global with its initial value as a constant
abbrev pub constant_global : List Val → Global → Global
constant_global imported global = record global { init = constant_body (global_value imported global) }

-- an offset with its value as a constant
abbrev pub constant_offset : List Val → List Instr → List Instr
constant_offset imported offset = constant_body (constant imported (zero_of I32) offset)

-- a segment with its offset as a constant
abbrev pub constant_elem : List Val → ElemSeg → ElemSeg
constant_elem imported (Active table offset funcs) = Active table (constant_offset imported offset) funcs
constant_elem imported (Declared funcs) = Declared funcs

abbrev pub constant_data : List Val → DataSeg → DataSeg
constant_data imported segment = record segment { offset = constant_offset imported segment.offset }

-- one segment that declares the functions that bodies refer to, if there are any
abbrev pub declaration : List ℕ → List ElemSeg
declaration [] = []
declaration (func ∷ funcs) = Declared (func ∷ funcs) ∷ []

-- the layout that a replay module declares: the numbers of functions that the original imports and defines
abbrev pub layout_of : Module → Layout
layout_of m = record { imports = imported_funcs m; defined = length m.funcs }

-- the custom section with the numbers of functions that the original imports and defines
abbrev pub layout_section : Module → Custom
layout_section m =
    record { name = codes "r3.layout"; bytes = u32_bytes (imported_funcs m) ++ u32_bytes (length m.funcs) }

-- the replay module of any module, from a generated part
abbrev pub replay_module : Module → Supply → Fragment → Module
replay_module m supply fragment =
    record {
      types = m.types ++ fragment.types;
      imports = [];
      funcs = fragment.bodies ++ (m.funcs ++ fragment.helpers);
      tables = option_to_list (table_limits m supply);
      memories = option_to_list (option_map memory_written (memory_limits m supply));
      globals = map supplied_global (zip (imported_globals m) supply.globals)
          ++ (map (constant_global supply.globals) m.globals ++ fragment.globals);
      exports = record { name = codes "_start"; kind = FuncExport fragment.entry } ∷ [];
      start = None;
      elems = map (constant_elem supply.globals) m.elems ++ declaration fragment.declared;
      datas = map (constant_data supply.globals) m.datas;
      customs = layout_section m ∷ [];
    }
