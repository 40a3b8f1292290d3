-- A widened module, and its run.
use Rattle.std.specs.Prelude.{◌≡◌, [], ◌∷◌, None, codes}
use Rattle.wasm_syntax.specs.declared.values.ValType.TheVariants.{I32}
use Rattle.wasm_syntax.specs.declared.instructions.Instr.TheVariants.{End, Call, CallIndirect, Const}
use Rattle.wasm_syntax.specs.declared.modules.ImportKind.TheVariants.{Func as FuncImport}
use Rattle.wasm_syntax.specs.declared.modules.ExportKind.TheVariants.{Func as FuncExport, Table as TableExport}
use Rattle.wasm_syntax.specs.declared.modules.ElemSeg.TheVariants.{Active}
use Rattle.wasm_syntax.specs.declared.modules.Module.{Module}
use Rattle.wasm_syntax.specs.EmptyModule.{empty_module}
use Rattle.host_script.specs.declared.scripts.Action.TheVariants as action
use Rattle.instance_spec.specs.Widened.{widened}
use Rattle.worked_histories.specs.Build.{i32, func_type, limits, import_of, export_of, func}
use Rattle.worked_histories.specs.Modules.{table_entry}
use Rattle.worked_instances.specs.ForeignLines.{own_lines, ends}
use Rattle.worked_instances.specs.ForeignModules.{callback, registers}
use Rattle.worked_instances.specs.ForeignHistories.{callback_lines}

-- the widened module of `table_entry` with a callback
abbrev pub widened_entry : Module
widened_entry =
    record empty_module {
      types = func_type [] [] ∷ func_type [] (I32 ∷ []) ∷ func_type [] (I32 ∷ []) ∷ [];
      imports =
          import_of (codes "h") (codes "f") (FuncImport 0) ∷ import_of (codes "foreign") (codes "cb") (FuncImport 2)
          ∷ [];
      funcs =
          func 1 [] (Call 0 ∷ Const (i32 0) ∷ CallIndirect 1 ∷ End ∷ []) ∷ func 1 [] (Const (i32 7) ∷ End ∷ [])
          ∷ func 0 [] (End ∷ []) ∷ [];
      tables = limits 2 None ∷ [];
      exports =
          export_of (codes "g") (FuncExport 2) ∷ export_of (codes "b") (FuncExport 4)
          ∷ export_of (codes "t") (TableExport 0) ∷ export_of (codes "cb") (FuncExport 1) ∷ [];
      elems = Active 0 (Const (i32 0) ∷ End ∷ []) (3 ∷ []) ∷ [];
    }

-- the module and its run
pub record WorkedWidened : Type 0 where
  pub widened_module : widened table_entry callback ≡ widened_entry
  pub alike : own_lines widened_entry (registers (i32 9) (action.Call 2 [] ∷ [])) 5 ≡ ends 5 callback_lines
