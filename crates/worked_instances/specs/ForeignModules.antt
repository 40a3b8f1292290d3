-- The modules, declarations and scripts of the examples.
use Rattle.std.specs.Prelude.{ℕ, List, [], ◌∷◌, Option, Some, None, codes}
use Rattle.base.specs.declared.opcodes.TheConstants.{I32_ADD}
use Rattle.wasm_syntax.specs.declared.values.ValType.TheVariants.{I32, I64}
use Rattle.wasm_syntax.specs.declared.values.Val.{Val}
use Rattle.wasm_syntax.specs.declared.signatures.FuncType.{FuncType}
use Rattle.wasm_syntax.specs.declared.signatures.Limits.{Limits}
use Rattle.wasm_syntax.specs.declared.instructions.Instr.TheVariants.{End, Call, CallIndirect, Const, Numeric}
use Rattle.wasm_syntax.specs.declared.modules.ImportKind.TheVariants.{Func as FuncImport, Table as TableImport}
use Rattle.wasm_syntax.specs.declared.modules.ExportKind.TheVariants.{Func as FuncExport, Table as TableExport}
use Rattle.wasm_syntax.specs.declared.modules.ElemSeg.TheVariants.{Active}
use Rattle.wasm_syntax.specs.declared.modules.Module.{Module}
use Rattle.wasm_syntax.specs.EmptyModule.{empty_module}
use Rattle.host_script.specs.declared.scripts.Script.{Script}
use Rattle.host_script.specs.declared.scripts.Action.{Action}
use Rattle.host_script.specs.declared.scripts.Action.TheVariants as action
use Rattle.instance_spec.specs.declared.decls.Decl.{Decl}
use Rattle.worked_histories.specs.Build.{i32, func_type, limits, import_of, export_of, func, returns, calls, script}

-- a declared function by its name and its type
abbrev pub declared : List ℕ → FuncType → Decl
declared name ty = record { name = name; ty = ty }

-- the declaration of a callback that returns an i32
abbrev pub callback : List Decl
callback = declared (codes "cb") (func_type [] (I32 ∷ [])) ∷ []

-- the declaration of a callback that returns an i64
abbrev pub wide_callback : List Decl
wide_callback = declared (codes "cb") (func_type [] (I64 ∷ [])) ∷ []

-- answers to calls of the import, which puts the first foreign function into the table, and to calls of that function
abbrev pub registers : (result : Val) → (main : List Action) → Script
registers result main =
    script
    (calls (returns (action.SetTable 0 (Some 1) ∷ []) None ∷ []) ∷ calls (returns [] (Some result) ∷ []) ∷ [])
    main

-- ---- a foreign function that calls back

-- a module that lets the host fill its table, and calls what it finds there; its second function calls its third
abbrev pub called_back : Module
called_back =
    record empty_module {
      types = func_type [] [] ∷ func_type [] (I32 ∷ []) ∷ [];
      imports = import_of (codes "h") (codes "f") (FuncImport 0) ∷ [];
      funcs =
          func 1 [] (Call 0 ∷ Const (i32 0) ∷ CallIndirect 1 ∷ End ∷ [])
          ∷ func 1 [] (Call 3 ∷ Const (i32 1) ∷ Numeric I32_ADD ∷ End ∷ [])
          ∷ func 1 [] (Const (i32 7) ∷ End ∷ []) ∷ [];
      tables = limits 2 None ∷ [];
      exports =
          export_of (codes "g") (FuncExport 1) ∷ export_of (codes "e") (FuncExport 2)
          ∷ export_of (codes "t") (TableExport 0) ∷ [];
    }

-- two declared functions, of which the second is the callback
abbrev pub two_callbacks : List Decl
two_callbacks = declared (codes "log") (func_type (I64 ∷ []) []) ∷ callback

-- the import puts the second foreign function into the table, and this function calls the second of the module's own
abbrev pub calls_back : Script
calls_back =
    script
    (calls (returns (action.SetTable 0 (Some 2) ∷ []) None ∷ []) ∷ None
    ∷ calls (returns (action.Call 4 [] ∷ []) (Some (i32 9)) ∷ []) ∷ [])
    (action.Call 3 [] ∷ [])

-- ---- an imported table

-- a module that imports its table, puts its one function first, and calls what is second in the table
abbrev pub imported_table : Module
imported_table =
    record empty_module {
      types = func_type (I32 ∷ []) (I32 ∷ []) ∷ func_type [] (I32 ∷ []) ∷ [];
      imports = import_of (codes "h") (codes "t") (TableImport (limits 1 None)) ∷ [];
      funcs = func 1 [] (Const (i32 5) ∷ Const (i32 1) ∷ CallIndirect 0 ∷ End ∷ []) ∷ [];
      exports = export_of (codes "g") (FuncExport 0) ∷ [];
      elems = Active 0 (Const (i32 0) ∷ End ∷ []) (0 ∷ []) ∷ [];
    }

-- the declaration of a callback that takes an i32 and returns one
abbrev pub taking_callback : List Decl
taking_callback = declared (codes "cb") (func_type (I32 ∷ []) (I32 ∷ [])) ∷ []

-- the host supplies a table, puts its function second in it, and calls the module
abbrev pub supplies_table : Option Limits → Script
supplies_table table =
    record {
      memory = None;
      table = table;
      globals = [];
      imports = calls (returns [] (Some (i32 6)) ∷ []) ∷ [];
      main = action.SetTable 1 (Some 0) ∷ action.CallTable 0 [] ∷ [];
    }
