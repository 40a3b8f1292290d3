-- A module, and a generated part for it that was written by hand and is of no plan.
use Rattle.std.specs.Prelude.{List, [], ◌∷◌, Some, None, true, false, codes}
use Rattle.base.specs.declared.opcodes.TheConstants.{I32_ADD}
use Rattle.wasm_syntax.specs.declared.values.ValType.TheVariants.{I32}
use Rattle.wasm_syntax.specs.declared.instructions.Instr.{Instr}
use Rattle.wasm_syntax.specs.declared.instructions.Instr.TheVariants.{End, Call, CallIndirect, Drop, LocalGet, LocalTee, GlobalGet, GlobalSet, Const, Numeric, RefFunc, TableSet}
use Rattle.wasm_syntax.specs.declared.modules.ImportKind.TheVariants.{Func, Global}
use Rattle.wasm_syntax.specs.declared.modules.ExportKind.TheVariants.{Func as ExportFunc}
use Rattle.wasm_syntax.specs.declared.modules.Module.{Module}
use Rattle.wasm_syntax.specs.EmptyModule.{empty_module}
use Rattle.host_script.specs.declared.scripts.Supply.{Supply}
use Rattle.replay_module_spec.specs.declared.fragments.Fragment.{Fragment}
use Rattle.replay_module_spec.specs.Merge.{replay_module}
use Rattle.worked_histories.specs.Build.{i32, limits, global_type, import_of, export_of, run, func, global}
use Rattle.worked_histories.specs.Modules.{no_result, one_result}

-- a module that doubles an answer of the host, with a table, a memory and a global; an imported global is the address
-- of its data
abbrev pub doubling : Module
doubling =
    record empty_module {
      types = one_result ∷ [];
      imports =
          import_of (codes "env") (codes "next") (Func 0)
          ∷ import_of (codes "env") (codes "base") (Global (global_type I32 false)) ∷ [];
      funcs = func 0 (run 1 I32 ∷ []) (Call 0 ∷ LocalTee 0 ∷ LocalGet 0 ∷ Numeric I32_ADD ∷ End ∷ []) ∷ [];
      tables = limits 1 None ∷ [];
      memories = limits 1 (Some 2) ∷ [];
      globals = global (global_type I32 true) (GlobalGet 0 ∷ End ∷ []) ∷ [];
      exports = export_of (codes "double") (ExportFunc 1) ∷ [];
      datas = record { memory = 0; offset = GlobalGet 0 ∷ End ∷ []; bytes = 65 ∷ [] } ∷ [];
    }

-- the supply of 8 for the imported global
abbrev pub supplied_eight : Supply
supplied_eight = record { memory = None; table = None; globals = i32 8 ∷ [] }

-- the body of a helper that adds 7 to a global and returns it
abbrev pub answer_body : List Instr
answer_body = GlobalGet 2 ∷ Const (i32 7) ∷ Numeric I32_ADD ∷ GlobalSet 2 ∷ GlobalGet 2 ∷ End ∷ []

-- the body of the exported helper, which puts the original function into the table, calls it by its index, and calls
-- it by the table
abbrev pub two_calls_body : List Instr
two_calls_body =
    Const (i32 0) ∷ RefFunc 1 ∷ TableSet 0 ∷ Call 1 ∷ Drop ∷ Const (i32 0) ∷ CallIndirect 0 ∷ Drop ∷ End ∷ []

-- the generated part, in which the import's body calls the first helper
abbrev pub handmade_part : Fragment
handmade_part =
    record {
      bodies = func 0 [] (Call 2 ∷ End ∷ []) ∷ [];
      helpers = func 0 [] answer_body ∷ func 1 [] two_calls_body ∷ [];
      entry = 3;
      types = no_result ∷ [];
      globals = global (global_type I32 true) (Const (i32 14) ∷ End ∷ []) ∷ [];
      declared = 1 ∷ [];
    }

-- the replay module of the part
abbrev pub handmade_replay : Module
handmade_replay = replay_module doubling supplied_eight handmade_part
