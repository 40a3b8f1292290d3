-- The modules of the example pairs.
use Rattle.std.specs.Prelude.{ℕ, List, [], ◌∷◌, None, true, false, codes}
use Rattle.base.specs.declared.opcodes.TheConstants.{I32_ADD}
use Rattle.wasm_syntax.specs.declared.values.ValType.TheVariants.{I32}
use Rattle.wasm_syntax.specs.declared.instructions.Instr.TheVariants.{End, Call, CallIndirect, Const, GlobalGet, GlobalSet, LocalGet, Numeric, Unreachable}
use Rattle.wasm_syntax.specs.declared.modules.Import.{Import}
use Rattle.wasm_syntax.specs.declared.modules.ImportKind.{ImportKind}
use Rattle.wasm_syntax.specs.declared.modules.ImportKind.TheVariants as import
use Rattle.wasm_syntax.specs.declared.modules.ExportKind.TheVariants as export
use Rattle.wasm_syntax.specs.declared.modules.ElemSeg.TheVariants.{Active}
use Rattle.wasm_syntax.specs.declared.modules.Module.{Module}
use Rattle.wasm_syntax.specs.EmptyModule.{empty_module}
use Rattle.pair_spec.specs.Pairs.{ModulePair}
use Rattle.worked_histories.specs.Build.{i32, func_type, limits, global_type, import_of, export_of, func, global}
use Rattle.worked_histories.specs.Modules.{no_result, one_result}

-- two modules as a pair
abbrev pub pair_of : Module → Module → ModulePair
pair_of left right = record { left = left; right = right }

-- an import from the other module, by the name of that module, and one from the host, both named by a text
abbrev pub from_left : List ℕ → ImportKind → Import
from_left name kind = import_of (codes "left") name kind

abbrev pub from_right : List ℕ → ImportKind → Import
from_right name kind = import_of (codes "right") name kind

abbrev pub from_host : List ℕ → ImportKind → Import
from_host name kind = import_of (codes "h") name kind

-- ---- two modules that add

-- a module that adds what two calls of the other module's function return
abbrev pub adds_calls : Module
adds_calls =
    record empty_module {
      types = one_result ∷ [];
      imports = from_right (codes "f") (import.Func 0) ∷ [];
      funcs = func 0 [] (Call 0 ∷ Call 0 ∷ Numeric I32_ADD ∷ End ∷ []) ∷ [];
      exports = export_of (codes "g") (export.Func 1) ∷ [];
    }

-- a module that adds 1 to the host's answer
abbrev pub adds_one : Module
adds_one =
    record empty_module {
      types = one_result ∷ [];
      imports = from_host (codes "f") (import.Func 0) ∷ [];
      funcs = func 0 [] (Call 0 ∷ Const (i32 1) ∷ Numeric I32_ADD ∷ End ∷ []) ∷ [];
      exports = export_of (codes "f") (export.Func 1) ∷ [];
    }

abbrev pub adders : ModulePair
adders = pair_of adds_calls adds_one

-- ---- a call back from the host

-- a module that adds 1 to the result of the other module's `run`, and whose `back` calls the other module's `four`
abbrev pub calls_run : Module
calls_run =
    record empty_module {
      types = one_result ∷ [];
      imports = from_right (codes "run") (import.Func 0) ∷ from_right (codes "four") (import.Func 0) ∷ [];
      funcs =
          func 0 [] (Call 0 ∷ Const (i32 1) ∷ Numeric I32_ADD ∷ End ∷ []) ∷ func 0 [] (Call 1 ∷ End ∷ []) ∷ [];
      exports = export_of (codes "g") (export.Func 2) ∷ export_of (codes "back") (export.Func 3) ∷ [];
    }

-- a module whose `run` calls the host, and whose `four` returns 4
abbrev pub calls_host : Module
calls_host =
    record empty_module {
      types = one_result ∷ [];
      imports = from_host (codes "f") (import.Func 0) ∷ [];
      funcs = func 0 [] (Call 0 ∷ End ∷ []) ∷ func 0 [] (Const (i32 4) ∷ End ∷ []) ∷ [];
      exports = export_of (codes "run") (export.Func 1) ∷ export_of (codes "four") (export.Func 2) ∷ [];
    }

abbrev pub callbacks : ModulePair
callbacks = pair_of calls_run calls_host

-- ---- a trap on the other side

-- a module that calls the other module's function with 7
abbrev pub passes_seven : Module
passes_seven =
    record empty_module {
      types = func_type (I32 ∷ []) (I32 ∷ []) ∷ one_result ∷ [];
      imports = from_right (codes "f") (import.Func 0) ∷ [];
      funcs = func 1 [] (Const (i32 7) ∷ Call 0 ∷ End ∷ []) ∷ [];
      exports = export_of (codes "g") (export.Func 1) ∷ [];
    }

-- a module whose function traps after its first instruction
abbrev pub traps_late : Module
traps_late =
    record empty_module {
      types = func_type (I32 ∷ []) (I32 ∷ []) ∷ [];
      funcs = func 0 [] (LocalGet 0 ∷ Unreachable ∷ End ∷ []) ∷ [];
      exports = export_of (codes "f") (export.Func 0) ∷ [];
    }

abbrev pub trapping : ModulePair
trapping = pair_of passes_seven traps_late

-- ---- shared globals

-- a module with a mutable global, which the other module changes, and an immutable one
abbrev pub has_counter : Module
has_counter =
    record empty_module {
      types = no_result ∷ one_result ∷ [];
      imports = from_right (codes "bump") (import.Func 0) ∷ [];
      funcs = func 1 [] (Call 0 ∷ GlobalGet 0 ∷ End ∷ []) ∷ [];
      globals =
          global (global_type I32 true) (Const (i32 10) ∷ End ∷ [])
          ∷ global (global_type I32 false) (Const (i32 3) ∷ End ∷ []) ∷ [];
      exports =
          export_of (codes "g") (export.Func 1) ∷ export_of (codes "count") (export.Global 0)
          ∷ export_of (codes "step") (export.Global 1) ∷ [];
    }

-- a module that adds a global of its own, which begins with the other module's immutable global, to the mutable one
abbrev pub adds_step : Module
adds_step =
    record empty_module {
      types = no_result ∷ [];
      imports =
          from_left (codes "count") (import.Global (global_type I32 true))
          ∷ from_left (codes "step") (import.Global (global_type I32 false)) ∷ [];
      funcs = func 0 [] (GlobalGet 0 ∷ GlobalGet 2 ∷ Numeric I32_ADD ∷ GlobalSet 0 ∷ End ∷ []) ∷ [];
      globals = global (global_type I32 true) (GlobalGet 1 ∷ End ∷ []) ∷ [];
      exports = export_of (codes "bump") (export.Func 0) ∷ [];
    }

abbrev pub counters : ModulePair
counters = pair_of has_counter adds_step

-- ---- a shared table

-- a module whose table has a function that returns 7
abbrev pub has_table : Module
has_table =
    record empty_module {
      types = one_result ∷ [];
      funcs = func 0 [] (Const (i32 7) ∷ End ∷ []) ∷ [];
      tables = limits 2 None ∷ [];
      exports = export_of (codes "t") (export.Table 0) ∷ [];
      elems = Active 0 (Const (i32 0) ∷ End ∷ []) (0 ∷ []) ∷ [];
    }

-- a module that puts its function second into the other module's table; this function calls what is first there
abbrev pub calls_first : Module
calls_first =
    record empty_module {
      types = no_result ∷ one_result ∷ [];
      imports = from_left (codes "t") (import.Table (limits 1 None)) ∷ [];
      funcs = func 1 [] (Const (i32 0) ∷ CallIndirect 1 ∷ End ∷ []) ∷ [];
      elems = Active 0 (Const (i32 1) ∷ End ∷ []) (0 ∷ []) ∷ [];
    }

abbrev pub tables : ModulePair
tables = pair_of has_table calls_first

-- ---- a chain that returns

-- a module whose import the other module passes on from the module's own function
abbrev pub calls_itself : Module
calls_itself =
    record empty_module {
      types = one_result ∷ [];
      imports = from_right (codes "f") (import.Func 0) ∷ [];
      funcs = func 0 [] (Call 0 ∷ End ∷ []) ∷ [];
      exports = export_of (codes "f") (export.Func 1) ∷ [];
    }

-- a module that passes on what it imports, and has a function that calls it
abbrev pub passes_back : Module
passes_back =
    record empty_module {
      types = one_result ∷ [];
      imports = from_left (codes "f") (import.Func 0) ∷ [];
      funcs = func 0 [] (Call 0 ∷ End ∷ []) ∷ [];
      exports = export_of (codes "f") (export.Func 0) ∷ [];
    }

abbrev pub returning : ModulePair
returning = pair_of calls_itself passes_back
