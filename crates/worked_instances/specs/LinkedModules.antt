-- Linked modules of example pairs.
use Rattle.std.specs.Prelude.{◌≡◌, [], ◌∷◌, None, true, false, codes}
use Rattle.base.specs.declared.opcodes.TheConstants.{I32_ADD}
use Rattle.wasm_syntax.specs.declared.values.ValType.TheVariants.{I32}
use Rattle.wasm_syntax.specs.declared.instructions.Instr.TheVariants.{End, Call, CallIndirect, Const, GlobalGet, GlobalSet, Numeric}
use Rattle.wasm_syntax.specs.declared.modules.ImportKind.TheVariants as import
use Rattle.wasm_syntax.specs.declared.modules.ExportKind.TheVariants as export
use Rattle.wasm_syntax.specs.declared.modules.ElemSeg.TheVariants.{Active}
use Rattle.wasm_syntax.specs.declared.modules.Module.{Module}
use Rattle.wasm_syntax.specs.EmptyModule.{empty_module}
use Rattle.pair_spec.specs.Linked.{linked}
use Rattle.worked_histories.specs.Build.{i32, limits, global_type, export_of, func, global}
use Rattle.worked_histories.specs.Modules.{no_result, one_result}
use Rattle.worked_instances.specs.PairModules.{from_host, adders, counters, tables, returning}

-- the linked module of the two adders: the host's function comes first, then that of the left module
abbrev pub linked_adders : Module
linked_adders =
    record empty_module {
      types = one_result ∷ one_result ∷ [];
      imports = from_host (codes "f") (import.Func 1) ∷ [];
      funcs =
          func 0 [] (Call 2 ∷ Call 2 ∷ Numeric I32_ADD ∷ End ∷ [])
          ∷ func 1 [] (Call 0 ∷ Const (i32 1) ∷ Numeric I32_ADD ∷ End ∷ []) ∷ [];
      exports = export_of (codes "left.g") (export.Func 1) ∷ export_of (codes "right.f") (export.Func 2) ∷ [];
    }

-- that of the modules with shared globals: the right module's own global begins with the left one's constant
abbrev pub linked_counters : Module
linked_counters =
    record empty_module {
      types = no_result ∷ one_result ∷ no_result ∷ [];
      funcs =
          func 1 [] (Call 1 ∷ GlobalGet 0 ∷ End ∷ [])
          ∷ func 2 [] (GlobalGet 0 ∷ GlobalGet 2 ∷ Numeric I32_ADD ∷ GlobalSet 0 ∷ End ∷ []) ∷ [];
      globals =
          global (global_type I32 true) (Const (i32 10) ∷ End ∷ [])
          ∷ global (global_type I32 false) (Const (i32 3) ∷ End ∷ [])
          ∷ global (global_type I32 true) (Const (i32 3) ∷ End ∷ []) ∷ [];
      exports =
          export_of (codes "left.g") (export.Func 0) ∷ export_of (codes "left.count") (export.Global 0)
          ∷ export_of (codes "left.step") (export.Global 1) ∷ export_of (codes "right.bump") (export.Func 1) ∷ [];
    }

-- that of the modules with a shared table
abbrev pub linked_tables : Module
linked_tables =
    record empty_module {
      types = one_result ∷ no_result ∷ one_result ∷ [];
      funcs =
          func 0 [] (Const (i32 7) ∷ End ∷ []) ∷ func 2 [] (Const (i32 0) ∷ CallIndirect 2 ∷ End ∷ []) ∷ [];
      tables = limits 2 None ∷ [];
      exports = export_of (codes "left.t") (export.Table 0) ∷ [];
      elems =
          Active 0 (Const (i32 0) ∷ End ∷ []) (0 ∷ []) ∷ Active 0 (Const (i32 1) ∷ End ∷ []) (1 ∷ []) ∷ [];
    }

-- that of the modules with a chain that returns: both functions call the left module's
abbrev pub linked_returning : Module
linked_returning =
    record empty_module {
      types = one_result ∷ one_result ∷ [];
      funcs = func 0 [] (Call 0 ∷ End ∷ []) ∷ func 1 [] (Call 0 ∷ End ∷ []) ∷ [];
      exports = export_of (codes "left.f") (export.Func 0) ∷ export_of (codes "right.f") (export.Func 0) ∷ [];
    }

-- the linked modules are these
pub record WorkedLinked : Type 0 where
  pub of_adders : linked adders ≡ linked_adders
  pub of_counters : linked counters ≡ linked_counters
  pub of_tables : linked tables ≡ linked_tables
  pub of_returning : linked returning ≡ linked_returning
