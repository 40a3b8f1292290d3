-- Instrumented modules in parts.
use Rattle.std.specs.Prelude.{◌<◌, length, List, All, IfSome}
use Rattle.wasm_syntax.specs.declared.modules.Export.{Export}
use Rattle.wasm_syntax.specs.declared.modules.Func.{Func}
use Rattle.wasm_syntax.specs.declared.modules.Module.{Module}
use Rattle.wasm_syntax.specs.Index.{func_indices}
use Rattle.wasm_flat.specs.Sizes.{list_limit}
use Rattle.hook_insert.specs.declared.modules.HookParts.{HookParts}
use Rattle.hook_insert.specs.declared.modules.OriginalParts.{OriginalParts}
use Rattle.hook_insert.specs.Sites.{IsLowElem, IsLowKind}

-- the indices of a module leave room for the hooks
pub record HasLowNumbers (m : Module) : Type 0 where
  pub types : length m.types < list_limit
  pub funcs : length (func_indices m) < list_limit
  pub exports : All (λ (e : Export). IsLowKind e.kind) m.exports
  pub elems : All IsLowElem m.elems
  pub start : IfSome m.start (λ func. func < list_limit)

-- the module with these functions, with the parts that it gets and the parts that it keeps
abbrev pub module_of_parts : List Func → HookParts → OriginalParts → Module
module_of_parts funcs hooking kept = record {
  types = hooking.types;
  imports = hooking.imports;
  funcs = funcs;
  tables = kept.tables;
  memories = kept.memories;
  globals = kept.globals;
  exports = hooking.exports;
  start = kept.start;
  elems = hooking.elems;
  datas = kept.datas;
  customs = hooking.customs;
}
