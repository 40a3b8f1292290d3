-- The empty module.
use Rattle.std.specs.Prelude.{[], None}
use Rattle.wasm_syntax.specs.declared.modules.Module.{Module}

-- the module without parts, which is valid (Core 1.0, 2.5: each of its vectors may be empty)
abbrev pub empty_module : Module
empty_module = record {
  types = [];
  imports = [];
  funcs = [];
  tables = [];
  memories = [];
  globals = [];
  exports = [];
  start = None;
  elems = [];
  datas = [];
  customs = [];
}
