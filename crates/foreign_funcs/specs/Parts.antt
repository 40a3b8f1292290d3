-- A widened module of its parts.
use Rattle.wasm_syntax.specs.declared.modules.Module.{Module}
use Rattle.foreign_funcs.specs.declared.widened.CodeParts.{CodeParts}
use Rattle.foreign_funcs.specs.declared.widened.NumberedParts.{NumberedParts}
use Rattle.foreign_funcs.specs.declared.widened.KeptParts.{KeptParts}

-- the module of these parts
abbrev pub module_of_parts : CodeParts → NumberedParts → KeptParts → Module
module_of_parts code numbered kept =
    record {
      types = code.types;
      imports = code.imports;
      funcs = code.funcs;
      tables = kept.tables;
      memories = kept.memories;
      globals = kept.globals;
      exports = numbered.exports;
      start = numbered.start;
      elems = numbered.elems;
      datas = kept.datas;
      customs = kept.customs;
    }
