-- Contexts of the bodies of a module.
use Rattle.std.specs.Prelude.{List}
use Rattle.wasm_syntax.specs.declared.values.ValType.{ValType}
use Rattle.wasm_syntax.specs.declared.modules.Module.{Module}
use Rattle.wasm_syntax.specs.Index.{func_indices, all_tables, all_memories, all_globals}
use Rattle.wasm_syntax.specs.Typing.{Context}
use Rattle.wasm_syntax.specs.Validity.{declared_funcs}

-- what is known in a body of a module with these locals, labels and results (Core 1.0, 3.1.1)
abbrev pub context_of : Module
    → (locals : List ValType) → (labels : List (List ValType)) → (results : List ValType) → Context
context_of m locals labels results = record {
  types = m.types;
  funcs = func_indices m;
  tables = all_tables m;
  memories = all_memories m;
  globals = all_globals m;
  locals = locals;
  labels = labels;
  results = results;
  declared = declared_funcs m;
}
