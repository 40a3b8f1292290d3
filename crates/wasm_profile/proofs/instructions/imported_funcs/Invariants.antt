use Rattle.std.proofs.Common.{◌≡◌, ◌+◌, ◌≤◌, drop, length}
use Rattle.wasm_syntax.specs.Index.{func_import, of_kind}
use Rattle.wasm_profile.proofs.instructions.imported_funcs.Given as goal

abbrev pub invariant-imports : goal.invariant-imports
invariant-imports l = record {
  counted : length (of_kind func_import l.imports) ≡ l.count + length (of_kind func_import (drop l.import-index l.imports));
  few : l.count ≤ l.import-index;
}
