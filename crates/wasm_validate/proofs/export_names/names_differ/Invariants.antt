use Rattle.std.proofs.Common.{◌≡◌, ℕ, List, [], take, drop}
use Rattle.wasm_validate.specs.Names.{set_has, exports_have, are_new_names}
use Rattle.wasm_validate.proofs.export_names.names_differ.Given as goal

abbrev pub invariant-exports : goal.invariant-exports
invariant-exports l = record {
  known : (name : List ℕ) → set_has l.names name ≡ exports_have (take l.export-index l.exports) name;
  left : are_new_names (take l.export-index l.exports) (drop l.export-index l.exports) ≡ are_new_names [] l.exports;
}
