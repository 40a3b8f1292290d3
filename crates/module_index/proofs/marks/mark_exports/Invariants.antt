use Rattle.std.proofs.Common.{take}
use Rattle.std.specs.Prelude.{filter_map}
use Rattle.wasm_syntax.specs.Validity.{exported_func}
use Rattle.module_index.specs.Marks.{MarksMore}
use Rattle.module_index.proofs.marks.mark_exports.Given as goal

abbrev pub invariant-exports : goal.invariant-exports
invariant-exports l = MarksMore l.initial.marks.items l.marks.items (filter_map (λ e. exported_func e.kind) (take l.export-index l.exports))
