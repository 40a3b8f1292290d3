use Rattle.std.proofs.Common.{take}
use Rattle.std.specs.Prelude.{flat_map}
use Rattle.wasm_syntax.specs.Validity.{elem_funcs}
use Rattle.module_index.specs.Marks.{MarksMore}
use Rattle.module_index.proofs.marks.mark_elems.Given as goal

abbrev pub invariant-elems : goal.invariant-elems
invariant-elems l = MarksMore l.initial.marks.items l.marks.items (flat_map elem_funcs (take l.elem-index l.elems))
