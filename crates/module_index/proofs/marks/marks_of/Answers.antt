use Rattle.std.proofs.Common.{◌≡◌, ℕ, [], ◌++◌, replicate, false, Option, ap, subst, ◌∙◌, rules}
use Rattle.std.specs.Prelude.{filter_map, flat_map}
use Rattle.wasm_syntax.specs.declared.modules.Export.{Export}
use Rattle.wasm_syntax.specs.Validity.{elem_funcs, exported_func}
use Rattle.module_index.specs.Marks.{AreMarks}
use Rattle.module_index.proofs.MarkLemmas.{none-marked}
use Rattle.module_index.proofs.marks.marks_of.Goals as goal

pub returns : goal.returns
returns c =
    let m = c.args.«module».now in
    let count = c.args.count in
    let picks : Export → Option ℕ = λ e. exported_func e.kind in
    let fresh : c.in_ok-marks.marks.items ≡ replicate count false = search rules in
    let elems : AreMarks c.mark_elems.new.marks.items count (flat_map elem_funcs c.as_slice.result.now) =
    c.mark_elems.ensures count [] (none-marked count c.in_ok-marks.marks.items fresh) in
    let exports : AreMarks c.mark_exports.new.marks.items count
    (flat_map elem_funcs c.as_slice.result.now ++ filter_map picks c.as_slice-2.result.now) =
    c.mark_exports.ensures count (flat_map elem_funcs c.as_slice.result.now) elems in
    subst (AreMarks c.mark_exports.new.marks.items count)
    (ap (λ e. flat_map elem_funcs e ++ filter_map picks c.as_slice-2.result.now) c.as_slice.ensures
    ∙ ap (λ x. flat_map elem_funcs m.elems ++ filter_map picks x) c.as_slice-2.ensures) exports
