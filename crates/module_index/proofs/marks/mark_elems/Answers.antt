use Rattle.std.proofs.Common.{◌++◌, take, subst, ap, ◌∙◌}
use Rattle.std.specs.Prelude.{flat_map}
use Rattle.std.proofs.lemmas.List.{take_all}
use Rattle.wasm_syntax.specs.Validity.{elem_funcs}
use Rattle.module_index.specs.Marks.{AreMarks}
use Rattle.module_index.proofs.MarkLemmas.{flat-more}
use Rattle.module_index.proofs.marks.mark_elems.Goals as goal

pub elems-preserved : goal.elems-preserved
elems-preserved c = λ count done h.
    let before = done ++ flat_map elem_funcs (take c.elems.elem-index c.args.elems.now) in
    subst (AreMarks c.mark_all.new.marks.items count) (ap (λ l. before ++ l) c.funcs_of_elem.ensures
    ∙ flat-more elem_funcs done c.args.elems.now c.elems.elem-index c.elem-item.result c.elems-test.true c.elem-item.is)
    (c.mark_all.ensures count before (c.elems.invariant count done h))

pub returns : goal.returns
returns c = λ count done h.
    subst (λ l. AreMarks c.elems.marks.items count (done ++ flat_map elem_funcs l))
    (take_all c.elems.elem-index c.args.elems.now c.elems-test.false) (c.elems.invariant count done h)
