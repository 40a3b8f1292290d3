use Rattle.std.proofs.Common.{◌≡◌, ◌∙◌, List, Bool, ◌++◌, ◌≤◌, ◌+◌, ap, ap₂, length, arith}
use Rattle.wasm_syntax.specs.declared.modules.Func.{Func}
use Rattle.guarded_module_spec.specs.GuardedModules.{func_fronts}
use Rattle.guard_maker.specs.Parts.{marked_fronts}
use Rattle.guard_maker.proofs.Called.{fronts_marked}
use Rattle.guard_maker.proofs.funcs.push_fronts_called.Goals as goal

pub returns : goal.returns
returns c =
    let n = c.args.n in
    let originals = c.args.sides.now.originals.items in
    let old : List Func = c.args.list.now.items in
    let many = c.requires.few in
    let few : n.imports + length originals ≤ n.past = omega (arith, many) in
    c.in_ok-push_func_fronts.ensures
    ∙ ap₂ (λ (marks : List Bool) (funcs : List Func). old
    ++ marked_fronts c.args.types.now n marks n.imports funcs)
    c.as_slice-2.ensures.value c.as_slice-3.ensures.value
    ∙ ap (λ l. old ++ l)
    (fronts_marked c.args.types.now n c.in_ok-marks.marks.items n.past n.imports
    (c.as_slice-first.result.now ++ c.as_slice.result.now) originals c.in_ok-marks.ensures few)
    ∙ ap₂ (λ (a b : List Func). old ++ func_fronts c.args.types.now n (a ++ b) n.imports originals)
    c.as_slice-first.ensures.value c.as_slice.ensures.value
