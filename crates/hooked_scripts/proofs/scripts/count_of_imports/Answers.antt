use Rattle.std.proofs.Common.{◌≡◌, ◌<◌, ◌^◌, length, map, arith, ap, ◌∙◌, length-append}
use Rattle.wasm_syntax.specs.declared.modules.Func.{Func}
use Rattle.wasm_syntax.specs.Index.{func_import, of_kind}
use Rattle.hooked_scripts.proofs.Fitting.{imports_counted}
use Rattle.hooked_scripts.proofs.scripts.count_of_imports.Goals as goal

pub overflow_cast-result : goal.overflow_cast-result
overflow_cast-result c =
    let m = c.args._module.now in
    let counted = ap length c.as_slice.ensures ∙ imports_counted m c.args.script.now c.requires.fits in
    let both = length-append (of_kind func_import m.imports) (map (λ (f : Func). f.ty) m.funcs) in
    let few = c.requires.few in
    omega (arith, counted, both, few)

pub returns : goal.returns
returns c = ap length c.as_slice.ensures ∙ imports_counted c.args._module.now c.args.script.now c.requires.fits
