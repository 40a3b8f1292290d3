use Rattle.std.proofs.Common.{◌≡◌, ◌++◌, Some, Option, List, ap, sym, ◌∙◌}
use Rattle.std.specs.Option.{option_copied}
use Rattle.wasm_syntax.specs.declared.signatures.FuncType.{FuncType}
use Rattle.wasm_syntax.specs.declared.values.ValType.{ValType}
use Rattle.wasm_syntax.specs.Index.{type_at}
use Rattle.wasm_syntax.specs.Validity.{each_local}
use Rattle.wasm_validate.specs.Flat.{scan, body_start}
use Rattle.wasm_validate.specs.Scopes.{base}
use Rattle.wasm_validate.proofs.FuncLemmas.{results-at, typed-func}
use Rattle.wasm_validate.proofs.funcs.check.Goals as goal

pub result_of-requires : goal.result_of-requires
result_of-requires c =
    results-at c.args.scope.now.types c.args.func.now.ty c.in-Some.ty.now c.requires (sym c.type_at.ensures ∙ ap option_copied c.in-Some.is)

pub returns : goal.returns
returns c =
    let m = c.args.scope.now in
    let f = c.args.func.now in
    let ty : FuncType = c.in-Some.ty.now in
    let locals : List ValType = c.in_ok-locals.locals in
    let result : Option ValType = c.result_of.result in
    let has : type_at m f.ty ≡ Some ty = sym c.type_at.ensures ∙ ap option_copied c.in-Some.is in
    let same : locals ≡ ty.params ++ each_local f.locals =
    c.in_ok-locals.ensures ∙ ap (λ l. l ++ each_local c.as_slice-2.result.now) c.as_slice.ensures ∙ ap (λ l. ty.params ++ each_local l) c.as_slice-2.ensures
    in
    c.in_ok-typed.ensures
    ∙ ap (λ body. scan (base m locals result) body (body_start result)) c.as_slice-3.ensures
    ∙ typed-func m f ty locals result c.bodies_are_read.ensures has same c.result_of.ensures.reversed
