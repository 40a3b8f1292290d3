use Rattle.std.proofs.Common.{◌≡◌, Bool, true, not, [], get_or, List, ap, sym, ◌∙◌}
use Rattle.std.specs.Prelude.{position}
use Rattle.wasm_syntax.specs.declared.modules.Func.{Func}
use Rattle.wasm_syntax.specs.declared.modules.Module.{Module}
use Rattle.wasm_syntax.specs.ValidityTests.{is_typed_func}
use Rattle.wasm_validate.proofs.FuncLemmas.{position-found, position-none}
use Rattle.wasm_validate.proofs.funcs.first_untyped.Goals as goal

pub returns-then-not-typed-clause-place : goal.returns-then-not-typed-clause-place
returns-then-not-typed-clause-place c =
    let m = c.args.scope.now in
    let p : Func → Bool = λ f. not (is_typed_func m f) in
    let items : List Func = c.as_slice-func-items.result.now in
    let func : Func = c.func-item.result in
    let same : items ≡ m.funcs = c.as_slice-func-items.ensures ∙ ap (λ (m : Module). m.funcs) c.module.ensures in
    let here : p (get_or items c.funcs.place func) ≡ true = ap p (sym c.func-item.is) ∙ ap not (sym c.in_ok-typed.ensures ∙ c.if-not-typed.true) in
    position-found p items c.funcs.place func c.funcs-test.true (λ k lt. c.funcs.invariant k func lt) here ∙ ap (position p) same

pub returns-clause-place : goal.returns-clause-place
returns-clause-place c =
    let m = c.args.scope.now in
    let p : Func → Bool = λ f. not (is_typed_func m f) in
    let items : List Func = c.as_slice-func-items.result.now in
    let default : Func = record { ty = 0; locals = []; body = [] } in
    let same : items ≡ m.funcs = c.as_slice-func-items.ensures ∙ ap (λ (m : Module). m.funcs) c.module.ensures in
    position-none p items c.funcs.place default c.funcs-test.false (λ k lt. c.funcs.invariant k default lt) ∙ ap (position p) same
