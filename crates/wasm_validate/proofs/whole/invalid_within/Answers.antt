use Rattle.std.proofs.Common.{◌≡◌, ◌+◌, Some, None, true, ap, sym, ◌∙◌}
use Rattle.wasm_syntax.specs.ValidityTests.{is_valid_outside}
use Rattle.wasm_validate.proofs.FuncLemmas.{place-of_first}
use Rattle.wasm_validate.proofs.whole.invalid_within.Goals as goal

pub returns-in-None : goal.returns-in-None
returns-in-None c =
    let valid : is_valid_outside c.args.scope.now ≡ true = sym c.in_ok-is_valid_outside.ensures ∙ c.if-not-branch.false in
    place-of_first c.args.scope.now None valid (sym c.in-None.is ∙ c.in_ok-first_untyped.ensures.place)

pub returns-in-Some : goal.returns-in-Some
returns-in-Some c =
    let valid : is_valid_outside c.args.scope.now ≡ true = sym c.in_ok-is_valid_outside.ensures ∙ c.if-not-branch.false in
    ap (λ n. Some (Some (n + c.in-Some.place))) c.imported_funcs.ensures
    ∙ place-of_first c.args.scope.now (Some c.in-Some.place) valid (sym c.in-Some.is ∙ c.in_ok-first_untyped.ensures.place)
