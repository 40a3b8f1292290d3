use Rattle.std.proofs.Common.{◌≡◌, List, sym, ap, ◌∙◌, subst}
use Rattle.wasm_syntax.specs.declared.modules.Func.{Func}
use Rattle.wasm_syntax.specs.declared.modules.Module.{Module}
use Rattle.wasm_syntax.specs.Index.{imported_funcs}
use Rattle.wasm_syntax.specs.Validity.{IsValid}
use Rattle.wasm_flat.specs.Sizes.{IsShort}
use Rattle.record_replay_spec.specs.Instrumented.{each_func, instrumented_func, instrumented_module}
use Rattle.hook_insert.proofs.Accesses.{if_ok}
use Rattle.hook_insert.proofs.Few.{few_params}
use Rattle.hook_insert.proofs.Low.{insertable_funcs, low_numbers}
use Rattle.hook_insert.proofs.modules.instrumented_parts.Goals as goal

pub instrumented_funcs-requires-clause-types : goal.instrumented_funcs-requires-clause-types
instrumented_funcs-requires-clause-types c =
    few_params c.in_ok-scope.scope (subst IsShort (sym c.in_ok-scope.ensures) c.requires.short).quantities

pub instrumented_funcs-requires-clause-funcs : goal.instrumented_funcs-requires-clause-funcs
instrumented_funcs-requires-clause-funcs c =
    let short : IsShort c.in_ok-scope.scope = subst IsShort (sym c.in_ok-scope.ensures) c.requires.short in
    insertable_funcs c.in_ok-scope.scope short.funcs (subst IsValid (sym c.in_ok-scope.ensures) c.requires.valid) short

pub with_functions-requires-clause-low : goal.with_functions-requires-clause-low
with_functions-requires-clause-low c =
    low_numbers c.args.«module».now c.requires.short.funcs c.requires.valid c.requires.short

pub returns-clause-module : goal.returns-clause-module
returns-clause-module c =
    if_ok c.with_functions.result
    (λ parts is. is
    ∙ ap (λ (funcs : List Func). record (instrumented_module c.args.«module».now c.args.digest.now) { funcs = funcs })
    c.in_ok-functions.ensures.funcs
    ∙ ap (λ (m : Module). record (instrumented_module c.args.«module».now c.args.digest.now) {
      funcs = each_func m (instrumented_func m) (imported_funcs m) m.funcs;
    }) c.in_ok-scope.ensures)
    c.with_functions.ensures.«module»
