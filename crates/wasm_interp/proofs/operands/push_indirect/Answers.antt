-- The arguments are in the slots before the index.
use Rattle.std.proofs.Common.{◌≡◌, ◌∷◌, [], ◌++◌, OnOk, subst, ap, ◌∙◌}
use Rattle.wasm_syntax.specs.declared.values.ValType.TheVariants.{I32}
use Rattle.flat_steps.specs.FlatStep.{values_at}
use Rattle.wasm_interp.proofs.Slots.{values_after}
use Rattle.wasm_interp.proofs.operands.push_indirect.Goals as goal

pub returns : goal.returns
returns c =
    subst (λ values. OnOk c.push_values-2.result (c.push_values-2.new.values.items ≡ values))
    (values_after c.args.slots.now c.args.at c.params_at-params.result.now
    (I32 ∷ []) c.args.values.now.items c.push_values.new.values.items c.in_ok-push_values.ensures
    ∙ ap (λ types. c.args.values.now.items ++ values_at c.args.slots.now c.args.at (types ++ I32 ∷ [])) c.params_at-params.ensures)
    c.push_values-2.ensures
