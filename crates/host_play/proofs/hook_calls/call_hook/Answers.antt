use Rattle.std.proofs.Common.{◌≡◌, [], length, sym, ◌∙◌}
use Rattle.host_play.proofs.HookArguments.{four_read, none_read, one_read, step_read, three_read, two_read}
use Rattle.host_play.proofs.hook_calls.call_hook.Goals as goal

pub returns-in-0 : goal.returns-in-0
returns-in-0 g c = λ args are.
    step_read g.H.Hooks.is_step c.args.hooks.now c.hook.new.self c.args.kind args [] c.args.machine.now.store
    c.of-view.result c.hook.result (none_read args (are.1 ∙ sym c.argument_count.ensures.count ∙ c.in-0.is))
    (c.of-view.ensures ∙ c.store.ensures) c.hook.ensures

pub returns-in-1 : goal.returns-in-1
returns-in-1 g c = λ args are.
    let count : length args ≡ 1 = are.1 ∙ sym c.argument_count.ensures.count ∙ c.in-1.is in
    step_read g.H.Hooks.is_step c.args.hooks.now c.hook-in-1.new.self c.args.kind args _ c.args.machine.now.store
    c.of-view.result c.hook-in-1.result
    (one_read args c.argument.result count (c.argument.ensures args are))
    (c.of-view.ensures ∙ c.store.ensures) c.hook-in-1.ensures

pub returns-in-2 : goal.returns-in-2
returns-in-2 g c = λ args are.
    let count : length args ≡ 2 = are.1 ∙ sym c.argument_count.ensures.count ∙ c.in-2.is in
    step_read g.H.Hooks.is_step c.args.hooks.now c.hook-in-2.new.self c.args.kind args _ c.args.machine.now.store
    c.of-view.result c.hook-in-2.result
    (two_read args c.argument-in-2.result c.argument-in-2-2.result count (c.argument-in-2.ensures args are)
    (c.argument-in-2-2.ensures args are))
    (c.of-view.ensures ∙ c.store.ensures) c.hook-in-2.ensures

pub returns-in-3 : goal.returns-in-3
returns-in-3 g c = λ args are.
    let count : length args ≡ 3 = are.1 ∙ sym c.argument_count.ensures.count ∙ c.in-3.is in
    step_read g.H.Hooks.is_step c.args.hooks.now c.hook-in-3.new.self c.args.kind args _ c.args.machine.now.store
    c.of-view.result c.hook-in-3.result
    (three_read args c.argument-in-3.result c.argument-in-3-2.result c.argument-in-3-3.result count
    (c.argument-in-3.ensures args are) (c.argument-in-3-2.ensures args are) (c.argument-in-3-3.ensures args are))
    (c.of-view.ensures ∙ c.store.ensures) c.hook-in-3.ensures

pub returns-in-4 : goal.returns-in-4
returns-in-4 g c = λ args are.
    let count : length args ≡ 4 = are.1 ∙ sym c.argument_count.ensures.count ∙ c.in-4.is in
    step_read g.H.Hooks.is_step c.args.hooks.now c.hook-in-4.new.self c.args.kind args _ c.args.machine.now.store
    c.of-view.result c.hook-in-4.result
    (four_read args c.argument-in-4.result c.argument-in-4-2.result c.argument-in-4-3.result
    c.argument-in-4-4.result count (c.argument-in-4.ensures args are)
    (c.argument-in-4-2.ensures args are) (c.argument-in-4-3.ensures args are)
    (c.argument-in-4-4.ensures args are))
    (c.of-view.ensures ∙ c.store.ensures) c.hook-in-4.ensures
