use Rattle.std.proofs.Common.{◌≡◌, Option, Some, None, false, IfOk, sym, subst, ◌∙◌}
use Rattle.wasm_validate.specs.declared.changes.Change.{Change}
use Rattle.wasm_validate.specs.Flat.{State, is_closed, within}
use Rattle.wasm_validate.specs.Scopes.{Gives, base_of}
use Rattle.wasm_validate.specs.Stacks.{then_some}
use Rattle.wasm_validate.proofs.StepLemmas.{next-other}
use Rattle.wasm_validate.proofs.body.step.Goals as goal

pub returns-in-Some : goal.returns-in-Some
returns-in-Some c =
    let func = c.args.func.now in
    let before = c.args.stacks.now in
    let open_ : is_closed before.levels ≡ false = sym c.is_closed.ensures ∙ c.if-is_closed.false in
    let gives : Gives (Some c.in-Some.change) (within (base_of func) before.levels) c.args.instr.now =
    subst (λ (o : Option Change). Gives o (within (base_of func) before.levels) c.args.instr.now) c.in-Some.is c.change.ensures
    in
    subst (λ (o : Option State). IfOk c.apply.result (λ passed. then_some passed c.apply.new.self ≡ o))
    (next-other (base_of func) c.args.instr.now before (Some c.in-Some.change) open_ c.in_default.not-Block
    c.in_default.not-Loop c.in_default.not-If c.in_default.not-Else c.in_default.not-End gives) c.apply.ensures

pub returns-in-None : goal.returns-in-None
returns-in-None c =
    let func = c.args.func.now in
    let before = c.args.stacks.now in
    let open_ : is_closed before.levels ≡ false = sym c.is_closed.ensures ∙ c.if-is_closed.false in
    let gives : Gives None (within (base_of func) before.levels) c.args.instr.now =
    subst (λ (o : Option Change). Gives o (within (base_of func) before.levels) c.args.instr.now) c.in-None.is c.change.ensures
    in
    next-other (base_of func) c.args.instr.now before None open_ c.in_default.not-Block c.in_default.not-Loop
    c.in_default.not-If c.in_default.not-Else c.in_default.not-End gives
