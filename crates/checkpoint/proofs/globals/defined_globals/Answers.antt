use Rattle.std.proofs.Common.{◌≡◌, drop, ◌∙◌}
use Rattle.std.proofs.lemmas.Result.{IfOk-weaker}
use Rattle.rest_spec.specs.StateModules.{state_globals}
use Rattle.checkpoint.proofs.GlobalValues.{as_many, globals_by}
use Rattle.checkpoint.proofs.globals.defined_globals.Goals as goal

pub state_globals-requires : goal.state_globals-requires
state_globals-requires c =
    as_many c.args.globals.now c.as_slice.result.now c.args.frozen.now.globals c.args.imported c.requires
    (c.as_slice.ensures.value ∙ c.in_ok-values.ensures)

pub returns : goal.returns
returns c =
    let globals = c.args.globals.now in
    let values = c.as_slice.result.now in
    let known = drop c.args.imported c.args.frozen.now.globals in
    IfOk-weaker c.state_globals.result (λ made. made ≡ state_globals globals values)
    (λ made. made ≡ state_globals globals known)
    (λ made h. globals_by globals made values known (c.as_slice.ensures.value ∙ c.in_ok-values.ensures) h)
    c.state_globals.ensures
