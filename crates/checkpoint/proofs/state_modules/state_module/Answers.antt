use Rattle.std.proofs.Common.{sym, ap, ◌∙◌, subst}
use Rattle.wasm_syntax.specs.Validity.{IsValid}
use Rattle.rest_spec.specs.StateModules.{state_module_of}
use Rattle.checkpoint.specs.FrozenStates.{state_of_frozen}
use Rattle.checkpoint.proofs.Parts.{enough_known, enough_supplied, imported_given}
use Rattle.checkpoint.proofs.state_modules.state_module.Goals as goal

pub module_in_state-requires : goal.module_in_state-requires
module_in_state-requires c =
    let m = c.args.module.now in
    let given = c.module.result.now in
    let supplied = c.as_slice-imported.result.now in
    record {
      imported =
          imported_given m given c.args.supply.now supplied c.module.ensures.same c.requires.runnable.supplied
          c.as_slice-imported.ensures;
      globals =
          enough_known m given c.args.supply.now supplied c.args.frozen.now.globals c.module.ensures.same
          c.requires.runnable.supplied c.requires.state.globals c.as_slice-imported.ensures;
    }

pub supply_in_state-requires : goal.supply_in_state-requires
supply_in_state-requires c =
    enough_supplied c.args.module.now c.args.supply.now c.args.frozen.now.globals c.requires.runnable.supplied
    c.requires.state.globals

pub new-requires : goal.new-requires
new-requires c =
    let state = state_of_frozen c.args.frozen.now in
    let valid =
    c.state_modules_are_valid.ensures c.args.module.now c.args.supply.now state c.requires.runnable c.requires.state in
    subst IsValid
    (sym (c.in_ok-made.ensures ∙ ap (λ m. state_module_of m state) c.module.ensures.same))
    valid.runnable.valid
