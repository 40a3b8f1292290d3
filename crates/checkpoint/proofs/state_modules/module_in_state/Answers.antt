use Rattle.std.proofs.Common.{◌∙◌}
use Rattle.checkpoint.specs.FrozenStates.{state_of_frozen}
use Rattle.checkpoint.proofs.Parts.{is_state_module}
use Rattle.checkpoint.proofs.state_modules.module_in_state.Goals as goal

pub returns : goal.returns
returns c =
    c.with_parts.ensures
    ∙ is_state_module c.args.module.now c.in_ok-kept.kept (state_of_frozen c.args.frozen.now) c.args.imported
    c.in_ok-store.store c.in_ok-segments.segments c.in_ok-kept.ensures c.requires.imported
    (record {
      tables = c.in_ok-store.ensures.tables;
      memories = c.in_ok-store.ensures.memories;
      globals = c.in_ok-store.ensures.globals;
    })
    c.in_ok-segments.ensures.elems c.in_ok-segments.ensures.datas
