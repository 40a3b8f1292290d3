use Rattle.std.proofs.Common.{◌*◌}
use Rattle.replay_module_spec.specs.declared.groups.TheConstants.{GROUP_CALLS}
use Rattle.replay_gen.proofs.Groups.{part_from}
use Rattle.replay_gen.proofs.imports.group.Goals as goal

pub returns-clause-group : goal.returns-clause-group
returns-clause-group g c =
    part_from GROUP_CALLS c.args.items.now (GROUP_CALLS * c.args.number) c.min.result c.min.ensures
