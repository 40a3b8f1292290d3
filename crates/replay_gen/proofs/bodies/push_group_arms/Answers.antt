use Rattle.replay_module_spec.specs.Functions.{group_call}
use Rattle.replay_gen.proofs.Blocks.{range_arm_more}
use Rattle.replay_gen.proofs.bodies.push_group_arms.Goals as goal

pub groups-preserved : goal.groups-preserved
groups-preserved c =
    range_arm_more (group_call c.args.local) c.args.first c.groups.group c.args.code.now.items c.groups.code.items
    c.push_group_call.new.code.items c.groups.invariant c.in_ok-push_group_call.ensures
