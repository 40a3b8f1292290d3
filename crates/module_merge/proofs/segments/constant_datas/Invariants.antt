use Rattle.std.proofs.Common.{◌≡◌, map}
use Rattle.replay_module_spec.specs.Merge.{constant_data}
use Rattle.module_merge.proofs.segments.constant_datas.Given as goal

abbrev pub invariant-segments : goal.invariant-segments
invariant-segments l = l.datas.items ≡ map (constant_data l.fn.imported) l.yielded
