use Rattle.std.proofs.Common.{◌≡◌, map}
use Rattle.replay_module_spec.specs.Merge.{constant_elem}
use Rattle.module_merge.proofs.segments.constant_elems.Given as goal

abbrev pub invariant-segments : goal.invariant-segments
invariant-segments l = l.elems.items ≡ map (constant_elem l.fn.imported) l.yielded
