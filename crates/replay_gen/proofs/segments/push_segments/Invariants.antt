use Rattle.std.proofs.Common.{◌≡◌, ◌++◌, drop}
use Rattle.replay_module_spec.specs.Segments.{segments_code}
use Rattle.replay_gen.proofs.segments.push_segments.Given as goal

-- the instructions appended and those still to append are all
abbrev pub invariant-segments : goal.invariant-segments
invariant-segments l =
    l.code.items ++ segments_code l.scope (drop l.segment-index l.segments)
    ≡ l.fn.code.items ++ segments_code l.scope l.segments
