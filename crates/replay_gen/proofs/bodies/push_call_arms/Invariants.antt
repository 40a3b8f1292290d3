use Rattle.std.proofs.Common.{◌≡◌, ◌++◌, drop, map, flat_map}
use Rattle.replay_module_spec.specs.Segments.{segments_code}
use Rattle.replay_gen.specs.Pieces.{ended}
use Rattle.replay_gen.proofs.bodies.push_call_arms.Given as goal

-- the instructions appended and those still to append are all
abbrev pub invariant-calls : goal.invariant-calls
invariant-calls l =
    l.code.items ++ flat_map ended (map (segments_code l.scope) (drop l.call-index l.calls))
    ≡ l.fn.code.items ++ flat_map ended (map (segments_code l.scope) l.calls)
