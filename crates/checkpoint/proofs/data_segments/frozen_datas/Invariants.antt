use Rattle.std.proofs.Common.{◌≡◌, ◌-◌, ◌*◌, ◌++◌, drop}
use Rattle.rest_spec.specs.StateSegments.{block_segments, block_size}
use Rattle.checkpoint.specs.FrozenStates.{state_of_frozen}
use Rattle.checkpoint.proofs.data_segments.frozen_datas.Given as goal

-- the segments made and those still to make are all
abbrev pub invariant-places : goal.invariant-places
invariant-places l =
    l.datas.items
    ++ block_segments block_size (l.count - l.place) (l.place * block_size)
    (drop (l.place * block_size) (state_of_frozen l.frozen).bytes)
    ≡ block_segments block_size l.count 0 (state_of_frozen l.frozen).bytes
