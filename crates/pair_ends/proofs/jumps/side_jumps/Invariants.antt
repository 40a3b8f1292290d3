use Rattle.std.proofs.Common.{◌≡◌, ◌++◌, drop, filter, length}
use Rattle.pair_spec.specs.Pairs.{imports_in, is_in, module_of}
use Rattle.pair_ends.specs.Spaces.{space}
use Rattle.pair_ends.specs.Jumps.{jumps_of}
use Rattle.pair_ends.proofs.jumps.side_jumps.Given as goal

-- the jumps made and those still to make are all
abbrev pub invariant-imports : goal.invariant-imports
invariant-imports l =
    l.jumps.items
    ++ jumps_of l.pair (space l.space) l.side (length l.jumps.items) (filter (λ i. is_in (space l.space) i.kind) (drop l.import-index l.import-items))
    ≡ jumps_of l.pair (space l.space) l.side 0 (imports_in (space l.space) (module_of l.pair l.side))
