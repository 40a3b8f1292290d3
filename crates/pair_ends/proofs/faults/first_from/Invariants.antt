use Rattle.std.proofs.Common.{◌≡◌, drop}
use Rattle.pair_ends.specs.Faults.{AreWithin, first_from, no_seen}
use Rattle.pair_ends.proofs.faults.first_from.Given as goal

-- the first fault of all is that of the imports still to come
abbrev pub invariant-imports : goal.invariant-imports
invariant-imports l =
    (first_from l.types l.side l.place l.seen (drop l.place l.imports) ≡ first_from l.types l.side 0 no_seen l.imports)
    × AreWithin l.place l.seen
