use Rattle.std.proofs.Common.{◌≡◌, map, take}
use Rattle.pair_ends.specs.Jumps.{jump_then}
use Rattle.pair_ends.proofs.jumps.joined.Given as goal

abbrev pub invariant-firsts : goal.invariant-firsts
invariant-firsts l = l.jumps.items ≡ map (jump_then l.seconds) (take l.first-index l.firsts)
