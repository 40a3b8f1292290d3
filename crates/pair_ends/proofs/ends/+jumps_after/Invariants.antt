use Rattle.pair_ends.proofs.ends.+jumps_after.Given as goal

abbrev pub decreases-jumps_after : goal.decreases-jumps_after
decreases-jumps_after l = l.count
