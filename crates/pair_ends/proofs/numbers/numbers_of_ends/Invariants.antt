use Rattle.std.proofs.Common.{◌≡◌, map}
use Rattle.instance_spec.specs.ForeignRuns.{count_from}
use Rattle.pair_ends.specs.Ends.{end_at}
use Rattle.pair_ends.specs.Numbers.{number_if}
use Rattle.pair_ends.proofs.numbers.numbers_of_ends.Given as goal

abbrev pub invariant-indices : goal.invariant-indices
invariant-indices l = l.numbers.items ≡ map (λ index. number_if l.counts (end_at l.ends l.side index)) (count_from 0 l.index)
