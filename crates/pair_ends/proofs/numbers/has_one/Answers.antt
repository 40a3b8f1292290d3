use Rattle.std.proofs.Common.{nat_le, ap, ◌∙◌}
use Rattle.pair_spec.specs.Pairs.{defined_in}
use Rattle.pair_ends.specs.Spaces.{space}
use Rattle.pair_ends.proofs.Counted.{count_in_is}
use Rattle.pair_ends.proofs.numbers.has_one.Goals as goal

pub returns : goal.returns
returns c =
    let own = space c.args.space in
    c.at_most_one.ensures
    ∙ ap (λ n. nat_le n 1)
    (count_in_is c.args.pair.now own c.in_ok-counts.counts c.in_ok-counts.ensures c.defined_in-defined.result
    (c.defined_in-defined.ensures ∙ ap (defined_in own) c.«module».ensures))
