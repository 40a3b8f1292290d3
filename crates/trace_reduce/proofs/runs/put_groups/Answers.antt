use Rattle.std.proofs.Common.{[], ◌++◌, ap, ◌∙◌}
use Rattle.std.proofs.lemmas.List.{drop_all}
use Rattle.trace_reduce.specs.ByteGroups.{bytes_of, merged_from}
use Rattle.trace_reduce.specs.Runs.{runs_from}
use Rattle.trace_reduce.proofs.runs.put_groups.Goals as goal

pub returns : goal.returns
returns c =
    c.others.invariant
    ∙ ap
    (λ later. c.others.runs.effects.items
    ++ runs_from c.others.runs.start c.others.runs.run.items (bytes_of (merged_from c.others.group later)))
    (drop_all c.others.next-index c.args.others.now c.others-test.false)
    ∙ c.in_ok-put_group.ensures []
