use Rattle.pair_spec.specs.Pairs.{ModulePair}
use Rattle.linked_pair.proofs.PairParts.{if_linked, if_refused, if_taken}
use Rattle.linked_pair.proofs.link.link_pair.Goals as goal

pub returns-in-Ok-clause-linked : goal.returns-in-Ok-clause-linked
returns-in-Ok-clause-linked c =
    let pair : ModulePair = record { left = c.args.left.now; right = c.args.right.now } in
    if_linked pair c.in-Ok.answer c.in-Ok.ensures

pub returns-in-Ok-clause-taken : goal.returns-in-Ok-clause-taken
returns-in-Ok-clause-taken c =
    let pair : ModulePair = record { left = c.args.left.now; right = c.args.right.now } in
    if_taken pair c.in-Ok.answer c.in-Ok.ensures

pub returns-in-Ok-clause-cause : goal.returns-in-Ok-clause-cause
returns-in-Ok-clause-cause c =
    let pair : ModulePair = record { left = c.args.left.now; right = c.args.right.now } in
    if_refused pair c.in-Ok.answer c.in-Ok.ensures
